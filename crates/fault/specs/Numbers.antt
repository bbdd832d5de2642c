-- The number of each cause of refusal. Assumes nothing.
use Rattle.std.specs.Prelude.{ℕ, Ok, Err, Result}
use Rattle.fault.specs.declared.Fault.{Fault}
use Rattle.fault.specs.declared.Fault.TheVariants.{Malformed, OutOfRange, NotRising, ImproperPart, SharedReceiver, WrongLabels, TooManyRevoked, NotCovered, AllFalse, NotTraceable}

abbrev pub number_of : Fault → ℕ
number_of Malformed = 1
number_of OutOfRange = 2
number_of NotRising = 3
number_of ImproperPart = 4
number_of SharedReceiver = 5
number_of WrongLabels = 6
number_of TooManyRevoked = 7
number_of NotCovered = 8
number_of AllFalse = 9
number_of NotTraceable = 10

-- that of an answer's fault, and 0 where there is none
abbrev pub number_in : {A : Type 0} → Result A Fault → ℕ
number_in (Ok _) = 0
number_in (Err f) = number_of f
