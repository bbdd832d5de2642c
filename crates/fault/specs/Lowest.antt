-- The answer of whoever reads a thing whole: what was read, or the lowest of all faults found. Assumes nothing.
use Rattle.std.specs.Prelude.{◌≡◌, ◌≤◌, Bool, cond, List, [], ◌∷◌, Some, None, Ok, Err, Option, Result, nat_le}
use mathlib.Core.List.{Memᴰ}
use Rattle.fault.specs.declared.Fault.{Fault}
use Rattle.fault.specs.Numbers.{number_of}

-- the fault, if there is cause for it
abbrev pub when : Bool → Fault → List Fault
when b f = cond b (f ∷ []) []

-- the one with the lower number
abbrev pub lower : Option Fault → Option Fault → Option Fault
lower None b = b
lower (Some f) None = Some f
lower (Some f) (Some g) = cond (nat_le (number_of f) (number_of g)) (Some f) (Some g)

-- the lowest of some faults, where there is one
abbrev pub lowest : List Fault → Option Fault
lowest [] = None
lowest (f ∷ fs) = lower (Some f) (lowest fs)

-- the value, unless there is a fault
abbrev pub unless : {A : Type 0} → Option Fault → A → Result A Fault
unless None v = Ok v
unless (Some f) v = Err f

-- what is read, or the lowest of its faults
abbrev pub judged : {A : Type 0} → List Fault → A → Result A Fault
judged fs v = unless (lowest fs) v

abbrev pub Least : List Fault → Option Fault → Type 0
Least fs None = fs ≡ []
Least fs (Some f) = Memᴰ f fs × ((g : Fault) → Memᴰ g fs → number_of f ≤ number_of g)

-- The lowest of some faults is one of them, and none of them is lower; only of no faults there is none.
abbrev pub LowestLeast : Type 0
LowestLeast = (fs : List Fault) → Least fs (lowest fs)
