-- What is left in lent memory, and when it is too short. Assumes nothing.
use Rattle.std.specs.Prelude.{ℕ, cond, List, ◌++◌, length, drop, Some, None, Ok, Err, Option, Result, nat_le}
use Rattle.fault.specs.declared.Fault.{Fault}
use Rattle.fault.specs.declared.Refusal.{Refusal}
use Rattle.fault.specs.declared.Refusal.TheVariants.{Faulty, NoRoom}

-- memory, with a list written over its front
abbrev pub over : {A : Type 0} → List A → List A → List A
over xs memory = xs ++ drop (length xs) memory

-- a list is written over the front, and a refusal leaves all as it was
abbrev pub afterwards : {A T E : Type 0} → Result T E → List A → List A → List A
afterwards (Ok _) xs memory = over xs memory
afterwards (Err _) xs memory = memory

-- how many were written, with so much needed of so much room; else the fault, or else too little room
abbrev pub fitted : Option Fault → ℕ → ℕ → ℕ → Result ℕ Refusal
fitted (Some f) needed room n = Err (Faulty f)
fitted None needed room n = cond (nat_le needed room) (Ok n) (Err NoRoom)
