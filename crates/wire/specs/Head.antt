-- The first two bytes of every file: its kind, and the height of its tree. Assumes nothing.
use Rattle.std.specs.Prelude.{ℕ, not, ◌||◌, List, [], ◌∷◌, length, ◌==◌, nat_lt, slice_index}
use Rattle.fault.specs.declared.Fault.{Fault}
use Rattle.fault.specs.declared.Fault.TheVariants.{Malformed, OutOfRange}
use Rattle.fault.specs.Lowest.{when}
use Rattle.tree.specs.Receivers.{is_height}

-- more is judged only where nothing is wrong so far
abbrev pub or_else : List Fault → List Fault → List Fault
or_else [] more = more
or_else (f ∷ fs) more = f ∷ fs

-- another kind, or too short to have a height; and else a height that no tree has
abbrev pub head_faults : ℕ → List ℕ → List Fault
head_faults kind s = or_else (when (nat_lt (length s) 2 || not (slice_index s 0 == kind)) Malformed) (when (not (is_height (slice_index s 1))) OutOfRange)
