-- The file of starts: kind 4, the height, and the start of each node from 0 on. Assumes nothing.
use Rattle.std.specs.Prelude.{ℕ, suc, ◌+◌, ◌*◌, ◌^◌, not, List, ◌++◌, length, take, drop, ◌==◌, slice_index}
use Rattle.fault.specs.declared.Fault.{Fault}
use Rattle.fault.specs.declared.Fault.TheVariants.{Malformed, OutOfRange}
use Rattle.fault.specs.Lowest.{when}
use Rattle.tree.specs.Receivers.{list_faults}
use Rattle.wire.specs.Head.{or_else, head_faults}

-- where the start of node i begins
abbrev pub start_at : ℕ → ℕ
start_at i = 2 + 32 * i

-- the start of node i
abbrev pub start_in : List ℕ → ℕ → List ℕ
start_in s i = take 32 (drop (start_at i) s)

-- how many bytes a file of starts has, for a tree of height h: it has a start for each number below 2^(h + 1)
abbrev pub starts_size : ℕ → ℕ
starts_size h = start_at (2 ^ suc h)

-- all that is wrong with a file that is to be one of starts
abbrev pub starts_faults : List ℕ → List Fault
starts_faults s = or_else (head_faults 4 s) (when (not (length s == starts_size (slice_index s 1))) Malformed)

-- all that is wrong with a file of starts for a tree of height h, and with the receivers us of that tree for whom it is read
abbrev pub asked_faults : ℕ → List ℕ → List ℕ → List Fault
asked_faults h us s = starts_faults s ++ when (not (slice_index s 1 == h)) OutOfRange ++ list_faults h us
