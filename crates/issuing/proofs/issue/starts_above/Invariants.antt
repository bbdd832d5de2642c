-- So many of the starts were kept as the loop has had turns, and stand in their places.
use Rattle.std.proofs.Common.{◌≡◌, ℕ, List, length}
use Rattle.starts.specs.Reading.{HasStarts}
use Rattle.issuing.specs.Served.{AllAbove}
use Rattle.issuing.proofs.issue.starts_above.Given as goal

abbrev pub invariant-loop-level : goal.invariant-loop-level
invariant-loop-level l = (length l.above ≡ 16) × ((h : ℕ) (us s : List ℕ) → HasStarts h us s l.starts → AllAbove h us s l.own l.level l.above)
