-- The levels so far are pushed.
use Rattle.std.proofs.Common.{◌≡◌, vec_items}
use Rattle.starts.specs.Levels.{levels_above}
use Rattle.starts.proofs.nodes.nodes_above.Given as goal

abbrev pub invariant-loop-level : goal.invariant-loop-level
invariant-loop-level l = vec_items l.nodes ≡ levels_above l.asked.height.levels l.asked.list.now l.level
