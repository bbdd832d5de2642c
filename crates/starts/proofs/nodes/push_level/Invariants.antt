-- What was pushed, and what the receivers still to come give, is the whole level.
use Rattle.std.proofs.Common.{◌≡◌, ◌++◌, map, drop, vec_items}
use Rattle.starts.specs.Levels.{node_on, unrepeated, level_above}
use Rattle.starts.proofs.nodes.push_level.Given as goal

abbrev pub invariant-loop-receiver : goal.invariant-loop-receiver
invariant-loop-receiver l =
    vec_items l.nodes ++ unrepeated l.last (map (node_on l.asked.height.levels l.level) (drop l.receiver-index l.asked.list.now))
    ≡ vec_items l.initial.nodes ++ level_above l.asked.height.levels l.asked.list.now l.level
