-- What is to be found in the steps that are left is what is to be found in all.
use Rattle.std.proofs.Common.{◌≡◌, ◌-◌}
use Rattle.tree.specs.Nodes.{below}
use Rattle.wire.proofs.sending.is_below.Given as goal

abbrev pub invariant-loop : goal.invariant-loop
invariant-loop l = below (l.end - l.counter) l.above l.here ≡ below l.end l.above l.node
