-- What is left is the same from where something hangs off the way.
use Rattle.std.proofs.Common.{arith}
use Rattle.tree.proofs.Walked.{nothing_left, next_above}
use Rattle.tree.proofs.way.Way.climbed.Goals as goal

pub returns-then-self-eq0 : goal.returns-then-self-eq0
returns-then-self-eq0 c = let w = c.args.self in nothing_left w.hanging w.above _ w.first _ w.node w.leaf (omega arith) c.if-self-eq0.true

pub returns : goal.returns
returns c = let w = c.args.self in (omega arith, next_above w.hanging w.above w.steps w.first w.node w.leaf (omega arith) c.if-self-eq0.false)
