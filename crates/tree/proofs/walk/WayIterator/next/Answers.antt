-- The node that is given is the first of what is left.
use Rattle.std.proofs.Common.{suc, ◌/◌, length, ap, ◌∙◌, arith}
use Rattle.tree.specs.Ways.{above}
use Rattle.tree.proofs.Walked.{next_hanging}
use Rattle.tree.proofs.walk.WayIterator.next.Goals as goal

pub returns : goal.returns
returns c =
    let w = c.in_ok-self.field-0 in
    let climbed = c.in_ok-self.ensures in
    let e = climbed.1 ∙ next_hanging w.hanging w.first w.node (above w.above (suc w.steps) (w.first / 2) w.leaf) climbed.0 in
    let shorter = ap length e in
    record { steps = rw c.sibling_of.ensures e; goes = record { on = λ f. (tt, tt, omega (arith, shorter)); keeps = tt; rests = λ f. tt } }
