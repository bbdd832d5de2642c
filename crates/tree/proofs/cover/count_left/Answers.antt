-- The first receiver of the right side is where the list is cut.
use Rattle.std.proofs.Common.{ℕ, ◌∙◌, subst}
use Rattle.tree.specs.Receivers.{Cut}
use Rattle.tree.proofs.Branches.{same_first}
use Rattle.tree.proofs.cover.count_left.Goals as goal

pub returns : goal.returns
returns c =
    let right = c.side.ensures in
    let first = same_first right.height right.levels right.node in
    record {
      within = c.count_before.ensures.within;
      cut = subst (λ (m : ℕ). Cut c.args.receivers.now c.count_before.result m) (c.first_receiver.ensures ∙ first) c.count_before.ensures.cut;
    }
