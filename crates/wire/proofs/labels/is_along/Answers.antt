-- The places are held against those of the way, one by one.
use Rattle.std.proofs.Common.{sym, ◌∙◌}
use Rattle.tree.specs.Walks.{left_of}
use Rattle.wire.proofs.Tested.{others_ended, one_differs, one_same, ended}
use Rattle.wire.proofs.labels.is_along.Goals as goal

pub returns-in_default : goal.returns-in_default
returns-in_default c = sym (others_ended c.in-Some.ensures.steps c.in_default.ensures.steps.0) ∙ c.loop-place.invariant.2

pub returns-then-not-is_same : goal.returns-then-not-is_same
returns-then-not-is_same c =
    sym (one_differs c.in-Some.ensures.steps c.in-Some-next.ensures.steps (sym c.is_same.ensures ∙ c.if-not-is_same.true)) ∙ c.loop-place.invariant.2

pub loop-place-preserved : goal.loop-place-preserved
loop-place-preserved c =
    (tt, tt, sym (one_same c.in-Some.ensures.steps c.in-Some-next.ensures.steps (sym c.is_same.ensures ∙ c.if-not-is_same.false)) ∙ c.loop-place.invariant.2)

pub returns : goal.returns
returns c = ended left_of c.loop-place.left c.next-2.new.self c.next-2.result c.is_none.result c.in-None.ensures.steps.0 c.next-2.ensures.steps c.is_none.ensures ∙ c.loop-place.invariant.2
