-- What is below a node is as many bits longer as it is steps below.
use Rattle.std.proofs.Common.{◌≡◌, ◌<◌, ◌/◌, ◌^◌, eqb, ⊎_elim, pow_pos, ◌∙◌, sym, arith}
use Rattle.std.proofs.lemmas.Bool.{eqb-true, eqb-false, cases_Bool}
use Rattle.tree.proofs.Up.{up_le, up_div}
use Rattle.keys.proofs.Steps.{found, missed, length_apart}
use Rattle.keys.proofs.descent.steps_down.Goals as goal

pub returns-in_err-checked_ilog2 : goal.returns-in_err-checked_ilog2
returns-in_err-checked_ilog2 c h l =
    let none : c.args.to ≡ 0 = c.in_err-checked_ilog2.ensures.none in
    c.from_residual.ensures ∙ missed h c.args.from c.args.to l (λ pos (d, e). omega (arith, up_le d c.args.to, e, none))

pub returns-in_err-steps : goal.returns-in_err-steps
returns-in_err-steps c h l =
    let high = c.in_ok-checked_ilog2.ensures in
    let low = c.in_ok-checked_ilog2-2.ensures in
    let fewer = c.in_err-steps.ensures in
    c.from_residual-in_err-steps.ensures
    ∙ missed h c.args.from c.args.to l
    (λ pos (d, e). fewer (omega (arith, length_apart d c.args.from c.args.to _ _ low.power_le low.next_power_gt high.power_le high.next_power_gt e)))

pub returns : goal.returns
returns c h l =
    let high = c.in_ok-checked_ilog2.ensures in
    let low = c.in_ok-checked_ilog2-2.ensures in
    let (le, count) = c.in_ok-steps.ensures in
    let steps = c.in_ok-steps.steps in
    let pos : 0 < c.args.from = omega (arith, low.power_le, pow_pos c.in_ok-checked_ilog2-2.field-0) in
    c.then_some.ensures
    ∙ ⊎_elim
    (λ t. rw t (found h c.args.from c.args.to l steps pos (up_div steps c.args.to ∙ eqb-true _ _ t)))
    (λ f.
    rw f
    (missed h c.args.from c.args.to l
    (λ _ (d, e).
    let same : d ≡ steps = omega (arith, length_apart d c.args.from c.args.to _ _ low.power_le low.next_power_gt high.power_le high.next_power_gt e, count) in
    eqb-false _ _ f (sym (up_div steps c.args.to) ∙ rw same at e))))
    (cases_Bool (eqb (c.args.to / 2 ^ steps) c.args.from))
