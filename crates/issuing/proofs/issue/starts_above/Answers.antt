-- Each turn has one start more, or finds one that was not kept.
use Rattle.std.proofs.Common.{◌≡◌, suc, ◌/◌, ◌^◌, replicate, refl, ◌∙◌, add-one, arith}
use Rattle.std.proofs.lemmas.List.{length-set}
use Rattle.starts.specs.Format.{start_in}
use Rattle.starts.specs.Kept.{is_kept}
use Rattle.tree.proofs.Tests.{told, untold}
use Rattle.issuing.proofs.Above.{none_above, more_above, missing_above}
use Rattle.issuing.proofs.issue.starts_above.Goals as goal

pub loop-level-init : goal.loop-level-init
loop-level-init c = (refl, λ h us s has. none_above h us s c.args.own (replicate 16 (replicate 32 0)))

pub returns-in_err-above : goal.returns-in_err-above
returns-in_err-above c h us s has =
    let n = c.loop-level.level in
    let node = c.args.own / 2 ^ suc n in
    let e = rw (add-one n) at (c.in_err-above.ensures h us s has) in
    rw c.from_residual.ensures (missing_above h us c.args.own n c.args.height.levels c.loop-level-test.true (untold (is_kept h us node) (start_in s node) e))

pub loop-level-preserved : goal.loop-level-preserved
loop-level-preserved c =
    let n = c.loop-level.level in
    let above = c.loop-level.above in (
      length-set above n c.in_ok-above.field-0 ∙ c.loop-level.invariant.0,
      λ h us s has.
          let node = c.args.own / 2 ^ suc n in
          let (kept, start) = told (is_kept h us node) c.in_ok-above.field-0 (start_in s node) (rw (add-one n) at (c.in_ok-above.ensures h us s has)) in
          more_above h us s c.args.own n above c.in_ok-above.field-0 (omega arith) (c.loop-level.invariant.1 h us s has) kept start,
    )

pub returns : goal.returns
returns c h us s has = let all : c.loop-level.level ≡ c.args.height.levels = omega arith in rw all at (c.loop-level.invariant.1 h us s has)
