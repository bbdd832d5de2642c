-- The start of 0 is always kept, so it is the nodes above that decide.
use Rattle.std.proofs.Common.{◌≡◌, ℕ, ◌^◌, ltb, refl, ap, ◌∙◌}
use Rattle.std.proofs.lemmas.Bool.{both_ways}
use Rattle.tree.specs.Nodes.{leaf}
use Rattle.tree.proofs.Tests.{told, untold}
use Rattle.starts.specs.Format.{start_in}
use Rattle.starts.specs.Kept.{is_kept}
use Rattle.issuing.proofs.Above.{gathered}
use Rattle.std.proofs.Common.{arith}
use Rattle.std.proofs.lemmas.Grind.{common_steps}
use Rattle.issuing.proofs.issue.gather.Goals as goal
use Rattle.issuing.proofs.issue.gather.Goals.{In_ok-above}

pub returns-in_err-all : goal.returns-in_err-all
returns-in_err-all c h us s has =
    absurd (both_ways (is_kept h us 0) (untold (is_kept h us 0) (start_in s 0) (c.in_err-all.ensures h us s has)) refl)

height_is : (c : In_ok-above) → c.in_ok-height.height.levels ≡ c.height.result
height_is c = grind (arith, common_steps)

pub returns : goal.returns
returns c h us s has =
    let k = c.in_ok-height.height.levels in
    let u = c.args.receiver in
    let (low, own) = told (ltb u (2 ^ k)) c.in_ok-own.own (leaf k u) c.in_ok-own.ensures in
    let same : k ≡ h = height_is (goal.at.returns c).In_ok-above ∙ c.height.ensures ∙ has.height in
    let all = (told (is_kept h us 0) c.in_ok-all.all (start_in s 0) (c.in_ok-all.ensures h us s has)).1 in
    gathered h us s u _ same refl (own ∙ ap (λ (n : ℕ). leaf n u) same) (rw same at low) all (c.in_ok-above.ensures h us s has)
