-- The walk goes down as many steps as the one node is below the other.
use Rattle.std.proofs.Common.{◌≡◌, ℕ, suc, ◌^◌, ◌<◌, true, sym, ap, ◌∙◌}
use Rattle.secrecy.specs.Terms.{label}
use Rattle.secrecy.specs.Worlds.{bytes}
use Rattle.keys.specs.Drawn.{world}
use Rattle.keys.specs.Down.{reaches, steps_down}
use Rattle.tree.proofs.Tests.{told}
use Rattle.keys.proofs.Downs.{labels_down}
use Rattle.keys.proofs.descent.descend.Goals as goal

pub returns : goal.returns
returns g c =
    let found : (h : ℕ) → c.args.to < 2 ^ suc h → (reaches h c.args.from c.args.to ≡ true) × (c.in_ok-steps.steps ≡ steps_down h c.args.from c.args.to) =
    λ h l. told (reaches h c.args.from c.args.to) _ _ (c.in_ok-steps.ensures h l) in
    record {
      refuses = λ h l. sym (found h l).0;
      term = λ h l d t e. let count = (found h l).1 in rw (← count) (c.walk.ensures.term d t e);
      label =
          λ h l d tree root pos above e.
          let (there, count) = found h l in
          let t = label tree h root c.args.from in
          c.walk.ensures.term d t e ∙ rw count (ap (bytes (world g.C.Cipher.gives d)) (labels_down tree h root c.args.from c.args.to pos above l there));
      asked = λ h l d t e. let (there, count) = found h l in rw (there, ← count) (c.walk.ensures.asked d t e);
    }
