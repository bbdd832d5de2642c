-- The walk leads from the start to the part's label, and the key is its middle.
use Rattle.keys.proofs.Keyed.{key_is, key_asked}
use Rattle.keys.proofs.descent.part_key.Goals as goal

pub returns : goal.returns
returns g c =
    let found = rw c.in_ok-steps.ensures.ok_part at c.steps_within.ensures in
    record {
      answer = λ h l. key_is g.C.Cipher.gives h c.args.part _ (found h l) _ _ c.walk-label.ensures.term _ c.middle.ensures.term;
      asked =
          λ h l.
          key_asked g.C.Cipher.gives h c.args.part _ (found h l) _ _ c.walk-label.ensures.term g.C.Cipher.steps _ _ _ c.walk-label.ensures.asked
          c.middle.ensures.asked;
    }
