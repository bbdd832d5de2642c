-- The first 48 bytes of the block for the number are those of its pad and of its check.
use Rattle.std.proofs.Common.{◌≡◌, true, leb, take, refl, ap, ◌∙◌}
use Rattle.std.proofs.lemmas.Bool.{le-leb}
use Rattle.keys.specs.Drawn.{world}
use Rattle.keys.specs.Promise.{last_number}
use Rattle.keys.proofs.Derived.{covering}
use Rattle.keys.proofs.labels.pad.Goals as goal

pub returns : goal.returns
returns g c =
    let (low, at) = c.in_ok-counter.ensures in
    let within : leb c.args.number last_number ≡ true = le-leb c.args.number last_number low in
    record {
      answer = (low, λ d t e. covering (world g.C.Cipher.gives d) t c.args.number _ _ _ at e (c.front.ensures ∙ ap (take 48) c.block.ensures.bytes));
      asked = rw (within, ← at) (_, c.block.ensures.asked, refl);
    }
