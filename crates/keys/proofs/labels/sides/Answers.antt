-- The halves of the block at a term's bytes are the bytes of the two terms that come from it.
use Rattle.std.proofs.Common.{◌∙◌, ap, take, drop}
use Rattle.secrecy.specs.Worlds.{bytes}
use Rattle.keys.proofs.labels.sides.Goals as goal

pub returns : goal.returns
unfolding bytes
returns g c =
    record {
      left = λ d t e. c.front.ensures ∙ ap (take 32) c.block-block.ensures.bytes ∙ rw e;
      right = λ d t e. c.back.ensures ∙ ap (drop 32) c.block-block.ensures.bytes ∙ rw e;
      asked = c.block-block.ensures.asked;
    }
