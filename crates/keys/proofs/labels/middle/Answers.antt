-- The first half of the block at a term's bytes are the bytes of the term's middle.
use Rattle.std.proofs.Common.{◌∙◌, ap, take}
use Rattle.secrecy.specs.Worlds.{bytes}
use Rattle.keys.proofs.labels.middle.Goals as goal

pub returns : goal.returns
unfolding bytes
returns g c = record { term = λ d t e. c.front.ensures ∙ ap (take 32) c.block.ensures.bytes ∙ rw e; asked = c.block.ensures.asked }
