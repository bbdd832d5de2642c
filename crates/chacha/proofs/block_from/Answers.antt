-- The parts' contracts, one put into the other, are the definition.
use Rattle.chacha.specs.Rfc8439.{block_from}
use Rattle.chacha.proofs.block_from.Goals as goal

pub returns : goal.returns
unfolding block_from
returns c = cc
