-- The words that were read stand where the definition has them.
use Rattle.chacha.specs.Rfc8439.{initial_state}
use Rattle.chacha.proofs.initial_state.Goals as goal

pub returns : goal.returns
unfolding initial_state
returns c = cc
