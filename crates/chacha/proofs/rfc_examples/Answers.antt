-- Each statement by its proof.
use Rattle.chacha.proofs.Examples.{block_example, quarter_round_example}
use Rattle.chacha.proofs.rfc_examples.Goals as goal

pub returns : goal.returns
returns c = record { quarter_round = quarter_round_example; block = block_example }
