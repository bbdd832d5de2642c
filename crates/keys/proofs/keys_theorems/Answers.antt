-- The size of a block, and the list of questions.
use Rattle.keys.proofs.Sizes.{zozhimbe_real}
use Rattle.keys.proofs.Exact.{log_exact}
use Rattle.keys.proofs.keys_theorems.Goals as goal

pub returns : goal.returns
returns c = record { world = zozhimbe_real; exact = log_exact }
