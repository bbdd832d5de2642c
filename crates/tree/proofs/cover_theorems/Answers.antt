-- Each statement by its proof.
use Rattle.tree.proofs.Covers.{covers, worked_cases}
use Rattle.tree.proofs.cover_theorems.Goals as goal

pub returns : goal.returns
returns c = record { covers = covers; worked = worked_cases }
