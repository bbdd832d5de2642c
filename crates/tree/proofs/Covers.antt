-- The promises on covers, joined, and the worked cases. Assumes nothing.
use Rattle.std.proofs.Common.{refl}
use Rattle.std.proofs.lemmas.List.{nil_from_length}
use Rattle.tree.specs.Receivers.{is_in}
use Rattle.tree.specs.Cover.{work}
use Rattle.tree.specs.Promise.{CoverCovers, Worked}
use Rattle.tree.proofs.Exact.{exact}
use Rattle.tree.proofs.Few.{few, cover_none}
use Rattle.tree.proofs.Neat.{neat}
use Rattle.tree.proofs.Needed.{needed}

pub covers : CoverCovers
covers h rs fine =
    record {
      exact = exact h rs;
      few = few h rs fine;
      one = λ none. let e = nil_from_length rs none in rw (e, cover_none h);
      neat = neat h rs;
      needed = needed h rs;
    }

pub worked_cases : Worked
unfolding work is_in
worked_cases = refl
