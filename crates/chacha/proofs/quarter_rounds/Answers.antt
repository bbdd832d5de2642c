-- Line by line.
use Rattle.std.proofs.Common.{refl}
use Rattle.chacha.specs.Rfc8439.{quarter_round}
use Rattle.chacha.proofs.quarter_rounds.Goals as goal

pub returns : goal.returns
unfolding quarter_round
returns c k lt =
    rw (
      c.mixed-b-2.ensures k lt,
      c.sum-c-2.ensures k lt,
      c.mixed-d-2.ensures k lt,
      c.sum-a-2.ensures k lt,
      c.mixed-b.ensures k lt,
      c.sum-c.ensures k lt,
      c.mixed-d.ensures k lt,
      c.sum-a.ensures k lt,
    ) refl
