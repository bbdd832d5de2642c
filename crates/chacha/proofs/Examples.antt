-- The RFC's examples follow from its definitions by computing them.
use Rattle.std.proofs.Common.{refl}
use Rattle.chacha.specs.Examples.{QuarterRoundExample, BlockExample}
use Rattle.chacha.specs.Rfc8439.{quarter_round, quarter_round_at, initial_state, block_from}

pub quarter_round_example : QuarterRoundExample
unfolding QuarterRoundExample quarter_round
quarter_round_example = refl

pub block_example : BlockExample
unfolding BlockExample quarter_round quarter_round_at initial_state block_from
block_example = refl
