-- Each of the four quarter rounds is that of a column.
use Rattle.std.proofs.Common.{refl, arith}
use Rattle.chacha.specs.Rfc8439.{quarter_round_at}
use Rattle.chacha.proofs.column_round.Goals as goal

pub returns : goal.returns
unfolding quarter_round_at
returns c =
    let q = c.quarter_rounds.ensures in
    rw (← q 0 (omega arith), ← q 1 (omega arith), ← q 2 (omega arith), ← q 3 (omega arith)) refl
