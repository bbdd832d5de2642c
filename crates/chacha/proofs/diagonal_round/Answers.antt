-- A column of the turned rows is a diagonal.
use Rattle.std.proofs.Common.{◌≡◌, length, refl, arith}
use Rattle.chacha.specs.Rfc8439.{quarter_round_at}
use Rattle.chacha.proofs.Rows.{twice}
use Rattle.chacha.proofs.diagonal_round.Goals as goal

pub returns : goal.returns
unfolding quarter_round_at
returns c =
    let b : length c.args.s.b ≡ 4 = omega arith in
    let c0 : length c.args.s.c ≡ 4 = omega arith in
    let d : length c.args.s.d ≡ 4 = omega arith in
    let b1 : length c.quarter_rounds-s.result.b ≡ 4 = omega arith in
    let c1 : length c.quarter_rounds-s.result.c ≡ 4 = omega arith in
    let d1 : length c.quarter_rounds-s.result.d ≡ 4 = omega arith in
    let q = c.quarter_rounds-s.ensures in
    let q0 = simp twice at (q 0 (omega arith)) in
    let q1 = simp twice at (q 1 (omega arith)) in
    let q2 = simp twice at (q 2 (omega arith)) in
    let q3 = simp twice at (q 3 (omega arith)) in
    simp twice (rw (← q0, ← q1, ← q2, ← q3) refl)
