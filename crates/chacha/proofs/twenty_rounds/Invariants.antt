-- So far, as many double rounds as the loop has turned.
use Rattle.std.proofs.Common.{◌≡◌}
use Rattle.chacha.specs.Rfc8439.{double_rounds}
use Rattle.chacha.specs.Rows.{words}
use Rattle.chacha.proofs.twenty_rounds.Given as goal

abbrev pub invariant-loop : goal.invariant-loop
invariant-loop l = words l.s ≡ double_rounds l.counter (words l.initial.s)
