-- As many receivers as turns are copied, and the rest of the memory is as it was.
use Rattle.std.proofs.Common.{◌≡◌, ◌++◌, take, drop}
use Rattle.wire.specs.Words.{words}
use Rattle.wire.proofs.revocation.copy_words.Given as goal

abbrev pub invariant-loop-i : goal.invariant-loop-i
invariant-loop-i l = l.receiver-items ≡ take l.i (words l.from.bytes.now) ++ drop l.i l.initial.receiver-items
