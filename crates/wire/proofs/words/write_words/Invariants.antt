-- As many numbers as turns are written, and the rest of the memory is as it was.
use Rattle.std.proofs.Common.{◌≡◌, take}
use Rattle.std.specs.List.{flat_map}
use Rattle.fault.specs.Memory.{over}
use Rattle.wire.specs.Words.{bytes4}
use Rattle.wire.proofs.words.write_words.Given as goal

abbrev pub invariant-loop-i : goal.invariant-loop-i
invariant-loop-i l = l.out ≡ over (flat_map bytes4 (take l.i l.numbers)) l.initial.out
