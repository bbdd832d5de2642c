-- Each turn fills more of the buffer.
use Rattle.std.proofs.Common.{◌-◌, ◌≤◌}
use Rattle.cli.proofs.pieces.fill.Given as goal

abbrev pub invariant-loop-filled : goal.invariant-loop-filled
invariant-loop-filled l = l.filled ≤ 65536

abbrev pub decreases-loop-filled : goal.decreases-loop-filled
decreases-loop-filled l = 65536 - l.filled
