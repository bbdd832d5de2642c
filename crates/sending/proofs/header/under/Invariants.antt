-- The bytes before i are added, and the others are as they were.
use Rattle.std.proofs.Common.{◌≡◌, ℕ, ◌<◌, ◌≤◌, length, get_or}
use lib.Bits.{bit_xor}
use Rattle.sending.proofs.header.under.Given as goal

abbrev pub invariant-loop-i : goal.invariant-loop-i
invariant-loop-i l =
    (length l.byte-items ≡ 48)
    × ((k : ℕ) → k < l.i → get_or l.byte-items k 0 ≡ bit_xor (get_or l.initial.byte-items k 0) (get_or l.plain k 0))
    × ((k : ℕ) → l.i ≤ k → get_or l.byte-items k 0 ≡ get_or l.initial.byte-items k 0)
