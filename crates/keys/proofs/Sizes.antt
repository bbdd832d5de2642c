-- A block is 64 bytes, whatever the key, the counter and the nonce. Assumes nothing.
use Rattle.std.proofs.Common.{◌≡◌, ℕ, zero, suc, ◌*◌, ◌/◌, ◌%◌, ◌^◌, T, ltb, List, [], ◌∷◌, length, replicate, refl, arith, lt→ltb, length-set}
use lib.Lanes.{zip2}
use Rattle.std.specs.List.{flat_map}
use Rattle.std.proofs.lemmas.Simd.{length-zip2}
use Rattle.tree.specs.Receivers.{all_below}
use Rattle.tree.proofs.Tests.{both_T}
use Rattle.chacha.specs.Rfc8439.{plus, quarter_round_at, double_rounds, initial_state, bytes_of, block_from, chacha20_block}
use Rattle.secrecy.specs.Worlds.{Bytes}
use Rattle.keys.specs.Drawn.{ZozhimbeReal}

quarter_length : (x y z w : ℕ) (s : List ℕ) → length (quarter_round_at x y z w s) ≡ length s
unfolding quarter_round_at
quarter_length x y z w s = simp length-set

rounds_length : (n : ℕ) (s : List ℕ) → length (double_rounds n s) ≡ length s
rounds_length zero s = refl
rounds_length (suc n) s = simp quarter_length (rounds_length n s)

bytes_length : (ws : List ℕ) → length (flat_map bytes_of ws) ≡ 4 * length ws
bytes_length [] = refl
bytes_length (x ∷ ws) = omega (arith, bytes_length ws)

no_bytes : T (all_below 256 [])
unfolding all_below
no_bytes = tt

more_bytes : (x : ℕ) (bs : List ℕ) → T (all_below 256 bs) → T (all_below 256 (x % 256 ∷ bs))
unfolding all_below
more_bytes x bs t = both_T (ltb (x % 256) 256) (all_below 256 bs) (lt→ltb (x % 256) 256 (omega arith)) t

bytes_small : (ws : List ℕ) → T (all_below 256 (flat_map bytes_of ws))
bytes_small [] = no_bytes
bytes_small (x ∷ ws) =
    more_bytes x _ (more_bytes (x / 2 ^ 8) _ (more_bytes (x / 2 ^ 16) _ (more_bytes (x / 2 ^ 24) (flat_map bytes_of ws) (bytes_small ws))))

from_words : (start : List ℕ) → length start ≡ 16 → Bytes 64 (block_from start)
unfolding block_from
from_words start e =
    let ws = zip2 plus (double_rounds 10 start) start in
    let same : length (double_rounds 10 start) ≡ length start = rounds_length 10 start in
    let many : length ws ≡ 16 = omega (arith, length-zip2 plus (double_rounds 10 start) start same) in
    (omega (arith, bytes_length ws), bytes_small ws)

block_bytes : (key : List ℕ) (counter : ℕ) (nonce : List ℕ) → Bytes 64 (chacha20_block key counter nonce)
unfolding initial_state
block_bytes key counter nonce = from_words (initial_state key counter nonce) refl

pub zozhimbe_real : ZozhimbeReal
zozhimbe_real d s =
    record {
      blocks = λ key counter. block_bytes key counter (replicate 12 0);
      starts = s.starts;
      sessions = s.sessions;
      noises = s.noises;
    }
