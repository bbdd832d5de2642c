-- The ChaCha20 block function as RFC 8439 defines it, to be read beside the RFC's sections 2.1 to 2.3.
-- A word is a number below 2 ^ 32, a byte is one below 256, and a state is a list of sixteen words.
use Rattle.std.specs.Prelude.{ℕ, zero, suc, ◌+◌, ◌-◌, ◌*◌, ◌/◌, ◌%◌, ◌^◌, List, [], ◌∷◌, ◌++◌, map, bit_or, bit_xor, slice_index, slice_set}
use Rattle.std.specs.Simd.Lanes.{zip2}
use Rattle.std.specs.List.{range_with_len, flat_map}

-- What one more step makes of x.
infixl 2 ◌then◌
abbrev pub ◌then◌ : {A : Type 0} → A → (A → A) → A
x then step = step x

-- Section 2.1, "+": the sum of two words, modulo 2 ^ 32.
abbrev pub plus : ℕ → ℕ → ℕ
plus a b = (a + b) % 2 ^ 32

-- Section 2.1, "<<< n": a word rolled by n bits to the left, towards the high bits.
abbrev pub rolled : ℕ → ℕ → ℕ
rolled n word = bit_or (word * 2 ^ n % 2 ^ 32) (word / 2 ^ (32 - n))

-- Section 2.1: the four words of a quarter round, a, b, c and d.
abbrev pub Four : Type 0
Four = ℕ × ℕ × ℕ × ℕ

-- Section 2.1, the quarter round's first and third line: a += b; d ^= a; d <<<= n.
abbrev pub odd_line : ℕ → Four → Four
odd_line n (a, b, c, d) = (plus a b, b, c, rolled n (bit_xor d (plus a b)))

-- Section 2.1, the quarter round's second and fourth line: c += d; b ^= c; b <<<= n.
abbrev pub even_line : ℕ → Four → Four
even_line n (a, b, c, d) = (a, rolled n (bit_xor b (plus c d)), plus c d, d)

-- Section 2.1, the quarter round: its four lines.
unfoldable pub quarter_round : Four → Four
quarter_round four = four then odd_line 16 then even_line 12 then odd_line 8 then even_line 7

-- Section 2.2, QUARTERROUND(x, y, z, w): the quarter round on the words of a state at these places.
unfoldable pub quarter_round_at : ℕ → ℕ → ℕ → ℕ → List ℕ → List ℕ
quarter_round_at x y z w s =
    let (a, b, c, d) = quarter_round (slice_index s x, slice_index s y, slice_index s z, slice_index s w) in
    slice_set (slice_set (slice_set (slice_set s x a) y b) z c) w d

-- Section 2.3, the quarter rounds 1 to 4: a column round.
abbrev pub column_round : List ℕ → List ℕ
column_round s = s then quarter_round_at 0 4 8 12 then quarter_round_at 1 5 9 13 then quarter_round_at 2 6 10 14 then quarter_round_at 3 7 11 15

-- Section 2.3, the quarter rounds 5 to 8: a diagonal round.
abbrev pub diagonal_round : List ℕ → List ℕ
diagonal_round s = s then quarter_round_at 0 5 10 15 then quarter_round_at 1 6 11 12 then quarter_round_at 2 7 8 13 then quarter_round_at 3 4 9 14

-- Section 2.3: n times a column round and then a diagonal round.
abbrev pub double_rounds : ℕ → List ℕ → List ℕ
double_rounds zero s = s
double_rounds (suc n) s = double_rounds n s then column_round then diagonal_round

-- Section 2.3: the k-th of the words that bytes hold, four bytes each, the least significant one first.
abbrev pub word_at : List ℕ → ℕ → ℕ
word_at bytes k = slice_index bytes (4 * k) + slice_index bytes (4 * k + 1) * 2 ^ 8 + slice_index bytes (4 * k + 2) * 2 ^ 16 + slice_index bytes (4 * k + 3) * 2 ^ 24

-- Section 2.3: the state at the start, which is four constants, the key's eight words, the counter and the nonce's three words.
unfoldable pub initial_state : List ℕ → ℕ → List ℕ → List ℕ
initial_state key counter nonce =
    (0x61707865 ∷ 0x3320646e ∷ 0x79622d32 ∷ 0x6b206574 ∷ []) ++ map (word_at key) (range_with_len 0 8) ++ (counter ∷ []) ++ map (word_at nonce) (range_with_len 0 3)

-- Section 2.3: the four bytes of a word, the least significant one first.
abbrev pub bytes_of : ℕ → List ℕ
bytes_of word = (word % 256) ∷ (word / 2 ^ 8 % 256) ∷ (word / 2 ^ 16 % 256) ∷ (word / 2 ^ 24 % 256) ∷ []

-- Section 2.3: the bytes, one word's after the other's, of the sums of the words after twenty rounds and those at the start.
unfoldable pub block_from : List ℕ → List ℕ
block_from start = flat_map bytes_of (zip2 plus (double_rounds 10 start) start)

-- Section 2.3, chacha20_block: the block of a key, a counter and a nonce.
abbrev pub chacha20_block : List ℕ → ℕ → List ℕ → List ℕ
chacha20_block key counter nonce = block_from (initial_state key counter nonce)
