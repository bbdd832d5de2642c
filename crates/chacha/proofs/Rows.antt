-- Operations on rows, word by word. Assumes nothing.
use Rattle.std.proofs.Common.{◌≡◌, ℕ, zero, suc, ◌-◌, ◌*◌, ◌/◌, ◌%◌, ◌^◌, ◌<◌, List, [], ◌∷◌, ◌++◌, length, slice_index, bit_or, bit_xor, arith, refl}
use Rattle.std.specs.Simd.Lanes.{zip2}
use Rattle.chacha.specs.Rfc8439.{rolled}

-- what holds of each four words holds of each list of four
four_words : (P : List ℕ → Type 0) → ((a b c d : ℕ) → P (a ∷ b ∷ c ∷ d ∷ [])) → (xs : List ℕ) → length xs ≡ 4 → P xs
four_words P p (a ∷ b ∷ c ∷ d ∷ []) e = p a b c d
four_words P p [] e = absurd (omega arith)
four_words P p (a ∷ []) e = absurd (omega arith)
four_words P p (a ∷ b ∷ []) e = absurd (omega arith)
four_words P p (a ∷ b ∷ c ∷ []) e = absurd (omega arith)
four_words P p (a ∷ b ∷ c ∷ d ∷ x ∷ xs) e = absurd (omega arith)

-- what holds at each of the four places
each_place : (P : ℕ → Type 0) → P 0 → P 1 → P 2 → P 3 → (k : ℕ) → k < 4 → P k
each_place P p q r s zero lt = p
each_place P p q r s (suc zero) lt = q
each_place P p q r s (suc (suc zero)) lt = r
each_place P p q r s (suc (suc (suc zero))) lt = s
each_place P p q r s (suc (suc (suc (suc k)))) lt = absurd (omega arith)

abbrev Rolls : ℕ → List ℕ → List ℕ → Type 0
Rolls n xs ys =
    (k : ℕ) → k < 4 →
    slice_index (zip2 bit_or (zip2 (λ x m. x * 2 ^ m % 2 ^ 32) (zip2 bit_xor xs ys) (n ∷ n ∷ n ∷ n ∷ [])) (zip2 (λ x m. x / 2 ^ m) (zip2 bit_xor xs ys) ((32 - n) ∷ (32 - n) ∷ (32 - n) ∷ (32 - n) ∷ []))) k
    ≡ rolled n (bit_xor (slice_index xs k) (slice_index ys k))

-- two shifts and an or are a roll
pub rolled_words : (n : ℕ) → 0 < n → n < 32 → (xs ys : List ℕ) → length xs ≡ 4 → length ys ≡ 4 → Rolls n xs ys
rolled_words n low high xs ys ex ey =
    four_words (λ xs. Rolls n xs ys) (λ a b c d. four_words (Rolls n (a ∷ b ∷ c ∷ d ∷ [])) (λ e f g h. each_place _ refl refl refl refl) ys ey) xs ex

-- a row twice, as rotations read it
pub twice : (xs : List ℕ) → length xs ≡ 4 →
    xs ++ xs
    ≡ slice_index xs 0 ∷ slice_index xs 1 ∷ slice_index xs 2 ∷ slice_index xs 3 ∷ slice_index xs 0 ∷ slice_index xs 1 ∷ slice_index xs 2 ∷ slice_index xs 3 ∷ []
twice =
    four_words
    (λ xs.
    xs ++ xs
    ≡ slice_index xs 0 ∷ slice_index xs 1 ∷ slice_index xs 2 ∷ slice_index xs 3 ∷ slice_index xs 0 ∷ slice_index xs 1 ∷ slice_index xs 2 ∷ slice_index xs 3 ∷ [])
    (λ a b c d. refl)
