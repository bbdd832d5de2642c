-- Numbers in bytes: how many there are, each by its place, and writing and reading as inverses. Assumes nothing.
use Rattle.std.proofs.Common.{◌≡◌, ℕ, zero, suc, ◌+◌, ◌*◌, ◌/◌, ◌%◌, ◌^◌, ◌<◌, ◌≤◌, List, [], ◌∷◌, ◌++◌, length, get_or, take, drop, sym, refl, ap, ◌∙◌, ap₂, add_assoc, arith}
use native.Mathlib.Nat.{div-div-eq-div-mul}
use Rattle.std.proofs.lemmas.List.{length-drop, get_or-drop, flat_map_more, take_more}
use Rattle.std.specs.List.{flat_map}
use Rattle.wire.specs.Words.{bytes4, word_at, words}

words_short : (s : List ℕ) → length s < 4 → words s ≡ []
unfolding words
words_short [] h = refl
words_short (a ∷ []) h = refl
words_short (a ∷ b ∷ []) h = refl
words_short (a ∷ b ∷ c ∷ []) h = refl
words_short (a ∷ b ∷ c ∷ d ∷ s) h = absurd (omega arith)

words_step : (s : List ℕ) → 4 ≤ length s → words s ≡ word_at s 0 ∷ words (drop 4 s)
unfolding words
words_step [] h = absurd (omega arith)
words_step (a ∷ []) h = absurd (omega arith)
words_step (a ∷ b ∷ []) h = absurd (omega arith)
words_step (a ∷ b ∷ c ∷ []) h = absurd (omega arith)
words_step (a ∷ b ∷ c ∷ d ∷ s) h = refl

pub word_at_drop : (n : ℕ) (s : List ℕ) (i : ℕ) → word_at (drop n s) i ≡ word_at s (n + i)
word_at_drop n s i = simp (get_or-drop, add_assoc)

pub length_words : (n : ℕ) (s : List ℕ) → length s / 4 ≡ n → length (words s) ≡ n
length_words zero s e = ap length (words_short s (omega arith))
length_words (suc n) s e =
    let l = length-drop 4 s in
    ap length (words_step s (omega arith)) ∙ ap suc (length_words n (drop 4 s) (omega arith))

pub get_or_words : (i : ℕ) (s : List ℕ) → 4 * i + 4 ≤ length s → get_or (words s) i 0 ≡ word_at s (4 * i)
get_or_words zero s h = ap (λ (l : List ℕ). get_or l 0 0) (words_step s (omega arith))
get_or_words (suc i) s h =
    let l = length-drop 4 s in
    ap (λ (l : List ℕ). get_or l (suc i) 0) (words_step s (omega arith)) ∙ get_or_words i (drop 4 s) (omega arith)
    ∙ word_at_drop 4 s (4 * i) ∙ ap (word_at s) {x = 4 + 4 * i} {y = 4 * suc i} (omega arith)

-- each of the bytes, or numbers, is below n
abbrev pub Below : ℕ → List ℕ → Type 0
Below n xs = (i : ℕ) → get_or xs i 0 < n

-- a number's four bytes, and the number of four bytes
pub word_of_bytes : (n : ℕ) → n < 2 ^ 32 → (n / 16777216 % 256) * 16777216 + (n / 65536 % 256) * 65536 + (n / 256 % 256) * 256 + n % 256 ≡ n
word_of_bytes n l =
    let p : n / 65536 ≡ n / 256 / 256 = sym (div-div-eq-div-mul n 256 256) in
    let q : n / 16777216 ≡ n / 256 / 256 / 256 = sym (ap (λ (m : ℕ). m / 256) (div-div-eq-div-mul n 256 256) ∙ div-div-eq-div-mul n 65536 256) in
    rw (p, q) (omega arith)

pub bytes_of_word : (a b c d : ℕ) → a < 256 → b < 256 → c < 256 → d < 256 → bytes4 (a * 16777216 + b * 65536 + c * 256 + d) ≡ a ∷ b ∷ c ∷ d ∷ []
bytes_of_word a b c d la lb lc ld =
    let n = a * 16777216 + b * 65536 + c * 256 + d in
    let p : n / 16777216 % 256 ≡ a = omega arith in
    let q : n / 65536 % 256 ≡ b = omega arith in
    let r : n / 256 % 256 ≡ c = omega arith in
    let s : n % 256 ≡ d = omega arith in
    rw (p, q, r, s)

pub words_of_bytes : (ns : List ℕ) → Below (2 ^ 32) ns → words (flat_map bytes4 ns) ≡ ns
unfolding words
words_of_bytes [] small = refl
words_of_bytes (n ∷ ns) small = ap₂ {C = List ℕ} (λ (k : ℕ) (ks : List ℕ). k ∷ ks) (word_of_bytes n (small 0)) (words_of_bytes ns (λ i. small (suc i)))

pub bytes_of_words : (n : ℕ) (s : List ℕ) → Below 256 s → length s ≡ 4 * n → flat_map bytes4 (words s) ≡ s
unfolding words
bytes_of_words zero [] small e = refl
bytes_of_words (suc n) (a ∷ b ∷ c ∷ d ∷ s) small e =
    ap₂ ◌++◌ (bytes_of_word a b c d (small 0) (small 1) (small 2) (small 3)) (bytes_of_words n s (λ i. small (suc (suc (suc (suc i))))) (omega arith))
bytes_of_words zero (a ∷ s) small e = absurd (omega arith)
bytes_of_words (suc n) [] small e = absurd (omega arith)
bytes_of_words (suc n) (a ∷ []) small e = absurd (omega arith)
bytes_of_words (suc n) (a ∷ b ∷ []) small e = absurd (omega arith)
bytes_of_words (suc n) (a ∷ b ∷ c ∷ []) small e = absurd (omega arith)

pub length_joined : (ns : List ℕ) → length (flat_map bytes4 ns) ≡ 4 * length ns
length_joined [] = refl
length_joined (n ∷ ns) = omega (arith, length_joined ns)

pub joined_take : (ns : List ℕ) (i : ℕ) → i < length ns → flat_map bytes4 (take i ns) ++ bytes4 (get_or ns i 0) ≡ flat_map bytes4 (take (i + 1) ns)
joined_take ns i l = rw (take_more ns i 0 l) (flat_map_more bytes4 [] (take i ns) (get_or ns i 0))
