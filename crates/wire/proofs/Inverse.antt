-- Reading a revocation list and writing one are inverses. Assumes nothing.
use Rattle.std.proofs.Common.{◌≡◌, ℕ, zero, suc, ◌+◌, ◌*◌, ◌^◌, ◌<◌, ◌≤◌, true, not, ◌||◌, T, eqb, ltb, List, [], ◌∷◌, ◌++◌, length, get_or, None, sym, refl, ap, ◌∙◌, ap₂, arith, ltb→lt, pow_mono}
use Rattle.std.proofs.lemmas.Bool.{or_parts, eqb-true, eq-eqb, ltb-false, le-ltb, not-false}
use Rattle.fault.specs.declared.Fault.{Fault}
use Rattle.fault.specs.declared.Fault.TheVariants.{Malformed, OutOfRange}
use Rattle.fault.specs.Lowest.{when, lowest}
use Rattle.fault.proofs.Lowest.{lowest_none}
use Rattle.tree.specs.Nodes.{max_height}
use Rattle.tree.specs.Receivers.{is_height, all_below}
use Rattle.tree.proofs.Tests.{T_both}
use Rattle.tree.proofs.Judged.{sound_height, sound}
use Rattle.wire.specs.Words.{bytes4, words}
use Rattle.wire.specs.Head.{or_else, head_faults}
use Rattle.wire.specs.Revocation.{named_faults, count_in, revoked_in, revocation_bytes, revocation_faults, ReadsAs}
use Rattle.wire.proofs.Bytes.{Below, length_words, bytes_of_word, bytes_of_words, word_of_bytes, words_of_bytes, length_joined}
use Rattle.wire.proofs.Listed.{when_none, named_sound, named_few}

or_else_none : (fs gs : List Fault) → or_else fs gs ≡ [] → (fs ≡ []) × (gs ≡ [])
or_else_none [] gs e = (refl, e)
or_else_none (f ∷ fs) gs e = absurd (let z : ◌≡◌ {A = ℕ} 0 1 = cc in omega arith)

-- six bytes of head, and as many numbers as they say
shape : (k h a b c d : ℕ) (rest : List ℕ) → Below 256 (k ∷ h ∷ a ∷ b ∷ c ∷ d ∷ rest) → k ≡ 1 →
    length rest ≡ 4 * (a * 16777216 + b * 65536 + c * 256 + d) → k ∷ h ∷ a ∷ b ∷ c ∷ d ∷ rest ≡ revocation_bytes h (words rest)
shape k h a b c d rest small kind e =
    let n = a * 16777216 + b * 65536 + c * 256 + d in
    let count : length (words rest) ≡ n = length_words n rest (omega arith) in
    let front = ap bytes4 count ∙ bytes_of_word a b c d (small 2) (small 3) (small 4) (small 5) in
    let back = bytes_of_words n rest (λ i. small (suc (suc (suc (suc (suc (suc i))))))) e in
    rw kind (ap {B = List ℕ} (λ (l : List ℕ). 1 ∷ h ∷ l) (sym (ap₂ ◌++◌ front back)))

head_sound : (kind : ℕ) (s : List ℕ) → head_faults kind s ≡ [] → (2 ≤ length s) × (get_or s 0 0 ≡ kind)
head_sound kind s none =
    let malformed = when_none (ltb (length s) 2 || not (eqb (get_or s 0 0) kind)) Malformed (or_else_none _ (when (not (is_height (get_or s 1 0))) OutOfRange) none).0 in
    let p = or_parts (ltb (length s) 2) (not (eqb (get_or s 0 0) kind)) malformed in
    (ltb-false (length s) 2 p.0, eqb-true (get_or s 0 0) kind (not-false (eqb (get_or s 0 0) kind) p.1))

list_sound : (s : List ℕ) → revocation_faults s ≡ [] → (get_or s 0 0 ≡ 1) × (length s ≡ 6 + 4 * count_in s)
list_sound s none =
    let p = or_else_none (head_faults 1 s) _ none in
    let q = or_else_none (when (not (eqb (length s) (6 + 4 * count_in s))) Malformed) _ p.1 in
    let e = not-false (eqb (length s) (6 + 4 * count_in s)) (when_none (not (eqb (length s) (6 + 4 * count_in s))) Malformed q.0) in
    ((head_sound 1 s p.0).1, eqb-true (length s) (6 + 4 * count_in s) e)

-- what was read without a fault is what would be written for it
pub read_exact : (s : List ℕ) → Below 256 s → revocation_faults s ≡ [] → s ≡ revocation_bytes (get_or s 1 0) (revoked_in s)
read_exact (k ∷ h ∷ a ∷ b ∷ c ∷ d ∷ rest) small none = let e = list_sound (k ∷ h ∷ a ∷ b ∷ c ∷ d ∷ rest) none in shape k h a b c d rest small e.0 (omega (arith, e.1))
read_exact [] small none = absurd (omega (arith, (list_sound [] none).1))
read_exact (k ∷ []) small none = absurd (omega (arith, (list_sound (k ∷ []) none).1))
read_exact (k ∷ h ∷ []) small none = absurd (omega (arith, (list_sound (k ∷ h ∷ []) none).1))
read_exact (k ∷ h ∷ a ∷ []) small none = absurd (omega (arith, (list_sound (k ∷ h ∷ a ∷ []) none).1))
read_exact (k ∷ h ∷ a ∷ b ∷ []) small none = absurd (omega (arith, (list_sound (k ∷ h ∷ a ∷ b ∷ []) none).1))
read_exact (k ∷ h ∷ a ∷ b ∷ c ∷ []) small none = absurd (omega (arith, (list_sound (k ∷ h ∷ a ∷ b ∷ c ∷ []) none).1))

pub length_bytes : (h : ℕ) (rs : List ℕ) → length (revocation_bytes h rs) ≡ 6 + 4 * length rs
length_bytes h rs = omega (arith, length_joined rs)

-- what is written is read again
module _ (h : ℕ) (rs : List ℕ) (height : is_height h ≡ true) (few : length rs < 2 ^ 32) (small : Below (2 ^ 32) rs) where
  pub read_revoked : revoked_in (revocation_bytes h rs) ≡ rs
  read_revoked = words_of_bytes rs small

  pub read_count : count_in (revocation_bytes h rs) ≡ length rs
  read_count = word_of_bytes (length rs) few

  pub read_faults : revocation_faults (revocation_bytes h rs) ≡ named_faults h rs
  read_faults =
      let e = eq-eqb (length (revocation_bytes h rs)) (6 + 4 * length rs) (length_bytes h rs) in
      let long = le-ltb (length (revocation_bytes h rs)) 2 (omega (arith, length_bytes h rs)) in
      rw (long, height, read_count, e, read_revoked)

below_get_or : (n m : ℕ) (rs : List ℕ) → 0 < m → n ≤ m → T (all_below n rs) → Below m rs
unfolding all_below
below_get_or n m [] pos le b i = pos
below_get_or n m (r ∷ rs) pos le b zero = omega (arith, ltb→lt r n (T_both (ltb r n) (all_below n rs) b).0)
below_get_or n m (r ∷ rs) pos le b (suc i) = below_get_or n m rs pos le (T_both (ltb r n) (all_below n rs) b).1 i

pub reads_as : (h : ℕ) (rs : List ℕ) → None ≡ lowest (named_faults h rs) → ReadsAs (revocation_bytes h rs) h rs
reads_as h rs none =
    let fine = sound h rs (named_sound h rs none) in
    let height = sound_height h rs (named_sound h rs none) in
    let few : length rs < 2 ^ 32 = omega (arith, named_few h rs none) in
    let low : 2 ^ h ≤ 2 ^ 32 = omega (arith, pow_mono {i = h} {j = max_height} fine.0) in
    let small = below_get_or (2 ^ h) (2 ^ 32) rs (omega arith) low fine.1 in
    record {
      faultless = read_faults h rs height few small ∙ lowest_none (named_faults h rs) none;
      height = refl;
      revoked = read_revoked h rs height few small;
    }
