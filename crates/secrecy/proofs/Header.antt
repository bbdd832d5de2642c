-- The bytes of a header, and that there are worlds. Assumes nothing.
use Rattle.std.proofs.Common.{◌≡◌, ℕ, zero, suc, ◌+◌, List, [], ◌∷◌, ◌++◌, length, take, drop, replicate, sym, refl, ap, ◌∙◌, ap₂, append-nil, arith}
use lib.Bits.{bit_xor, xor_zero_r}
use Rattle.tree.specs.Receivers.{all_below}
use Rattle.secrecy.specs.Terms.{key}
use Rattle.secrecy.specs.Worlds.{xors, bytes}
use Rattle.secrecy.specs.Blind.{HeaderBytes, SomeWorld}

xors_zeros : (m k : ℕ) (b : List ℕ) → xors (take m b) (replicate k 0) ≡ take m b
xors_zeros zero k b = refl
xors_zeros (suc m) k [] = refl
xors_zeros (suc m) zero (x ∷ b) = refl
xors_zeros (suc m) (suc k) (x ∷ b) = ap₂ {C = List ℕ} (λ (n : ℕ) (r : List ℕ). n ∷ r) (xor_zero_r x) (xors_zeros m k b)

two_parts : (n m k : ℕ) (b s : List ℕ) → k ≡ n + m → length s ≡ n →
    xors (take k b) (s ++ replicate m 0) ≡ xors (take n b) s ++ take m (drop n b)
two_parts zero m k b [] e l = ap (λ (j : ℕ). xors (take j b) (replicate m 0)) {x = k} {y = m} (omega arith) ∙ xors_zeros m m b
two_parts zero m k b (y ∷ s) e l = absurd (omega arith)
two_parts (suc n) m k b [] e l = absurd (omega arith)
two_parts (suc n) m zero b (y ∷ s) e l = absurd (omega arith)
two_parts (suc n) zero (suc k) [] (y ∷ s) e l = refl
two_parts (suc n) (suc m) (suc k) [] (y ∷ s) e l = refl
two_parts (suc n) m (suc k) (x ∷ b) (y ∷ s) e l =
    ap {B = List ℕ} (λ (r : List ℕ). bit_xor x y ∷ r) (two_parts n m k b s (omega arith) (omega arith))

pub header_bytes : HeaderBytes
unfolding bytes
header_bytes w r h m p =
    let b = w.block (bytes w (key m.tree h p)) (suc (suc m.number)) in
    ap (λ (x : List ℕ). xors (take 32 b) (w.session m.session) ++ x) (append-nil (take 16 (drop 32 b)))
    ∙ sym (two_parts 32 16 48 b (w.session m.session) refl (r.sessions m.session).0)

pub some_world : SomeWorld
unfolding all_below
some_world = (
  record { block = λ k c. replicate 64 0; start = λ g i. replicate 32 0; session = λ s. replicate 32 0; noise = λ n i. replicate 48 0 },
  record { blocks = λ k c. (refl, tt); starts = λ g i. (refl, tt); sessions = λ s. (refl, tt); noises = λ n i. (refl, tt) },
)
