-- Lists of bytes added bit by bit. Assumes nothing.
use Rattle.std.proofs.Common.{◌≡◌, ℕ, zero, suc, ◌<◌, List, [], ◌∷◌, ◌++◌, length, get_or, replicate, refl, ap, ap₂, arith}
use lib.Bits.{bit_xor, xor_zero_r}
use Rattle.secrecy.specs.Worlds.{xors}

pub length_xors : (xs ys : List ℕ) → length (xors xs ys) ≡ length xs
length_xors [] ys = refl
length_xors (x ∷ xs) [] = refl
length_xors (x ∷ xs) (y ∷ ys) = ap suc (length_xors xs ys)

pub get_or_xors : (xs ys : List ℕ) (k : ℕ) → k < length xs → k < length ys → get_or (xors xs ys) k 0 ≡ bit_xor (get_or xs k 0) (get_or ys k 0)
get_or_xors [] ys k l m = absurd (omega arith)
get_or_xors (x ∷ xs) [] k l m = absurd (omega arith)
get_or_xors (x ∷ xs) (y ∷ ys) zero l m = refl
get_or_xors (x ∷ xs) (y ∷ ys) (suc k) l m = get_or_xors xs ys k (omega arith) (omega arith)

pub xors_append : (a b s t : List ℕ) → length a ≡ length s → xors (a ++ b) (s ++ t) ≡ xors a s ++ xors b t
xors_append [] b [] t e = refl
xors_append [] b (y ∷ s) t e = absurd (omega arith)
xors_append (x ∷ a) b [] t e = absurd (omega arith)
xors_append (x ∷ a) b (y ∷ s) t e = ap {B = List ℕ} (λ (r : List ℕ). bit_xor x y ∷ r) (xors_append a b s t (omega arith))

pub xors_zeros : (k : ℕ) (b : List ℕ) → xors b (replicate k 0) ≡ b
xors_zeros k [] = refl
xors_zeros zero (x ∷ b) = refl
xors_zeros (suc k) (x ∷ b) = ap₂ {C = List ℕ} (λ (n : ℕ) (r : List ℕ). n ∷ r) (xor_zero_r x) (xors_zeros k b)
