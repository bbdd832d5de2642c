-- Bytes: adding bit by bit, and sizes. Assumes nothing.
use Rattle.std.proofs.Common.{◌≡◌, ℕ, zero, suc, ◌+◌, ◌-◌, ◌≤◌, min, Bool, true, false, ◌&&◌, T, ltb, List, [], ◌∷◌, ◌++◌, length, take, drop, refl, ap, ◌∙◌, ap₂, arith, ltb→lt, lt→ltb, length-append, length-drop, length-take}
use lib.Bits.{bit_xor, xor_comm, xor_assoc, xor_self, xor_zero_r, xor_lt}
use Rattle.tree.specs.Receivers.{all_below}
use Rattle.tree.proofs.Tests.{T_both}
use Rattle.secrecy.specs.Worlds.{Bytes, xors}

-- the first of two added is what is left when the second is added again
pub xors_back : (p a b : List ℕ) → length a ≡ length b → xors (xors p (xors a b)) b ≡ xors p a
xors_back [] a b e = refl
xors_back (x ∷ p) [] [] e = refl
xors_back (x ∷ p) [] (z ∷ b) e = absurd (omega arith)
xors_back (x ∷ p) (y ∷ a) [] e = absurd (omega arith)
xors_back (x ∷ p) (y ∷ a) (z ∷ b) e =
    ap₂ {C = List ℕ} (λ (n : ℕ) (r : List ℕ). n ∷ r)
    (xor_assoc x (bit_xor y z) z ∙ ap (bit_xor x) (xor_assoc y z z ∙ ap (bit_xor y) (xor_self z) ∙ xor_zero_r y))
    (xors_back p a b (omega arith))

-- and the second, when the first is
pub xors_off : (a b : List ℕ) → length a ≡ length b → xors (xors a b) a ≡ b
xors_off [] [] e = refl
xors_off [] (y ∷ b) e = absurd (omega arith)
xors_off (x ∷ a) [] e = absurd (omega arith)
xors_off (x ∷ a) (y ∷ b) e =
    ap₂ {C = List ℕ} (λ (n : ℕ) (r : List ℕ). n ∷ r)
    (ap (λ (n : ℕ). bit_xor n x) (xor_comm x y) ∙ xor_assoc y x x ∙ ap (bit_xor y) (xor_self x) ∙ xor_zero_r y) (xors_off a b (omega arith))

pub xors_take : (n : ℕ) (p a : List ℕ) → take n (xors p a) ≡ xors (take n p) a
xors_take zero p a = refl
xors_take (suc n) [] a = refl
xors_take (suc n) (x ∷ p) [] = refl
xors_take (suc n) (x ∷ p) (y ∷ a) = ap {B = List ℕ} (λ (r : List ℕ). bit_xor x y ∷ r) (xors_take n p a)

pub xors_drop : (n : ℕ) (p a : List ℕ) → length a ≤ n → drop n (xors p a) ≡ drop n p
xors_drop n [] a l = refl
xors_drop n (x ∷ p) [] l = refl
xors_drop zero (x ∷ p) (y ∷ a) l = absurd (omega arith)
xors_drop (suc n) (x ∷ p) (y ∷ a) l = xors_drop n p a (omega arith)

xors_length : (p a : List ℕ) → length (xors p a) ≡ length p
xors_length [] a = refl
xors_length (x ∷ p) [] = refl
xors_length (x ∷ p) (y ∷ a) = ap suc (xors_length p a)

pub T_and : (a b : Bool) → T a → T b → T (a && b)
T_and true b s t = t
T_and false b s t = absurd s

small_xors : (p a : List ℕ) → T (all_below 256 p) → T (all_below 256 a) → T (all_below 256 (xors p a))
unfolding all_below
small_xors [] a s t = tt
small_xors (x ∷ p) [] s t = s
small_xors (x ∷ p) (y ∷ a) s t =
    let u = T_both (ltb x 256) (all_below 256 p) s in
    let v = T_both (ltb y 256) (all_below 256 a) t in
    let low = xor_lt 8 x y (ltb→lt x 256 u.0) (ltb→lt y 256 v.0) in
    T_and (ltb (bit_xor x y) 256) (all_below 256 (xors p a)) (lt→ltb (bit_xor x y) 256 low) (small_xors p a u.1 v.1)

small_append : (p a : List ℕ) → T (all_below 256 p) → T (all_below 256 a) → T (all_below 256 (p ++ a))
unfolding all_below
small_append [] a s t = t
small_append (x ∷ p) a s t =
    let u = T_both (ltb x 256) (all_below 256 p) s in
    T_and (ltb x 256) (all_below 256 (p ++ a)) u.0 (small_append p a u.1 t)

small_take : (n : ℕ) (p : List ℕ) → T (all_below 256 p) → T (all_below 256 (take n p))
unfolding all_below
small_take zero p s = tt
small_take (suc n) [] s = tt
small_take (suc n) (x ∷ p) s =
    let u = T_both (ltb x 256) (all_below 256 p) s in
    T_and (ltb x 256) (all_below 256 (take n p)) u.0 (small_take n p u.1)

small_drop : (n : ℕ) (p : List ℕ) → T (all_below 256 p) → T (all_below 256 (drop n p))
unfolding all_below
small_drop zero p s = s
small_drop (suc n) [] s = tt
small_drop (suc n) (x ∷ p) s = small_drop n p (T_both (ltb x 256) (all_below 256 p) s).1

pub bytes_xors : (n k : ℕ) (p a : List ℕ) → Bytes n p → Bytes k a → Bytes n (xors p a)
bytes_xors n k p a b c = (xors_length p a ∙ b.0, small_xors p a b.1 c.1)

pub bytes_append : (m n : ℕ) (p a : List ℕ) → Bytes m p → Bytes n a → Bytes (m + n) (p ++ a)
bytes_append m n p a b c = (length-append p a ∙ ap₂ ◌+◌ b.0 c.0, small_append p a b.1 c.1)

pub bytes_take : (k n : ℕ) (p : List ℕ) → Bytes n p → Bytes (min k n) (take k p)
bytes_take k n p b = (length-take k p ∙ ap (min k) b.0, small_take k p b.1)

pub bytes_drop : (k n : ℕ) (p : List ℕ) → Bytes n p → Bytes (n - k) (drop k p)
bytes_drop k n p b = (length-drop k p ∙ ap (λ (m : ℕ). m - k) b.0, small_drop k p b.1)
