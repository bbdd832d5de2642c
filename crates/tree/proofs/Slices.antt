-- Rising receivers, by their places and in slices. Assumes nothing.
use Rattle.std.proofs.Common.{◌≡◌, ℕ, zero, suc, ◌<◌, ◌≤◌, T, true, false, ltb, leb, List, [], ◌∷◌, length, get_or, take, drop, inl, inr, arith}
use Rattle.std.proofs.lemmas.Float.{T_from_true}
use Rattle.std.proofs.lemmas.Bool.{leb-true, le-leb, ltb-true, ltb-false, lt-ltb, cases_eq}
use Rattle.std.proofs.lemmas.List.{get_or_default}
use Rattle.std.specs.List.Sorted.{IsPartitionPoint, IsPartitionedBy}
use Rattle.tree.specs.Receivers.{Cut, all_below, rising_from, rising}
use Rattle.tree.proofs.Tests.{T_both, both_T, T_true}

from_first : (least : ℕ) (xs : List ℕ) (i : ℕ) → T (rising_from least xs) → i < length xs → least ≤ get_or xs i 0
unfolding rising_from
from_first least [] i r l = absurd (omega arith)
from_first least (x ∷ xs) zero r l = leb-true least x (T_true (leb least x) (T_both (leb least x) (rising_from (suc x) xs) r).0)
from_first least (x ∷ xs) (suc i) r l =
    let b = T_both (leb least x) (rising_from (suc x) xs) r in
    omega (arith, leb-true least x (T_true (leb least x) b.0), from_first (suc x) xs i b.1 (omega arith))

-- each is below those behind it
pub ascends : (least : ℕ) (xs : List ℕ) (i j : ℕ) → T (rising_from least xs) → i < j → j < length xs → get_or xs i 0 < get_or xs j 0
unfolding rising_from
ascends least [] i j r l m = absurd (omega arith)
ascends least (x ∷ xs) i zero r l m = absurd (omega arith)
ascends least (x ∷ xs) zero (suc j) r l m = from_first (suc x) xs j (T_both (leb least x) (rising_from (suc x) xs) r).1 (omega arith)
ascends least (x ∷ xs) (suc i) (suc j) r l m = ascends (suc x) xs i j (T_both (leb least x) (rising_from (suc x) xs) r).1 (omega arith) (omega arith)

-- none is below one before it
pub in_order : (xs : List ℕ) (i j : ℕ) → T (rising xs) → i ≤ j → j < length xs → get_or xs i 0 ≤ get_or xs j 0
in_order xs i j r l m =
    elim (cases_eq i j) [ inl e ↦ rw e (omega arith) | inr n ↦ omega (arith, ascends 0 xs i j r (omega arith) m) ]

pub rising_weaker : (l m : ℕ) (xs : List ℕ) → l ≤ m → T (rising_from m xs) → T (rising_from l xs)
unfolding rising_from
rising_weaker l m [] le r = tt
rising_weaker l m (x ∷ xs) le r =
    let b = T_both (leb m x) (rising_from (suc x) xs) r in
    both_T (leb l x) (rising_from (suc x) xs) (T_from_true (leb l x) (le-leb l x (omega (arith, leb-true m x (T_true (leb m x) b.0))))) b.1

pub rising_take : (l : ℕ) (xs : List ℕ) (k : ℕ) → T (rising_from l xs) → T (rising_from l (take k xs))
unfolding rising_from
rising_take l xs zero r = tt
rising_take l [] (suc k) r = tt
rising_take l (x ∷ xs) (suc k) r =
    let b = T_both (leb l x) (rising_from (suc x) xs) r in
    both_T (leb l x) (rising_from (suc x) (take k xs)) b.0 (rising_take (suc x) xs k b.1)

-- a list cut where its receivers come to m
module _ (m : ℕ) where
  pub below_take : (xs : List ℕ) (k : ℕ) → ((j : ℕ) → j < k → get_or xs j 0 < m) → T (all_below m (take k xs))
  unfolding all_below
  below_take xs zero f = tt
  below_take [] (suc k) f = tt
  below_take (x ∷ xs) (suc k) f =
      both_T (ltb x m) (all_below m (take k xs)) (T_from_true (ltb x m) (lt-ltb x m (f 0 (omega arith)))) (below_take xs k (λ j l. f (suc j) (omega arith)))

  pub rising_drop : (l : ℕ) (xs : List ℕ) (k : ℕ) → T (rising_from l xs) → ((j : ℕ) → k ≤ j → j < length xs → m ≤ get_or xs j 0) → T (rising_from m (drop k xs))
  unfolding rising_from
  rising_drop l [] zero r f = tt
  rising_drop l (x ∷ xs) zero r f =
      let b = T_both (leb l x) (rising_from (suc x) xs) r in
      both_T (leb m x) (rising_from (suc x) xs) (T_from_true (leb m x) (le-leb m x (f 0 (omega arith) (omega arith)))) b.1
  rising_drop l [] (suc k) r f = tt
  rising_drop l (x ∷ xs) (suc k) r f =
      rising_drop (suc x) xs k (T_both (leb l x) (rising_from (suc x) xs) r).1 (λ j a b. f (suc j) (omega arith) (omega arith))

pub below_drop : (m : ℕ) (xs : List ℕ) (k : ℕ) → T (all_below m xs) → T (all_below m (drop k xs))
unfolding all_below
below_drop m xs zero b = b
below_drop m [] (suc k) b = tt
below_drop m (x ∷ xs) (suc k) b = below_drop m xs k (T_both (ltb x m) (all_below m xs) b).1

pub below_weaker : (m n : ℕ) (xs : List ℕ) → m ≤ n → T (all_below m xs) → T (all_below n xs)
unfolding all_below
below_weaker m n [] le b = tt
below_weaker m n (x ∷ xs) le b =
    let p = T_both (ltb x m) (all_below m xs) b in
    both_T (ltb x n) (all_below n xs) (T_from_true (ltb x n) (lt-ltb x n (omega (arith, ltb-true x m (T_true (ltb x m) p.0))))) (below_weaker m n xs le p.1)

-- rising receivers come to m once
pub parted : (m : ℕ) (xs : List ℕ) → T (rising xs) → IsPartitionedBy (λ y. ltb y m) xs
parted m xs r i j d l k e =
    let at = in_order xs i j r l k in
    lt-ltb (get_or xs i d) m (omega (arith, ltb-true (get_or xs j d) m e, get_or_default xs i d 0 (omega arith), get_or_default xs j d 0 k))

pub cut_there : (m : ℕ) (xs : List ℕ) (n : ℕ) → IsPartitionPoint (λ y. ltb y m ≡ true) (λ y. ltb y m ≡ false) xs n → Cut xs n m
cut_there m xs n p =
    record {
      before = λ j l. ltb-true (get_or xs j 0) m (p.0 j 0 (omega arith) l);
      after = λ j l k. ltb-false (get_or xs j 0) m (p.1 j 0 l k);
    }
