-- What is made below a node is made from the receivers below it alone, on each side from its own. Assumes nothing.
use Rattle.std.proofs.Common.{◌≡◌, ℕ, zero, suc, ◌+◌, ◌-◌, ◌*◌, ◌^◌, ◌<◌, ◌≤◌, Bool, true, false, ◌||◌, T, eqb, ltb, leb, List, [], ◌∷◌, length, get_or, take, drop, sym, refl, ap, ◌∙◌, subst, inl, inr, mul_assoc, add-mul, mul-add, arith}
use native.Mathlib.Nat.{two-pow-succ}
use Rattle.std.proofs.lemmas.Bool.{eq-eqb, ne_eqb, leb-true, ltb-true, or_left, cases_lt, cond_both}
use Rattle.tree.specs.Nodes.{Stands, first_below}
use Rattle.tree.specs.Receivers.{Cut, is_in, all_below, rising_from}
use Rattle.tree.specs.Cover.{Work, clean, named, join, work}
use Rattle.tree.proofs.Tests.{T_both, T_true}
use Rattle.tree.proofs.Stand.{leaves_from}

is_in_not : (x : ℕ) (xs : List ℕ) → ((j : ℕ) → j < length xs → get_or xs j 0 ≡ x → ⊥) → is_in x xs ≡ false
unfolding is_in
is_in_not x [] n = refl
is_in_not x (y ∷ ys) n =
    let e = ne_eqb x y (λ q. n 0 (omega arith) (sym q)) in
    rw e (is_in_not x ys (λ j l q. n (suc j) (omega arith) q))

is_in_take : (x k : ℕ) (xs : List ℕ) → ((j : ℕ) → k ≤ j → j < length xs → get_or xs j 0 ≡ x → ⊥) → is_in x xs ≡ is_in x (take k xs)
unfolding is_in
is_in_take x zero [] n = refl
is_in_take x zero (y ∷ ys) n = is_in_not x (y ∷ ys) (λ j l q. n j (omega arith) l q)
is_in_take x (suc k) [] n = refl
is_in_take x (suc k) (y ∷ ys) n = ap (λ (b : Bool). eqb x y || b) (is_in_take x k ys (λ j m l q. n (suc j) (omega arith) (omega arith) q))

is_in_drop : (x k : ℕ) (xs : List ℕ) → ((j : ℕ) → j < k → j < length xs → get_or xs j 0 ≡ x → ⊥) → is_in x xs ≡ is_in x (drop k xs)
unfolding is_in
is_in_drop x zero xs n = refl
is_in_drop x (suc k) [] n = refl
is_in_drop x (suc k) (y ∷ ys) n =
    let e = ne_eqb x y (λ q. n 0 (omega arith) (omega arith) (sym q)) in
    rw e (is_in_drop x k ys (λ j m l q. n (suc j) (omega arith) (omega arith) q))

-- where the leaves of a node's two sides begin and end
pub record Halves (i k : ℕ) : Type 0 where
  pub begin : i * 2 ^ suc k ≡ 2 * i * 2 ^ k
  pub middle : (2 * i + 1) * 2 ^ k ≡ 2 * i * 2 ^ k + 2 ^ k
  pub end : (2 * i + 1 + 1) * 2 ^ k ≡ 2 * i * 2 ^ k + 2 * 2 ^ k
  pub whole : (i + 1) * 2 ^ suc k ≡ 2 * i * 2 ^ k + 2 * 2 ^ k

pub halves : (i k : ℕ) → Halves i k
halves i k =
    let p = two-pow-succ k in
    let q = mul_assoc 2 i (2 ^ k) in
    record {
      begin = rw (p, mul-add, q) (omega arith);
      middle = rw add-mul (omega arith);
      end = rw (add-mul, add-mul) (omega arith);
      whole = rw (p, mul-add, add-mul, q) (omega arith);
    }

-- two lists have the same receivers among the leaves of node i
abbrev Agree : ℕ → ℕ → ℕ → List ℕ → List ℕ → Type 0
Agree h k i xs ys = (x : ℕ) → i * 2 ^ k ≤ 2 ^ h + x → 2 ^ h + x < (i + 1) * 2 ^ k → is_in x xs ≡ is_in x ys

work_agree : (h k i : ℕ) (xs ys : List ℕ) → 2 ^ h ≤ i * 2 ^ k → Agree h k i xs ys → work h xs k i ≡ work h ys k i
unfolding work
work_agree h zero i xs ys l a = let e = a (i - 2 ^ h) (omega arith) (omega arith) in rw e
work_agree h (suc k) i xs ys l a =
    let b = halves i k in
    let left = work_agree h k (2 * i) xs ys (omega arith) (λ x p q. a x (omega arith) (omega arith)) in
    let right = work_agree h k (2 * i + 1) xs ys (omega arith) (λ x p q. a x (omega arith) (omega arith)) in
    rw (left, right)

pub none_clean : (h k i : ℕ) → work h [] k i ≡ clean
unfolding work is_in
none_clean h zero i = refl
none_clean h (suc k) i = rw (none_clean h k (2 * i), none_clean h k (2 * i + 1))

-- node i, whose sides have k levels below them, and receivers cut at the first one of its right side
module _ (h k i : ℕ) (low : 2 ^ h ≤ i * 2 ^ suc k) (xs : List ℕ) (n : ℕ) (cut : Cut xs n (first_below h k (2 * i + 1))) where
  pub work_cut : work h xs (suc k) i ≡ join i (work h (take n xs) k (2 * i)) (work h (drop n xs) k (2 * i + 1))
  unfolding work
  work_cut =
      let b = halves i k in
      let left = work_agree h k (2 * i) xs (take n xs) (omega arith) (λ x p q. is_in_take x n xs (λ j a l e. omega (arith, cut.after j a l))) in
      let right = work_agree h k (2 * i + 1) xs (drop n xs) (omega arith) (λ x p q. is_in_drop x n xs (λ j a l e. omega (arith, cut.before j a))) in
      rw (left, right)

-- somebody is revoked there
abbrev pub Open : Work → Type 0
Open clean = ⊥
Open (named j ps) = Unit {0}

open_left : (i : ℕ) (a b : Work) → Open a → Open (join i a b)
open_left i (named j ps) clean o = tt
open_left i (named j ps) (named k qs) o = tt
open_left i clean b o = absurd o

open_right : (i : ℕ) (a b : Work) → Open b → Open (join i a b)
open_right i clean b o = o
open_right i (named j ps) (named k qs) o = tt
open_right i (named j ps) clean o = absurd o

is_in_open : (h k i : ℕ) (xs : List ℕ) (x : ℕ) → is_in x xs ≡ true → i * 2 ^ k ≤ 2 ^ h + x → 2 ^ h + x < (i + 1) * 2 ^ k → Open (work h xs k i)
unfolding work
is_in_open h zero i xs x e l m =
    let f : is_in (i - 2 ^ h) xs ≡ true = ap (λ (y : ℕ). is_in y xs) {x = i - 2 ^ h} {y = x} (omega arith) ∙ e in rw f tt
is_in_open h (suc k) i xs x e l m =
    let b = halves i k in
    elim (cases_lt (2 ^ h + x) ((2 * i + 1) * 2 ^ k)) [
      | inl q ↦ open_left i (work h xs k (2 * i)) (work h xs k (2 * i + 1)) (is_in_open h k (2 * i) xs x e (omega arith) q)
      | inr q ↦ open_right i (work h xs k (2 * i)) (work h xs k (2 * i + 1)) (is_in_open h k (2 * i + 1) xs x e q (omega arith))
    ]

is_in_first : (x : ℕ) (xs : List ℕ) → is_in x (x ∷ xs) ≡ true
unfolding is_in
is_in_first x xs = or_left (eqb x x) (is_in x xs) (eq-eqb x x refl)

-- node i has k levels below it, and the rising receivers are all below it
pub record Beneath (h k i : ℕ) (xs : List ℕ) : Type 0 where
  pub stands : Stands h k i
  pub rise : T (rising_from (first_below h k i) xs)
  pub low : T (all_below (first_below h k i + 2 ^ k) xs)

pub some_open : {h k i : ℕ} (xs : List ℕ) → Beneath h k i xs → 0 < length xs → Open (work h xs k i)
unfolding rising_from all_below
some_open {h} {k} {i} [] b n = absurd (omega arith)
some_open {h} {k} {i} (x ∷ xs) b n =
    let first = first_below h k i in
    let l = leaves_from h k i b.stands in
    let from = leb-true first x (T_true (leb first x) (T_both (leb first x) (rising_from (suc x) xs) b.rise).0) in
    let to = ltb-true x (first + 2 ^ k) (T_true (ltb x (first + 2 ^ k)) (T_both (ltb x (first + 2 ^ k)) (all_below (first + 2 ^ k) xs) b.low).0) in
    is_in_open h k i (x ∷ xs) x (is_in_first x xs) (omega arith) (rw add-mul (omega arith))

-- at the bottom there is one receiver, and it is revoked if anybody is
leaf_open : (h i : ℕ) (xs : List ℕ) → Open (work h xs 0 i) → work h xs 0 i ≡ named i []
unfolding work
leaf_open h i xs = cond_both (is_in (i - 2 ^ h) xs) (named i []) clean (λ (w : Work). Open w → w ≡ named i []) (λ e o. refl) (λ e o. absurd o)

pub leaf_named : {h k i : ℕ} {xs : List ℕ} → Beneath h k i xs → k ≡ 0 → (length xs ≡ 0 → ⊥) → work h xs k i ≡ named i []
leaf_named {h} {k} {i} {xs} b bottom some =
    let e = ap (λ (n : ℕ). work h xs n i) bottom in
    e ∙ leaf_open h i xs (subst Open e (some_open xs b (omega arith)))
