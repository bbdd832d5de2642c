-- The nodes on a level above rising receivers: where they lie, how many they are, and that they rise. Assumes nothing.
use Rattle.std.proofs.Common.{◌≡◌, ℕ, zero, suc, ◌+◌, ◌-◌, ◌*◌, ◌/◌, ◌^◌, ◌<◌, ◌≤◌, T, eqb, ltb, leb, List, [], ◌∷◌, ◌++◌, map, length, ap, ◌∙◌, subst, mul_comm, add-mul, pow-suc, zero-add, arith, pow_pos}
use Rattle.std.proofs.lemmas.Float.{T_from_true}
use Rattle.std.proofs.lemmas.List.{length-append, length-map}
use Rattle.std.proofs.lemmas.Bool.{cond_both, eqb-true, eqb-false, leb-true, le-leb, lt-ltb, ltb-true, ne_eqb}
use Rattle.tree.specs.Nodes.{leaf}
use Rattle.tree.specs.Receivers.{all_below, rising_from, rising}
use Rattle.tree.proofs.Slices.{below_weaker, rising_weaker}
use Rattle.tree.proofs.Tests.{T_both, T_true, both_T}
use Rattle.tree.proofs.Up.{up, up_div}
use Rattle.starts.specs.Levels.{node_on, unrepeated, level_above, levels_above}

up_mono : (d x y : ℕ) → x ≤ y → up d x ≤ up d y
unfolding up
up_mono zero x y l = l
up_mono (suc d) x y l = up_mono d (x / 2) (y / 2) (omega arith)

pow_more : (d l : ℕ) → 2 ^ (suc d + l) ≡ 2 * 2 ^ (d + l)
pow_more d l = ap (λ (n : ℕ). 2 ^ n) {x = suc d + l} {y = suc (d + l)} (omega arith) ∙ pow-suc 2 (d + l) ∙ mul_comm (2 ^ (d + l)) 2

up_from : (d l x : ℕ) → 2 ^ (d + l) ≤ x → 2 ^ l ≤ up d x
unfolding up
up_from zero l x m = rw zero-add at m
up_from (suc d) l x m = up_from d l (x / 2) (omega (arith, pow_more d l))

up_to : (d l x : ℕ) → x < 2 ^ (d + l) → up d x < 2 ^ l
unfolding up
up_to zero l x m = rw zero-add at m
up_to (suc d) l x m = up_to d l (x / 2) (omega (arith, pow_more d l))

-- a receiver's node on a level
module _ (h l : ℕ) (inner : l ≤ h) where
  on_level_from : (u : ℕ) → 2 ^ l ≤ node_on h l u
  on_level_from u =
      let e : 2 ^ h ≡ 2 ^ (h - l + l) = ap (λ (n : ℕ). 2 ^ n) {x = h} {y = h - l + l} (omega arith) in
      omega (arith, up_div (h - l) (leaf h u), up_from (h - l) l (leaf h u) (omega arith))

  on_level_to : (u : ℕ) → u < 2 ^ h → node_on h l u < 2 ^ suc l
  on_level_to u small =
      let e : 2 ^ suc h ≡ 2 ^ (h - l + suc l) = ap (λ (n : ℕ). 2 ^ n) {x = suc h} {y = h - l + suc l} (omega arith) in
      omega (arith, up_div (h - l) (leaf h u), up_to (h - l) (suc l) (leaf h u) (omega (arith, pow-suc 2 h)))

  on_level_mono : (u v : ℕ) → u ≤ v → node_on h l u ≤ node_on h l v
  on_level_mono u v m =
      omega (arith, up_div (h - l) (leaf h u), up_div (h - l) (leaf h v), up_mono (h - l) (leaf h u) (leaf h v) (omega arith))

-- each of the numbers is at least the one before it, and the first at least a
abbrev Weakly : ℕ → List ℕ → Type 0
Weakly a [] = Unit {0}
Weakly a (x ∷ xs) = (a ≤ x) × Weakly x xs

weakly_map : (f : ℕ → ℕ) → ((u v : ℕ) → u ≤ v → f u ≤ f v) → (a least : ℕ) (us : List ℕ) → ((u : ℕ) → least ≤ u → a ≤ f u) →
    T (rising_from least us) → Weakly a (map f us)
unfolding rising_from
weakly_map f mono a least [] low rise = tt
weakly_map f mono a least (u ∷ us) low rise =
    let b = T_both (leb least u) (rising_from (suc u) us) rise in
    (low u (leb-true least u (T_true (leb least u) b.0)), weakly_map f mono (f u) (suc u) us (λ v m. mono u v (omega arith)) b.1)

-- without repetitions they rise
unrepeated_behind : (last : ℕ) (xs : List ℕ) → Weakly last xs → T (rising_from (suc last) (unrepeated last xs))
unfolding unrepeated rising_from
unrepeated_behind last [] w = tt
unrepeated_behind last (x ∷ xs) w =
    cond_both (eqb x last) (unrepeated last xs) (x ∷ unrepeated x xs) (λ (ys : List ℕ). T (rising_from (suc last) ys))
    (λ e. unrepeated_behind last xs (subst (λ (y : ℕ). Weakly y xs) (eqb-true x last e) w.1))
    (λ e. both_T (leb (suc last) x) (rising_from (suc x) (unrepeated x xs))
    (T_from_true (leb (suc last) x) (le-leb (suc last) x (omega (arith, w.0, eqb-false x last e)))) (unrepeated_behind x xs w.1))

unrepeated_rise : (least : ℕ) (xs : List ℕ) → 0 < least → Weakly least xs → T (rising_from least (unrepeated 0 xs))
unfolding unrepeated rising_from
unrepeated_rise least [] pos w = tt
unrepeated_rise least (x ∷ xs) pos w =
    rw (ne_eqb x 0 (λ e. omega (arith, w.0)))
    (both_T (leb least x) (rising_from (suc x) (unrepeated x xs)) (T_from_true (leb least x) (le-leb least x w.0)) (unrepeated_behind x xs w.1))

unrepeated_below : (n last : ℕ) (xs : List ℕ) → T (all_below n xs) → T (all_below n (unrepeated last xs))
unfolding unrepeated all_below
unrepeated_below n last [] b = tt
unrepeated_below n last (x ∷ xs) b =
    let p = T_both (ltb x n) (all_below n xs) b in
    cond_both (eqb x last) (unrepeated last xs) (x ∷ unrepeated x xs) (λ (ys : List ℕ). T (all_below n ys))
    (λ _. unrepeated_below n last xs p.1) (λ _. both_T (ltb x n) (all_below n (unrepeated x xs)) p.0 (unrepeated_below n x xs p.1))

length_unrepeated : (last : ℕ) (xs : List ℕ) → length (unrepeated last xs) ≤ length xs
unfolding unrepeated
length_unrepeated last [] = omega arith
length_unrepeated last (x ∷ xs) =
    cond_both (eqb x last) (unrepeated last xs) (x ∷ unrepeated x xs) (λ (ys : List ℕ). length ys ≤ suc (length xs))
    (λ _. omega (arith, length_unrepeated last xs)) (λ _. omega (arith, length_unrepeated x xs))

map_below : (f : ℕ → ℕ) (m n : ℕ) (us : List ℕ) → ((u : ℕ) → u < m → f u < n) → T (all_below m us) → T (all_below n (map f us))
unfolding all_below
map_below f m n [] g b = tt
map_below f m n (u ∷ us) g b =
    let p = T_both (ltb u m) (all_below m us) b in
    both_T (ltb (f u) n) (all_below n (map f us)) (T_from_true (ltb (f u) n) (lt-ltb (f u) n (g u (ltb-true u m (T_true (ltb u m) p.0))))) (map_below f m n us g p.1)

below_append : (n : ℕ) (xs ys : List ℕ) → T (all_below n xs) → T (all_below n ys) → T (all_below n (xs ++ ys))
unfolding all_below
below_append n [] ys b c = c
below_append n (x ∷ xs) ys b c =
    let p = T_both (ltb x n) (all_below n xs) b in both_T (ltb x n) (all_below n (xs ++ ys)) p.0 (below_append n xs ys p.1 c)

-- what rises below n, and then what rises from n on
rising_append : (least n : ℕ) (xs ys : List ℕ) → least ≤ n → T (rising_from least xs) → T (all_below n xs) → T (rising_from n ys) → T (rising_from least (xs ++ ys))
unfolding rising_from all_below
rising_append least n [] ys l r b s = rising_weaker least n ys l s
rising_append least n (x ∷ xs) ys l r b s =
    let p = T_both (leb least x) (rising_from (suc x) xs) r in
    let q = T_both (ltb x n) (all_below n xs) b in
    both_T (leb least x) (rising_from (suc x) (xs ++ ys)) p.0
    (rising_append (suc x) n xs ys (ltb-true x n (T_true (ltb x n) q.0)) p.1 q.1 s)

-- rising receivers of a tree
module _ (h : ℕ) (us : List ℕ) (inside : T (all_below (2 ^ h) us)) (rise : T (rising us)) where
  level_rises : (l : ℕ) → l ≤ h → T (rising_from (2 ^ l) (level_above h us l))
  level_rises l inner =
      unrepeated_rise (2 ^ l) (map (node_on h l) us) (pow_pos l)
      (weakly_map (node_on h l) (on_level_mono h l inner) (2 ^ l) 0 us (λ u _. on_level_from h l inner u) rise)

  level_below : (l : ℕ) → l ≤ h → T (all_below (2 ^ suc l) (level_above h us l))
  level_below l inner =
      unrepeated_below (2 ^ suc l) 0 (map (node_on h l) us) (map_below (node_on h l) (2 ^ h) (2 ^ suc l) us (on_level_to h l inner) inside)

  levels_below : (l : ℕ) → l ≤ h → T (all_below (2 ^ l) (levels_above h us l))
  unfolding levels_above all_below
  levels_below zero inner = tt
  levels_below (suc l) inner =
      below_append (2 ^ suc l) (levels_above h us l) (level_above h us l)
      (below_weaker (2 ^ l) (2 ^ suc l) (levels_above h us l) (omega (arith, pow-suc 2 l)) (levels_below l (omega arith))) (level_below l (omega arith))

  pub levels_rise : (l : ℕ) → l ≤ h → T (rising (levels_above h us l))
  unfolding levels_above rising_from
  levels_rise zero inner = tt
  levels_rise (suc l) inner =
      rising_append 0 (2 ^ l) (levels_above h us l) (level_above h us l) (omega arith) (levels_rise l (omega arith)) (levels_below l (omega arith)) (level_rises l (omega arith))

pub length_levels : (h : ℕ) (us : List ℕ) (l : ℕ) → length (levels_above h us l) ≤ 1 + l * length us
unfolding levels_above
length_levels h us zero = omega arith
length_levels h us (suc l) =
    rw length-append
    (omega (arith, length_levels h us l, length_unrepeated 0 (map (node_on h l) us), length-map us (node_on h l), add-mul l 1 (length us)))
