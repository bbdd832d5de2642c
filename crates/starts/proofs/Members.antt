-- Which nodes are on the levels above some receivers: just those that are kept. Assumes nothing.
use Rattle.std.proofs.Common.{◌≡◌, ℕ, zero, suc, ◌-◌, ◌/◌, ◌^◌, ◌<◌, ◌≤◌, Bool, true, ◌&&◌, ◌||◌, T, eqb, ltb, ◌⊎◌, List, [], ◌∷◌, ◌++◌, map, sym, refl, ap, ◌∙◌, subst, inl, inr, ⊎_elim, pow-suc, arith}
use Rattle.std.proofs.lemmas.Bool.{and_from, and_parts, cases_eq, cond_both, eq-eqb, eqb-true, ltb-true, lt-ltb, or_cases, or_left, or_right}
use Rattle.tree.specs.Nodes.{leaf, below}
use Rattle.tree.specs.Receivers.{all_below, is_in, rising}
use Rattle.tree.proofs.Tests.{T_both, T_true}
use Rattle.tree.proofs.Up.{up, up_far, below_up, up_below, up_div}
use Rattle.starts.specs.Kept.{above_some, is_kept, KeptNodes}
use Rattle.starts.specs.Levels.{node_on, unrepeated, level_above, levels_above}
use Rattle.starts.proofs.Levels.{levels_rise, length_levels}

same_tests : (a b : Bool) → (a ≡ true → b ≡ true) → (b ≡ true → a ≡ true) → a ≡ b
same_tests a b f g = grind arith

is_in_append : (i : ℕ) (xs ys : List ℕ) → is_in i (xs ++ ys) ≡ (is_in i xs || is_in i ys)
unfolding is_in
is_in_append i [] ys = refl
is_in_append i (x ∷ xs) ys = rw (is_in_append i xs ys) (grind arith)

twice : (i last x : ℕ) (b : Bool) → x ≡ last → (eqb i last || b) ≡ (eqb i last || (eqb i x || b))
twice i last x b e = rw e (grind arith)

is_in_unrepeated : (i last : ℕ) (xs : List ℕ) → (eqb i last || is_in i (unrepeated last xs)) ≡ (eqb i last || is_in i xs)
unfolding is_in unrepeated
is_in_unrepeated i last [] = refl
is_in_unrepeated i last (x ∷ xs) =
    cond_both (eqb x last) (unrepeated last xs) (x ∷ unrepeated x xs) (λ (ys : List ℕ). (eqb i last || is_in i ys) ≡ (eqb i last || (eqb i x || is_in i xs)))
    (λ e. is_in_unrepeated i last xs ∙ twice i last x (is_in i xs) (eqb-true x last e))
    (λ _. ap (λ (b : Bool). eqb i last || b) (is_in_unrepeated i x xs))

is_in_map : (f : ℕ → ℕ) (i : ℕ) (us : List ℕ) → is_in i (map f us) ≡ true → (u : ℕ) × (is_in u us ≡ true) × (f u ≡ i)
unfolding is_in
is_in_map f i [] t = absurd cc
is_in_map f i (u ∷ us) t =
    ⊎_elim (λ e. (u, or_left (eqb u u) (is_in u us) (eq-eqb u u refl), sym (eqb-true i (f u) e)))
    (λ e. let r = is_in_map f i us e in (r.0, or_right (eqb r.0 u) (is_in r.0 us) r.1, r.2))
    (or_cases (eqb i (f u)) (is_in i (map f us)) t)

map_is_in : (f : ℕ → ℕ) (u : ℕ) (us : List ℕ) → is_in u us ≡ true → is_in (f u) (map f us) ≡ true
unfolding is_in
map_is_in f u [] t = absurd cc
map_is_in f u (v ∷ us) t =
    ⊎_elim (λ e. or_left (eqb (f u) (f v)) (is_in (f u) (map f us)) (eq-eqb (f u) (f v) (ap f (eqb-true u v e))))
    (λ e. or_right (eqb (f u) (f v)) (is_in (f u) (map f us)) (map_is_in f u us e))
    (or_cases (eqb u v) (is_in u us) t)

-- node i is properly above the own node of one of the receivers
abbrev pub Above : ℕ → List ℕ → ℕ → Type 0
Above h us i = (u : ℕ) × (d : ℕ) × (is_in u us ≡ true) × (1 ≤ d) × (d ≤ h) × (up d (leaf h u) ≡ i)

level_above_lem : (h : ℕ) (us : List ℕ) (i l : ℕ) → suc l ≤ h → is_in i (level_above h us l) ≡ true → (i ≡ 0) ⊎ Above h us i
level_above_lem h us i l inner t =
    ⊎_elim (λ e. inl (eqb-true i 0 e))
    (λ e. let r = is_in_map (node_on h l) i us e in inr (r.0, h - l, r.1, omega arith, omega arith, up_div (h - l) (leaf h r.0) ∙ r.2))
    (or_cases (eqb i 0) (is_in i (map (node_on h l) us)) (sym (is_in_unrepeated i 0 (map (node_on h l) us)) ∙ or_right (eqb i 0) (is_in i (level_above h us l)) t))

levels_above_lem : (h : ℕ) (us : List ℕ) (i l : ℕ) → l ≤ h → is_in i (levels_above h us l) ≡ true → (i ≡ 0) ⊎ Above h us i
unfolding levels_above is_in
levels_above_lem h us i zero inner t = inl (eqb-true i 0 (grind arith))
levels_above_lem h us i (suc l) inner t =
    ⊎_elim (levels_above_lem h us i l (omega arith)) (level_above_lem h us i l inner)
    (or_cases (is_in i (levels_above h us l)) (is_in i (level_above h us l)) (sym (is_in_append i (levels_above h us l) (level_above h us l)) ∙ t))

-- 0 is there, and what is on one of the levels
zero_in_levels : (h : ℕ) (us : List ℕ) (l : ℕ) → is_in 0 (levels_above h us l) ≡ true
unfolding levels_above is_in
zero_in_levels h us zero = refl
zero_in_levels h us (suc l) =
    is_in_append 0 (levels_above h us l) (level_above h us l) ∙ or_left (is_in 0 (levels_above h us l)) (is_in 0 (level_above h us l)) (zero_in_levels h us l)

above_in_level : (h : ℕ) (us : List ℕ) (i u d : ℕ) → d ≤ h → is_in u us ≡ true → 1 ≤ i → up d (leaf h u) ≡ i → is_in i (level_above h us (h - d)) ≡ true
above_in_level h us i u d low t pos e =
    let xs = map (node_on h (h - d)) us in
    let f : node_on h (h - d) u ≡ i =
    ap (λ (n : ℕ). leaf h u / 2 ^ n) {x = h - (h - d)} {y = d} (omega arith) ∙ sym (up_div d (leaf h u)) ∙ e in
    let q : is_in i xs ≡ true = subst (λ (j : ℕ). is_in j xs ≡ true) f (map_is_in (node_on h (h - d)) u us t) in
    ⊎_elim (λ z. absurd (omega (arith, eqb-true i 0 z))) (λ r. r)
    (or_cases (eqb i 0) (is_in i (unrepeated 0 xs)) (is_in_unrepeated i 0 xs ∙ or_right (eqb i 0) (is_in i xs) q))

in_levels : (h : ℕ) (us : List ℕ) (i k l : ℕ) → k < l → is_in i (level_above h us k) ≡ true → is_in i (levels_above h us l) ≡ true
unfolding levels_above
in_levels h us i k zero lt t = absurd (omega arith)
in_levels h us i k (suc l) lt t =
    is_in_append i (levels_above h us l) (level_above h us l)
    ∙ ⊎_elim (λ e. or_right (is_in i (levels_above h us l)) (is_in i (level_above h us l)) (subst (λ (m : ℕ). is_in i (level_above h us m) ≡ true) e t))
    (λ ne. or_left (is_in i (levels_above h us l)) (is_in i (level_above h us l)) (in_levels h us i k l (omega arith) t))
    (cases_eq k l)

-- what is above a receiver, by steps up from its own node
pub above_some_lem : (h : ℕ) (us : List ℕ) (i : ℕ) → T (all_below (2 ^ h) us) → above_some h us i ≡ true → Above h us i
unfolding above_some is_in all_below up
above_some_lem h [] i inside t = absurd cc
above_some_lem h (u ∷ us) i inside t =
    let b = T_both (ltb u (2 ^ h)) (all_below (2 ^ h) us) inside in
    let small = ltb-true u (2 ^ h) (T_true (ltb u (2 ^ h)) b.0) in
    ⊎_elim
    (λ e. let p = and_parts (ltb 0 i) (below h i (leaf h u / 2)) e in
    let w = below_up h i (leaf h u / 2) p.1 in (
      u,
      suc w.0,
      or_left (eqb u u) (is_in u us) (eq-eqb u u refl),
      omega arith,
      up_far h (suc w.0) (leaf h u) (omega (arith, pow-suc 2 h)) (omega (arith, w.1, ltb-true 0 i p.0)),
      w.1,
    ))
    (λ e. let r = above_some_lem h us i b.1 e in (r.0, r.1, or_right (eqb r.0 u) (is_in r.0 us) r.2, r.3, r.4, r.5))
    (or_cases (ltb 0 i && below h i (leaf h u / 2)) (above_some h us i) t)

pub some_above : (h : ℕ) (us : List ℕ) (i u d : ℕ) → 1 ≤ i → is_in u us ≡ true → d < h → up d (leaf h u / 2) ≡ i → above_some h us i ≡ true
unfolding above_some is_in
some_above h [] i u d pos t low e = absurd cc
some_above h (v ∷ us) i u d pos t low e =
    ⊎_elim
    (λ q. or_left (ltb 0 i && below h i (leaf h v / 2)) (above_some h us i)
    (and_from (ltb 0 i) (below h i (leaf h v / 2)) (lt-ltb 0 i pos)
    (up_below h d i (leaf h v / 2) (omega arith) (ap (λ (w : ℕ). up d (leaf h w / 2)) (sym (eqb-true u v q)) ∙ e))))
    (λ q. or_right (ltb 0 i && below h i (leaf h v / 2)) (above_some h us i) (some_above h us i u d pos q low e))
    (or_cases (eqb u v) (is_in u us) t)

above_kept : (h : ℕ) (us : List ℕ) (i : ℕ) → 1 ≤ i → Above h us i → above_some h us i ≡ true
unfolding up
above_kept h us i pos (u, suc d, t, one, low, e) = some_above h us i u d pos t low e
above_kept h us i pos (u, zero, t, one, low, e) = absurd (omega arith)

-- rising receivers of a tree
module _ (h : ℕ) (us : List ℕ) (inside : T (all_below (2 ^ h) us)) where
  in_kept : (i : ℕ) → (i ≡ 0) ⊎ Above h us i → is_kept h us i ≡ true
  in_kept i a =
      ⊎_elim (λ e. or_left (eqb i 0) (above_some h us i) (eq-eqb i 0 e))
      (λ ne. or_right (eqb i 0) (above_some h us i) (⊎_elim (λ e. absurd (ne e)) (above_kept h us i (omega arith)) a))
      (cases_eq i 0)

  kept_in : (i : ℕ) → is_kept h us i ≡ true → is_in i (levels_above h us h) ≡ true
  kept_in i t =
      ⊎_elim (λ e. rw e (zero_in_levels h us h))
      (λ ne. ⊎_elim (λ e. absurd (ne (eqb-true i 0 e)))
      (λ e. let a = above_some_lem h us i inside e in
      in_levels h us i (h - a.1) h (omega (arith, a.3, a.4)) (above_in_level h us i a.0 a.1 a.4 a.2 (omega arith) a.5))
      (or_cases (eqb i 0) (above_some h us i) t))
      (cases_eq i 0)

  pub kept_nodes : T (rising us) → KeptNodes h us (levels_above h us h)
  kept_nodes rise =
      record {
        rises = levels_rise h us inside rise h (omega arith);
        exact = λ i. same_tests (is_in i (levels_above h us h)) (is_kept h us i) (λ t. in_kept i (levels_above_lem h us i h (omega arith) t)) (kept_in i);
        few = length_levels h us h;
      }
