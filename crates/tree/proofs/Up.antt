-- Going up the tree: what is at or below what. Assumes nothing.
use Rattle.std.proofs.Common.{◌≡◌, ℕ, zero, suc, ◌+◌, ◌*◌, ◌/◌, ◌^◌, ◌<◌, ◌≤◌, true, false, eqb, ◌≢◌, ◌⊎◌, sym, refl, ap, ◌∙◌, inl, inr, mul_comm, pow-suc, div-one, arith}
use native.Mathlib.Nat.{div-div-eq-div-mul}
use Rattle.std.proofs.lemmas.Bool.{both_ways, cases_Bool, cases_order, cases_eq, eqb-true, eq-eqb, or_cases, or_left, or_right, false_from_ne_true}
use Rattle.tree.specs.Nodes.{below}

-- d steps up from x
unfoldable pub up : ℕ → ℕ → ℕ
up zero x = x
up (suc d) x = up d (x / 2)

-- x is at or below i
abbrev pub Under : ℕ → ℕ → Type 0
Under i x = (d : ℕ) × (up d x ≡ i)

pub up_zero : (x : ℕ) → up 0 x ≡ x
unfolding up
up_zero x = refl

pub up_le : (d x : ℕ) → up d x ≤ x
unfolding up
up_le zero x = omega arith
up_le (suc d) x = omega (arith, up_le d (x / 2))

pub half_first : (d x : ℕ) → x / 2 ^ suc d ≡ x / 2 / 2 ^ d
half_first d x = ap (λ (m : ℕ). x / m) (pow-suc 2 d ∙ mul_comm (2 ^ d) 2) ∙ sym (div-div-eq-div-mul x 2 (2 ^ d))

pub up_half : (d x : ℕ) → up d x / 2 ≡ up (suc d) x
unfolding up
up_half zero x = refl
up_half (suc d) x = up_half d (x / 2)

pub up_add : (d e x : ℕ) → up e (up d x) ≡ up (d + e) x
unfolding up
up_add zero e x = ap (λ (n : ℕ). up n x) {x = e} {y = 0 + e} (omega arith)
up_add (suc d) e x = up_add d e (x / 2) ∙ ap (λ (n : ℕ). up n x) {x = suc (d + e)} {y = suc d + e} (omega arith)

-- the same by one division
pub up_div : (d x : ℕ) → up d x ≡ x / 2 ^ d
unfolding up
up_div zero x = sym (div-one x)
up_div (suc d) x = up_div d (x / 2) ∙ sym (half_first d x)

pub half_last : (d x : ℕ) → x / 2 ^ suc d ≡ x / 2 ^ d / 2
half_last d x = sym (up_div (suc d) x) ∙ sym (up_half d x) ∙ ap (λ (n : ℕ). n / 2) (up_div d x)

-- a node of the tree is too few steps below its top to go up more than h from it and be a node
pub up_far : (h d x : ℕ) → x < 2 ^ suc h → 1 ≤ up d x → d ≤ h
unfolding up
up_far h zero x lt pos = omega arith
up_far zero (suc d) x lt pos = omega (arith, up_le d (x / 2))
up_far (suc h) (suc d) x lt pos =
    let k : x / 2 < 2 ^ suc h = omega (arith, pow-suc 2 (suc h)) in
    omega (arith, up_far h d (x / 2) k pos)

pub trans : (i j x : ℕ) → Under i j → Under j x → Under i x
trans i j x (d, p) (e, q) = (e + d, sym (up_add e d x) ∙ ap (up d) q ∙ p)

-- further up is at most half
pub up_lt : (d e x : ℕ) → d < e → up e x ≤ up d x / 2
unfolding up
up_lt zero (suc e) x lt = up_le e (x / 2)
up_lt (suc d) (suc e) x lt = up_lt d e (x / 2) (omega arith)
up_lt d zero x lt = absurd (omega arith)

-- the two below a node share nothing
pub disjoint : (i x : ℕ) → 1 ≤ i → Under (2 * i) x → Under (2 * i + 1) x → ⊥
disjoint i x pos (d, p) (e, q) = go (cases_order d e)
  where
    go : (d ≡ e) ⊎ ((d < e) ⊎ (e < d)) → ⊥
    go (inl r) = omega (arith, ap (λ (n : ℕ). up n x) r)
    go (inr (inl r)) = omega (arith, up_lt d e x r)
    go (inr (inr r)) = omega (arith, up_lt e d x r)

-- what is below a node and not the node is below one of the two
pub halves : (i x : ℕ) → x ≢ i → Under i x → Under (2 * i) x ⊎ Under (2 * i + 1) x
unfolding up
halves i x ne (zero, p) = absurd (ne p)
halves i x ne (suc d, p) = go (cases_eq (up d x) (2 * i))
  where
    half : up d x / 2 ≡ i
    half = up_half d x ∙ p

    go : (up d x ≡ 2 * i) ⊎ (up d x ≡ 2 * i → ⊥) → Under (2 * i) x ⊎ Under (2 * i + 1) x
    go (inl r) = inl (d, r)
    go (inr r) = inr (d, omega (arith, half, r))

pub below_up : (k i x : ℕ) → below k i x ≡ true → Under i x
unfolding below up
below_up zero i x t = (0, sym (eqb-true i x t))
below_up (suc k) i x t = go (or_cases (eqb i x) (below k i (x / 2)) t) (below_up k i (x / 2))
  where
    go : (eqb i x ≡ true) ⊎ (below k i (x / 2) ≡ true) → (below k i (x / 2) ≡ true → Under i (x / 2)) → Under i x
    go (inl r) f = (0, sym (eqb-true i x r))
    go (inr r) f = let w = f r in (suc w.0, w.1)

pub up_below : (k d i x : ℕ) → d ≤ k → up d x ≡ i → below k i x ≡ true
unfolding below up
up_below zero zero i x l p = eq-eqb i x (sym p)
up_below (suc k) zero i x l p = or_left (eqb i x) (below k i (x / 2)) (eq-eqb i x (sym p))
up_below (suc k) (suc d) i x l p = or_right (eqb i x) (below k i (x / 2)) (up_below k d i (x / 2) (omega arith) p)
up_below zero (suc d) i x l p = absurd (omega arith)

pub under_left : (i : ℕ) → Under i (2 * i)
unfolding up
under_left i = (1, omega arith)

pub under_right : (i : ℕ) → Under i (2 * i + 1)
unfolding up
under_right i = (1, omega arith)

module _ (h x : ℕ) (in_tree_lem : x < 2 ^ suc h) where
  pub under_below : (i : ℕ) → 1 ≤ i → Under i x → below h i x ≡ true
  under_below i pos (d, p) = up_below h d i x (up_far h d x in_tree_lem (omega arith)) p

  -- what is below j is below whatever j is below
  pub below_mono : (i j : ℕ) → 1 ≤ i → Under i j → below h j x ≡ true → below h i x ≡ true
  below_mono i j pos a t = under_below i pos (trans i j x a (below_up h j x t))

  pub below_not_mono : (i j : ℕ) → 1 ≤ i → Under i j → below h i x ≡ false → below h j x ≡ false
  below_not_mono i j pos a f = false_from_ne_true (below h j x) (λ t. both_ways (below h i x) f (below_mono i j pos a t))

  pub below_disjoint : (i : ℕ) → 1 ≤ i → below h (2 * i) x ≡ true → below h (2 * i + 1) x ≡ false
  below_disjoint i pos t = false_from_ne_true (below h (2 * i + 1) x) (λ r. disjoint i x pos (below_up h (2 * i) x t) (below_up h (2 * i + 1) x r))

  -- a leaf is below neither a node nor the two below it, or below the node and just one of the two
  abbrev pub Where : ℕ → Type 0
  Where i =
      ((below h i x ≡ false) × (below h (2 * i) x ≡ false) × (below h (2 * i + 1) x ≡ false)) ⊎
      (((below h i x ≡ true) × (below h (2 * i) x ≡ true) × (below h (2 * i + 1) x ≡ false)) ⊎
      ((below h i x ≡ true) × (below h (2 * i) x ≡ false) × (below h (2 * i + 1) x ≡ true)))

  pub below_where : (i : ℕ) → 1 ≤ i → x ≢ i → Where i
  below_where i pos ne = go (cases_Bool (below h i x))
    where
      go2 : below h i x ≡ true → Under (2 * i) x ⊎ Under (2 * i + 1) x → Where i
      go2 t (inl a) = let l = under_below (2 * i) (omega arith) a in inr (inl (t, l, below_disjoint i pos l))
      go2 t (inr a) =
          let r = under_below (2 * i + 1) (omega arith) a in
          inr (inr (t, false_from_ne_true (below h (2 * i) x) (λ l. both_ways (below h (2 * i + 1) x) (below_disjoint i pos l) r), r))

      go : (below h i x ≡ true) ⊎ (below h i x ≡ false) → Where i
      go (inl t) = go2 t (halves i x ne (below_up h i x t))
      go (inr f) = inl (f, below_not_mono i (2 * i) pos (under_left i) f, below_not_mono i (2 * i + 1) pos (under_right i) f)
