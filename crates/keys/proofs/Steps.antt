-- How far one node is below another. Assumes nothing.
use Rattle.std.proofs.Common.{◌≡◌, ℕ, zero, suc, ◌+◌, ◌*◌, ◌/◌, ◌^◌, ◌<◌, ◌≤◌, true, false, cond, ◌&&◌, eqb, ltb, ◌⊎◌, Some, None, Option, sym, refl, ap, ◌∙◌, inl, inr, ⊎_elim, pow-suc, pow_pos, arith}
use Rattle.std.proofs.lemmas.Float.{T_from_true}
use Rattle.std.proofs.Math.Pow.{pow_mono}
use Rattle.std.proofs.lemmas.Bool.{eq-eqb, ne_eqb, lt-ltb, ltb-true, and_parts, and_from, or_right, both_ways, cases_Bool, cases_order, cond-true, cond-false, false_from_ne_true}
use Rattle.tree.specs.declared.parts.Part.{Part}
use Rattle.tree.specs.Nodes.{below, in_tree}
use Rattle.tree.specs.Parts.{is_all, descends, proper}
use Rattle.tree.proofs.Up.{up, up_le, up_lt, up_far, Under, below_up, up_below, under_below}
use Rattle.secrecy.proofs.Labels.{proper_is}
use Rattle.keys.specs.Down.{reaches, steps_down}

pub steps_none : (k i : ℕ) → steps_down k i i ≡ 0
unfolding steps_down
steps_none zero i = refl
steps_none (suc k) i = cond-true (eqb i i) 0 (suc (steps_down k i (i / 2))) (eq-eqb i i refl)

-- with enough steps allowed, their number is what it takes to go up
pub steps_up : (k d i j : ℕ) → d ≤ k → 1 ≤ i → up d j ≡ i → steps_down k i j ≡ d
unfolding steps_down up
steps_up zero zero i j l pos e = refl
steps_up zero (suc d) i j l pos e = absurd (omega arith)
steps_up (suc k) zero i j l pos e = cond-true (eqb i j) 0 (suc (steps_down k i (j / 2))) (eq-eqb i j (sym e))
steps_up (suc k) (suc d) i j l pos e =
    cond-false (eqb i j) 0 (suc (steps_down k i (j / 2))) (ne_eqb i j (λ same. omega (arith, up_le d (j / 2), same)))
    ∙ ap suc (steps_up k d i (j / 2) (omega arith) pos e)

module _ (h i j : ℕ) (in_tree_lem : j < 2 ^ suc h) where
  pub found : (d : ℕ) → 0 < i → up d j ≡ i → ◌≡◌ {A = Option ℕ} (Some d) (cond (reaches h i j) (Some (steps_down h i j)) None)
  found d pos e =
      let few : d ≤ h = up_far h d j in_tree_lem (omega arith) in
      let at = lt-ltb 0 i pos in
      let under = up_below h d i j few e in
      let n = steps_up h d i j few pos e in
      rw (at, under, n)

  pub missed : (0 < i → Under i j → ⊥) → ◌≡◌ {A = Option ℕ} None (cond (reaches h i j) (Some (steps_down h i j)) None)
  missed never =
      let e : reaches h i j ≡ false =
      false_from_ne_true (reaches h i j) (λ t. let w = and_parts (ltb 0 i) (below h i j) t in never (ltb-true 0 i w.0) (below_up h i j w.1)) in
      rw e

-- where going up has passed by a node without meeting it, it is not above
pub passed_by : (i j d : ℕ) → up d j < i → ((m : ℕ) → m < d → i < up m j) → Under i j → ⊥
passed_by i j d short before (e, p) = go (cases_order e d)
  where
    go : (e ≡ d) ⊎ ((e < d) ⊎ (d < e)) → ⊥
    go (inl q) = omega (arith, ap (λ (n : ℕ). up n j) q)
    go (inr (inl q)) = omega (arith, before e q)
    go (inr (inr q)) = omega (arith, up_lt d e j q)

-- no number lies between two neighbouring powers of two and between two others
same_power : (n a b : ℕ) → 2 ^ a ≤ n → n < 2 * 2 ^ a → 2 ^ b ≤ n → n < 2 * 2 ^ b → a ≡ b
same_power n a b al ah bl bh = ⊎_elim (λ e. e) (λ o. ⊎_elim (λ lt. absurd (apart a b lt ah bl)) (λ lt. absurd (apart b a lt bh al)) o) (cases_order a b)
  where
    apart : (a b : ℕ) → a < b → n < 2 * 2 ^ a → 2 ^ b ≤ n → ⊥
    apart a b lt high low = let le : suc a ≤ b = omega arith in omega (arith, pow_mono le, pow-suc 2 a)

-- how far one node is above another, from how long both are
pub length_apart : (d i j a b : ℕ) → 2 ^ a ≤ i → i < 2 * 2 ^ a → 2 ^ b ≤ j → j < 2 * 2 ^ b → up d j ≡ i → a + d ≡ b
unfolding up
length_apart zero i j a b al ah bl bh e = omega (arith, same_power i a b al ah (omega arith) (omega arith))
length_apart (suc d) i j a zero al ah bl bh e = absurd (omega (arith, up_le d (j / 2), pow_pos a))
length_apart (suc d) i j a (suc b) al ah bl bh e =
    omega (arith, length_apart d i (j / 2) a b al ah (omega (arith, pow-suc 2 b)) (omega (arith, pow-suc 2 b)) e)

-- of two nodes of the tree that are not the same, a part is proper if the one is below the other
pub proper_two : (h : ℕ) (p : Part) → p.second < 2 ^ suc h → (p.first ≡ p.second → ⊥) → proper h p ≡ reaches h p.first p.second
proper_two h p in_tree_lem two = ⊎_elim right wrong (cases_Bool (reaches h p.first p.second))
  where
    right : reaches h p.first p.second ≡ true → proper h p ≡ reaches h p.first p.second
    right e =
        let (at, under) = and_parts (ltb 0 p.first) (below h p.first p.second) e in
        let (d, up) = below_up h p.first p.second under in
        let pos : 0 < p.first = ltb-true 0 p.first at in
        let le : p.first ≤ p.second = omega (arith, up_le d p.second, up) in
        let first-in = lt-ltb p.first (2 ^ suc h) (omega arith) in
        let second-pos = lt-ltb 0 p.second (omega arith) in
        let second-in = lt-ltb p.second (2 ^ suc h) in_tree_lem in
        let other = ne_eqb p.first p.second two in
        or_right (is_all p) (in_tree h p.first && in_tree h p.second && descends h p) (rw (at, first-in, second-pos, second-in, under, other)) ∙ sym e

    wrong : reaches h p.first p.second ≡ false → proper h p ≡ reaches h p.first p.second
    wrong e = false_from_ne_true (proper h p) (λ t. ⊎_elim same strict (proper_is h p (T_from_true (proper h p) t))) ∙ sym e
      where
        same : (p.first ≡ 0) × (p.second ≡ 0) → ⊥
        same (a, b) = two (a ∙ sym b)

        strict : (1 ≤ p.first) × (p.second < 2 ^ suc h) × Under p.first p.second → ⊥
        strict (pos, lt, u) = both_ways (reaches h p.first p.second) e (and_from (ltb 0 p.first) (below h p.first p.second) (lt-ltb 0 p.first pos) (under_below h p.second lt p.first pos u))
