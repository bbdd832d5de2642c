-- Each part of a cover is (0, 0), or a node of the tree and one strictly below it. Assumes nothing.
use Rattle.std.proofs.Common.{◌≡◌, ℕ, zero, suc, ◌+◌, ◌-◌, ◌*◌, ◌^◌, ◌<◌, ◌≤◌, false, not, ◌&&◌, T, eqb, ltb, List, [], ◌∷◌, sym, subst, ⊎_elim, arith, pow_pos, pow_mono}
use Rattle.std.proofs.lemmas.Float.{T_from_true}
use mathlib.Core.List.Memᴰ
use mathlib.Core.List.{Memᴰ}
use Rattle.std.proofs.lemmas.Bool.{and_from, or_right, lt-ltb, not_from_false, cond_both}
use Rattle.tree.specs.declared.parts.Part.{Part}
use Rattle.tree.specs.Nodes.{below, in_tree, Level}
use Rattle.tree.specs.Receivers.{is_in}
use Rattle.tree.specs.Parts.{part, is_all, descends, proper}
use Rattle.tree.specs.Cover.{Work, clean, named, close, join, work, finish, cover}
use Rattle.tree.proofs.Up.{up_zero, up_le, Under, trans, under_left, under_right, under_below}
use Rattle.tree.proofs.Exact.{level_left, level_right}

module _ (h : ℕ) where
  proper_part : (i j : ℕ) → 1 ≤ i → j < 2 ^ suc h → Under i j → eqb i j ≡ false → T (proper h (part i j))
  proper_part i j pos low (d, e) differ =
      let le : i ≤ j = omega (arith, up_le d j) in
      let first = and_from (ltb 0 i) (ltb i (2 ^ suc h)) (lt-ltb 0 i (omega arith)) (lt-ltb i (2 ^ suc h) (omega arith)) in
      let second = and_from (ltb 0 j) (ltb j (2 ^ suc h)) (lt-ltb 0 j (omega arith)) (lt-ltb j (2 ^ suc h) low) in
      let down = and_from (below h i j) (not (eqb i j)) (under_below h j low i pos (d, e)) (not_from_false (eqb i j) differ) in
      T_from_true (proper h (part i j))
      (or_right (is_all (part i j)) (in_tree h i && in_tree h j && descends h (part i j))
      (and_from (in_tree h i && in_tree h j) (descends h (part i j)) (and_from (in_tree h i) (in_tree h j) first second) down))

  -- what the work below node i says of its parts
  abbrev Neat : ℕ → Work → Type 0
  Neat i clean = Unit {0}
  Neat i (named j ps) = Under i j × (j < 2 ^ suc h) × ((p : Part) → Memᴰ p ps → T (proper h p))

  close_neat : (i j : ℕ) (ps : List Part) → 1 ≤ i → Neat i (named j ps) → (p : Part) → Memᴰ p (close i j ps) → T (proper h p)
  close_neat i j ps pos n p =
      cond_both (eqb i j) ps (part i j ∷ ps) (λ (l : List Part). Memᴰ p l → T (proper h p)) (λ e. n.2 p)
      (λ e m. ⊎_elim (λ q. subst (λ (r : Part). T (proper h r)) (sym q) (proper_part i j pos n.1 n.0 e)) (n.2 p) (Memᴰ.cases_cons m))

  join_neat : (i : ℕ) (a b : Work) → 1 ≤ i → i < 2 ^ suc h → Neat (2 * i) a → Neat (2 * i + 1) b → Neat i (join i a b)
  join_neat i clean clean pos low m n = tt
  join_neat i clean (named j ps) pos low m n = (trans i (2 * i + 1) j (under_right i) n.0, n.1, n.2)
  join_neat i (named j ps) clean pos low m n = (trans i (2 * i) j (under_left i) m.0, m.1, m.2)
  join_neat i (named j ps) (named k qs) pos low m n = (
    (0, up_zero i),
    low,
    λ p q. ⊎_elim (close_neat (2 * i) j ps (omega arith) m p) (close_neat (2 * i + 1) k qs (omega arith) n p) (Memᴰ.append_cases (close (2 * i) j ps) q),
  )

  work_neat : (rs : List ℕ) (d k i : ℕ) → d + k ≡ h → Level d i → Neat i (work h rs k i)
  unfolding work
  work_neat rs d zero i e l =
      cond_both (is_in (i - 2 ^ h) rs) (named i []) clean (Neat i)
      (λ t. ((0, up_zero i), omega (arith, l.1, pow_mono {i = suc d} {j = suc h} (omega arith)), λ p m. absurd (Memᴰ.not-nil m))) (λ t. tt)
  work_neat rs d (suc k) i e l =
      join_neat i (work h rs k (2 * i)) (work h rs k (2 * i + 1)) (omega (arith, l.0, pow_pos d)) (omega (arith, l.1, pow_mono {i = suc d} {j = suc h} (omega arith)))
      (work_neat rs (suc d) k (2 * i) (omega arith) (level_left d i l)) (work_neat rs (suc d) k (2 * i + 1) (omega arith) (level_right d i l))

  pub neat : (rs : List ℕ) (p : Part) → Memᴰ p (cover h rs) → T (proper h p)
  neat rs p = go (work h rs h 1) (work_neat rs 0 h 1 (omega arith) (omega arith))
    where
      go : (w : Work) → Neat 1 w → Memᴰ p (finish w) → T (proper h p)
      go clean n m = subst (λ (r : Part). T (proper h r)) (sym (Memᴰ.eq_of_singleton m)) tt
      go (named j ps) n m = close_neat 1 j ps (omega arith) n p m
