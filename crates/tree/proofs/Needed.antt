-- The second node of each part of a cover but (0, 0) is at or above a revoked receiver. Assumes nothing.
use Rattle.std.proofs.Common.{◌≡◌, ℕ, zero, suc, ◌+◌, ◌-◌, ◌*◌, ◌^◌, ◌<◌, ◌≤◌, true, T, eqb, ◌⊎◌, List, [], ◌∷◌, sym, ◌∙◌, subst, inl, inr, ⊎_elim, pow-suc, arith, pow_pos}
use Rattle.std.proofs.lemmas.Float.{T_from_true}
use mathlib.Core.List.Memᴰ
use mathlib.Core.List.{Memᴰ}
use Rattle.std.proofs.lemmas.Bool.{cond_both}
use Rattle.tree.specs.declared.parts.Part.{Part}
use Rattle.tree.specs.Nodes.{leaf, below, Level}
use Rattle.tree.specs.Receivers.{is_in}
use Rattle.tree.specs.Parts.{part, is_all}
use Rattle.tree.specs.Cover.{Work, clean, named, close, join, work, finish, cover}
use Rattle.tree.specs.Promise.{AboveRevoked}
use Rattle.tree.proofs.Up.{up_zero, Under, trans, under_left, under_right, under_below}
use Rattle.tree.proofs.Exact.{level_left, level_right}

module _ (h : ℕ) (rs : List ℕ) where
  -- node j is at or above a revoked receiver
  abbrev Above : ℕ → Type 0
  Above j = (1 ≤ j) × ((u : ℕ) × (u < 2 ^ h) × (is_in u rs ≡ true) × Under j (leaf h u))

  abbrev Needed : ℕ → Work → Type 0
  Needed i clean = Unit {0}
  Needed i (named j ps) = Under i j × Above j × ((p : Part) → Memᴰ p ps → Above p.second)

  close_needed : (i j : ℕ) (ps : List Part) → Needed i (named j ps) → (p : Part) → Memᴰ p (close i j ps) → Above p.second
  close_needed i j ps n p =
      cond_both (eqb i j) ps (part i j ∷ ps) (λ (l : List Part). Memᴰ p l → Above p.second) (λ e. n.2 p)
      (λ e m. ⊎_elim (λ q. subst (λ (r : Part). Above r.second) (sym q) n.1) (n.2 p) (Memᴰ.cases_cons m))

  -- above what is above a revoked receiver
  higher : (i j : ℕ) → 1 ≤ i → Under i j → Above j → Above i
  higher i j pos a (one, (u, low, asked, b)) = (pos, (u, low, asked, trans i j (leaf h u) a b))

  join_needed : (i : ℕ) (a b : Work) → 1 ≤ i → Needed (2 * i) a → Needed (2 * i + 1) b → Needed i (join i a b)
  join_needed i clean clean pos m n = tt
  join_needed i clean (named j ps) pos m n = (trans i (2 * i + 1) j (under_right i) n.0, n.1, n.2)
  join_needed i (named j ps) clean pos m n = (trans i (2 * i) j (under_left i) m.0, m.1, m.2)
  join_needed i (named j ps) (named k qs) pos m n = (
    (0, up_zero i),
    higher i j pos (trans i (2 * i) j (under_left i) m.0) m.1,
    λ p q. ⊎_elim (close_needed (2 * i) j ps m p) (close_needed (2 * i + 1) k qs n p) (Memᴰ.append_cases (close (2 * i) j ps) q),
  )

  work_needed : (d k i : ℕ) → d + k ≡ h → Level d i → Needed i (work h rs k i)
  unfolding work
  work_needed d zero i e l =
      let same : d ≡ h = omega arith in
      let level : Level h i = subst (λ (n : ℕ). Level n i) same l in
      let at : leaf h (i - 2 ^ h) ≡ i = omega (arith, level.0) in
      cond_both (is_in (i - 2 ^ h) rs) (named i []) clean (Needed i)
      (λ t. (
        (0, up_zero i),
        (omega (arith, level.0, pow_pos h), (i - 2 ^ h, omega (arith, level.0, level.1, pow-suc 2 h), t, (0, up_zero (leaf h (i - 2 ^ h)) ∙ at))),
        λ p m. absurd (Memᴰ.not-nil m),
      ))
      (λ t. tt)
  work_needed d (suc k) i e l =
      join_needed i (work h rs k (2 * i)) (work h rs k (2 * i + 1)) (omega (arith, l.0, pow_pos d))
      (work_needed (suc d) k (2 * i) (omega arith) (level_left d i l)) (work_needed (suc d) k (2 * i + 1) (omega arith) (level_right d i l))

  as_promised : (j : ℕ) → Above j → AboveRevoked h rs j
  as_promised j (pos, (u, low, asked, a)) =
      (u, T_from_true (is_in u rs) asked, T_from_true (below h j (leaf h u)) (under_below h (leaf h u) (omega (arith, pow-suc 2 h)) j pos a))

  pub needed : (p : Part) → Memᴰ p (cover h rs) → T (is_all p) ⊎ AboveRevoked h rs p.second
  needed p = go (work h rs h 1) (work_needed 0 h 1 (omega arith) (omega arith))
    where
      go : (w : Work) → Needed 1 w → Memᴰ p (finish w) → T (is_all p) ⊎ AboveRevoked h rs p.second
      go clean n m = inl (subst (λ (r : Part). T (is_all r)) (sym (Memᴰ.eq_of_singleton m)) tt)
      go (named j ps) n m = inr (as_promised p.second (close_needed 1 j ps n p m))
