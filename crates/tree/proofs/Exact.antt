-- Who is in the parts of a cover: just those that are not revoked, each in one part. Assumes nothing.
use Rattle.std.proofs.Common.{◌≡◌, ℕ, zero, suc, ◌+◌, ◌-◌, ◌*◌, ◌/◌, ◌^◌, ◌<◌, ◌≤◌, Bool, true, false, cond, not, ◌&&◌, eqb, ◌≢◌, ◌⊎◌, List, [], ◌∷◌, ◌++◌, sym, refl, ap, ◌∙◌, subst, ap₂, inl, inr, ⊎_elim, pow-suc, arith, pow_pos, pow_mono}
use mathlib.Core.List.Memᴰ
use mathlib.Core.List.{Memᴰ}
use Rattle.std.proofs.lemmas.Bool.{both_ways, cases_Bool, eqb-true, ne_eqb, cond_both}
use Rattle.tree.specs.declared.parts.Part.{Part}
use Rattle.tree.specs.Nodes.{below, leaf, Level}
use Rattle.tree.specs.Receivers.{is_in}
use Rattle.tree.specs.Parts.{part, holds, in_how_many}
use Rattle.tree.specs.Cover.{Work, clean, named, close, join, work, finish, cover}
use Rattle.tree.proofs.Up.{up, up_zero, up_le, Under, trans, under_left, under_right, under_below, below_up, below_mono, Where, below_where}

pub level_left : (d i : ℕ) → Level d i → Level (suc d) (2 * i)
level_left d i l = (omega (arith, l.0), omega (arith, l.1, pow-suc 2 (suc d)))

pub level_right : (d i : ℕ) → Level d i → Level (suc d) (2 * i + 1)
level_right d i l = (omega (arith, l.0), omega (arith, l.1, pow-suc 2 (suc d)))

pub how_many_append : (h u : ℕ) (ps qs : List Part) → in_how_many h u (ps ++ qs) ≡ in_how_many h u ps + in_how_many h u qs
unfolding in_how_many
how_many_append h u [] qs = omega arith
how_many_append h u (p ∷ ps) qs = omega (arith, how_many_append h u ps qs)

close_count : (z bi bj n : Bool) → z ≡ false → (bj ≡ true → bi ≡ true) → (bi ≡ true → bj ≡ false → n ≡ false) →
    cond (cond z true (bi && not bj)) 1 0 + cond (bj && not n) 1 0 ≡ cond (bi && not n) 1 0
close_count z bi bj n e mono f = grind arith

join_count : (b l r n : Bool) →
    ((b ≡ false) × (l ≡ false) × (r ≡ false)) ⊎ (((b ≡ true) × (l ≡ true) × (r ≡ false)) ⊎ ((b ≡ true) × (l ≡ false) × (r ≡ true))) →
    cond (l && not n) 1 0 + cond (r && not n) 1 0 ≡ cond (b && not n) 1 0
join_count b l r n w = grind arith

module _ (h : ℕ) (rs : List ℕ) (u : ℕ) (small : u < 2 ^ h) where
  in_tree_lem : leaf h u < 2 ^ suc h
  in_tree_lem = omega (arith, pow-suc 2 h)

  -- what the work below node i says of receiver u
  abbrev Right : ℕ → Work → Type 0
  Right i clean = below h i (leaf h u) ≡ true → is_in u rs ≡ false
  Right i (named j ps) =
      Under i j × (below h i (leaf h u) ≡ true → below h j (leaf h u) ≡ false → is_in u rs ≡ false) ×
      (in_how_many h u ps ≡ cond (below h j (leaf h u) && not (is_in u rs)) 1 0)

  -- a closed side: the receivers at or below it that are not revoked
  closed : (i j : ℕ) (ps : List Part) → 1 ≤ i → Right i (named j ps) → in_how_many h u (close i j ps) ≡ cond (below h i (leaf h u) && not (is_in u rs)) 1 0
  unfolding in_how_many
  closed i j ps pos r =
      cond_both (eqb i j) ps (part i j ∷ ps) (λ (qs : List Part). in_how_many h u qs ≡ cond (below h i (leaf h u) && not (is_in u rs)) 1 0)
      (λ e. r.2 ∙ ap (λ (x : ℕ). cond (below h x (leaf h u) && not (is_in u rs)) 1 0) (sym (eqb-true i j e)))
      (λ e. ap (λ (x : ℕ). cond (holds h u (part i j)) 1 0 + x) r.2
      ∙ close_count (eqb i 0) (below h i (leaf h u)) (below h j (leaf h u)) (is_in u rs) (ne_eqb i 0 (λ z. omega arith)) (below_mono h (leaf h u) in_tree_lem i j pos r.0) r.1)

  joined : (i : ℕ) (a b : Work) → 1 ≤ i → leaf h u ≢ i → Right (2 * i) a → Right (2 * i + 1) b → Right i (join i a b)
  joined i a b pos ne r s = go (below_where h (leaf h u) in_tree_lem i pos ne) a b r s
    where
      go : Where h (leaf h u) in_tree_lem i → (a b : Work) → Right (2 * i) a → Right (2 * i + 1) b → Right i (join i a b)
      go w clean clean r s = λ t. grind arith
      go w clean (named j ps) r s = (trans i (2 * i + 1) j (under_right i) s.0, (λ t f. grind arith), s.2)
      go w (named j ps) clean r s = (trans i (2 * i) j (under_left i) r.0, (λ t f. grind arith), r.2)
      go w (named j ps) (named k qs) r s = (
        (0, up_zero i),
        (λ t f. absurd (both_ways (below h i (leaf h u)) f t)),
        how_many_append h u (close (2 * i) j ps) (close (2 * i + 1) k qs)
            ∙ ap₂ ◌+◌ (closed (2 * i) j ps (omega arith) r) (closed (2 * i + 1) k qs (omega arith) s)
            ∙ join_count (below h i (leaf h u)) (below h (2 * i) (leaf h u)) (below h (2 * i + 1) (leaf h u)) (is_in u rs) w,
      )

  leaf_is : (i : ℕ) → Level h i → below h i (leaf h u) ≡ true → is_in u rs ≡ is_in (i - 2 ^ h) rs
  unfolding up
  leaf_is i l t = ap (λ (x : ℕ). is_in x rs) {x = u} {y = i - 2 ^ h} (go (below_up h i (leaf h u) t))
    where
      go : Under i (leaf h u) → u ≡ i - 2 ^ h
      go (zero, p) = omega arith
      go (suc d, p) = absurd (omega (arith, l.0, in_tree_lem, up_le d (leaf h u / 2), pow-suc 2 h))

  at_leaf : (i : ℕ) → Level h i → Right i (cond (is_in (i - 2 ^ h) rs) (named i []) clean)
  unfolding in_how_many
  at_leaf i l =
      cond_both (is_in (i - 2 ^ h) rs) (named i []) clean (Right i)
      (λ t. ((0, up_zero i), (λ t f. absurd (both_ways (below h i (leaf h u)) f t)), grind (arith, leaf_is i l)))
      (λ f b. leaf_is i l b ∙ f)

  works : (d k i : ℕ) → d + k ≡ h → Level d i → Right i (work h rs k i)
  unfolding work
  works d zero i e l = at_leaf i (subst (λ (x : ℕ). Level x i) (omega arith) l)
  works d (suc k) i e l =
      joined i (work h rs k (2 * i)) (work h rs k (2 * i + 1)) (omega (arith, l.0, pow_pos d)) (omega (arith, l.1, pow_mono {i = suc d} {j = h} (omega arith)))
      (works (suc d) k (2 * i) (omega arith) (level_left d i l)) (works (suc d) k (2 * i + 1) (omega arith) (level_right d i l))

-- everything is below the top
pub under_top : (d i : ℕ) → Level d i → Under 1 i
unfolding up
under_top zero i l = (0, omega (arith, l.0, l.1))
under_top (suc d) i l =
    let w = under_top d (i / 2) (omega (arith, l.0, pow-suc 2 d), omega (arith, l.1, pow-suc 2 d, pow-suc 2 (suc d))) in
    (suc w.0, w.1)

pub exact : (h : ℕ) (rs : List ℕ) (u : ℕ) → u < 2 ^ h → in_how_many h u (cover h rs) ≡ cond (is_in u rs) 0 1
unfolding in_how_many
exact h rs u small = go (work h rs h 1) (works h rs u small 0 h 1 (omega arith) (omega arith))
  where
    top : below h 1 (leaf h u) ≡ true
    top = under_below h (leaf h u) (in_tree_lem h rs u small) 1 (omega arith) (under_top h (leaf h u) (omega arith, in_tree_lem h rs u small))

    go : (w : Work) → Right h rs u small 1 w → in_how_many h u (finish w) ≡ cond (is_in u rs) 0 1
    go clean r = let e = r top in grind arith
    go (named j ps) r = let e = closed h rs u small 1 j ps (omega arith) r in grind (arith, top)

-- a receiver that is counted is in a part, and the other way
pub counted : (h u : ℕ) (ps : List Part) → 1 ≤ in_how_many h u ps → (p : Part) × Memᴰ p ps × (holds h u p ≡ true)
unfolding in_how_many
counted h u [] l = absurd (omega arith)
counted h u (p ∷ ps) l = go (counted h u ps) (cases_Bool (holds h u p))
  where
    go : (1 ≤ in_how_many h u ps → (p : Part) × Memᴰ p ps × (holds h u p ≡ true)) → (holds h u p ≡ true) ⊎ (holds h u p ≡ false) →
        (q : Part) × Memᴰ q (p ∷ ps) × (holds h u q ≡ true)
    go f (inl e) = (p, Memᴰ.head refl, e)
    go f (inr e) = let w = f (grind (arith, l)) in (w.0, Memᴰ.tail w.1, w.2)

pub counts : (h u : ℕ) (ps : List Part) (p : Part) → Memᴰ p ps → holds h u p ≡ true → 1 ≤ in_how_many h u ps
unfolding in_how_many
counts h u [] p m e = absurd (Memᴰ.not-nil m)
counts h u (q ∷ ps) p m e =
    ⊎_elim (λ r. let f : holds h u q ≡ true = ap (holds h u) (sym r) ∙ e in grind arith) (λ r. omega (arith, counts h u ps p r e)) (Memᴰ.cases_cons m)
