-- A cover has at most 2 r - 1 parts for r revoked. Assumes nothing.
use Rattle.std.proofs.Common.{◌≡◌, ℕ, zero, suc, ◌+◌, ◌-◌, ◌*◌, ◌^◌, ◌<◌, ◌≤◌, Bool, true, false, cond, T, eqb, ltb, List, [], ◌∷◌, length, refl, ◌∙◌, subst, ⊎_elim, pow-suc, arith, ltb→lt, length-append, pow_pos}
use Rattle.std.proofs.lemmas.Bool.{both_ways, eqb-true, cond_both, or_cases}
use Rattle.tree.specs.declared.parts.Part.{Part}
use Rattle.tree.specs.Nodes.{below, leaf, Level}
use Rattle.tree.specs.Receivers.{is_in, all_below}
use Rattle.tree.specs.Parts.{part}
use Rattle.tree.specs.Cover.{Work, clean, named, close, join, work, finish, cover}
use Rattle.tree.specs.Promise.{most}
use Rattle.tree.proofs.Tests.{T_both}
use Rattle.tree.proofs.Up.{up_zero, under_left, under_right, up_below, below_mono, below_disjoint}
use Rattle.tree.proofs.Sides.{none_clean}
use Rattle.tree.proofs.Exact.{level_left, level_right}

-- how many of rs are at or below node i
abbrev beneath : ℕ → ℕ → List ℕ → ℕ
beneath h i [] = 0
beneath h i (u ∷ us) = cond (below h i (leaf h u)) 1 0 + beneath h i us

beneath_le : (h i : ℕ) (rs : List ℕ) → beneath h i rs ≤ length rs
beneath_le h i [] = omega arith
beneath_le h i (u ∷ us) =
    cond_both (below h i (leaf h u)) 1 0 (λ (n : ℕ). n + beneath h i us ≤ suc (length us)) (λ e. omega (arith, beneath_le h i us)) (λ e. omega (arith, beneath_le h i us))

beneath_two : (h i : ℕ) (rs : List ℕ) → T (all_below (2 ^ h) rs) → 1 ≤ i → beneath h (2 * i) rs + beneath h (2 * i + 1) rs ≤ beneath h i rs
unfolding all_below
beneath_two h i [] t pos = omega arith
beneath_two h i (u ∷ us) t pos =
    omega (
      arith,
      beneath_two h i us (T_both (ltb u (2 ^ h)) (all_below (2 ^ h) us) t).1 pos,
      go (below h i (leaf h u)) (below h (2 * i) (leaf h u)) (below h (2 * i + 1) (leaf h u))
          (below_mono h (leaf h u) low i (2 * i) pos (under_left i)) (below_mono h (leaf h u) low i (2 * i + 1) pos (under_right i)) (below_disjoint h (leaf h u) low i pos),
    )
  where
    low : leaf h u < 2 ^ suc h
    low = omega (arith, ltb→lt u (2 ^ h) (T_both (ltb u (2 ^ h)) (all_below (2 ^ h) us) t).0, pow-suc 2 h)

    go : (b l r : Bool) → (l ≡ true → b ≡ true) → (r ≡ true → b ≡ true) → (l ≡ true → r ≡ false) → cond l 1 0 + cond r 1 0 ≤ cond b 1 0
    go b l r p q s = grind arith

beneath_leaf : (h i : ℕ) (rs : List ℕ) → Level h i → is_in (i - 2 ^ h) rs ≡ true → 1 ≤ beneath h i rs
unfolding is_in
beneath_leaf h i [] l e = absurd (both_ways false refl e)
beneath_leaf h i (u ∷ us) l e =
    ⊎_elim (λ q. let f : below h i (leaf h u) ≡ true = up_below h 0 i (leaf h u) (omega arith) (up_zero (leaf h u) ∙ omega (arith, l.0, eqb-true (i - 2 ^ h) u q)) in grind arith)
    (λ q. omega (arith, beneath_leaf h i us l q)) (or_cases (eqb (i - 2 ^ h) u) (is_in (i - 2 ^ h) us) e)

pub close_few : (i j : ℕ) (ps : List Part) → length (close i j ps) ≤ suc (length ps)
close_few i j ps = cond_both (eqb i j) ps (part i j ∷ ps) (λ (l : List Part). length l ≤ suc (length ps)) (λ e. omega arith) (λ e. omega arith)

-- n revoked receivers stand for the parts made, and for two more
abbrev pub Paid : ℕ → Work → Type 0
Paid n clean = Unit {0}
Paid n (named j ps) = length ps + 2 ≤ 2 * n

paid_le : (m n : ℕ) (w : Work) → m ≤ n → Paid m w → Paid n w
paid_le m n clean le p = tt
paid_le m n (named j ps) le p = omega arith

module _ (h : ℕ) (rs : List ℕ) (fine : T (all_below (2 ^ h) rs)) where
  join_paid : (i : ℕ) (a b : Work) → 1 ≤ i → Paid (beneath h (2 * i) rs) a → Paid (beneath h (2 * i + 1) rs) b → Paid (beneath h i rs) (join i a b)
  join_paid i clean b pos m n = paid_le (beneath h (2 * i + 1) rs) (beneath h i rs) b (omega (arith, beneath_two h i rs fine pos)) n
  join_paid i (named j ps) clean pos m n = omega (arith, m, beneath_two h i rs fine pos)
  join_paid i (named j ps) (named k qs) pos m n =
      omega (arith, m, n, beneath_two h i rs fine pos, close_few (2 * i) j ps, close_few (2 * i + 1) k qs, length-append (close (2 * i) j ps) (close (2 * i + 1) k qs))

  beneath_paid : (d k i : ℕ) → d + k ≡ h → Level d i → Paid (beneath h i rs) (work h rs k i)
  unfolding work
  beneath_paid d zero i e l =
      cond_both (is_in (i - 2 ^ h) rs) (named i []) clean (Paid (beneath h i rs))
      (λ t. omega (arith, beneath_leaf h i rs (subst (λ (n : ℕ). Level n i) {x = d} {y = h} (omega arith) l) t)) (λ t. tt)
  beneath_paid d (suc k) i e l =
      join_paid i (work h rs k (2 * i)) (work h rs k (2 * i + 1)) (omega (arith, l.0, pow_pos d))
      (beneath_paid (suc d) k (2 * i) (omega arith) (level_left d i l)) (beneath_paid (suc d) k (2 * i + 1) (omega arith) (level_right d i l))

  pub work_paid : (d k i : ℕ) → d + k ≡ h → Level d i → Paid (length rs) (work h rs k i)
  work_paid d k i e l = paid_le (beneath h i rs) (length rs) (work h rs k i) (beneath_le h i rs) (beneath_paid d k i e l)

most_is : (r : ℕ) → 1 ≤ r → most r + 1 ≡ 2 * r
most_is zero l = absurd (omega arith)
most_is (suc r) l = omega arith

pub most_one : (r : ℕ) → 1 ≤ most r
most_one zero = omega arith
most_one (suc r) = omega arith

pub few : (h : ℕ) (rs : List ℕ) → T (all_below (2 ^ h) rs) → length (cover h rs) ≤ most (length rs)
few h rs fine = go (work h rs h 1) (work_paid h rs fine 0 h 1 (omega arith) (omega arith))
  where
    go : (w : Work) → Paid (length rs) w → length (finish w) ≤ most (length rs)
    go clean p = most_one (length rs)
    go (named j ps) p = omega (arith, p, close_few 1 j ps, most_is (length rs) (omega (arith, p)))

pub cover_none : (h : ℕ) → cover h [] ≡ part 0 0 ∷ []
cover_none h = rw (none_clean h h 1)
