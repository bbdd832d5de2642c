-- A level is pushed node by node. Assumes nothing.
use Rattle.std.proofs.Common.{◌≡◌, ℕ, zero, suc, ◌+◌, ◌^◌, ◌<◌, ◌≤◌, T, ltb, List, [], ◌∷◌, ◌++◌, map, length, get_or, drop, sym, ap, ◌∙◌, append_assoc, arith}
use Rattle.std.proofs.lemmas.List.{append-nil, at_drop_more, at_drop_all}
use Rattle.std.proofs.lemmas.Bool.{eq-eqb, ltb-true, ne_eqb}
use Rattle.fault.specs.Lowest.{lowest}
use Rattle.tree.specs.Nodes.{max_height}
use Rattle.tree.specs.Receivers.{all_below, list_faults, rising}
use Rattle.tree.proofs.Judged.{sound}
use Rattle.tree.proofs.Tests.{T_both, T_true}
use Rattle.starts.specs.Levels.{unrepeated}

-- receivers without a fault are of the tree, and rise
pub faultless : (h : ℕ) (us : List ℕ) → list_faults h us ≡ [] → (h ≤ max_height) × T (all_below (2 ^ h) us) × T (rising us)
faultless h us e = sound h us (sym (ap lowest e))

pub below_at : (n : ℕ) (us : List ℕ) (i : ℕ) → T (all_below n us) → i < length us → get_or us i 0 < n
unfolding all_below
below_at n [] i b l = absurd (omega arith)
below_at n (u ∷ us) zero b l = ltb-true u n (T_true (ltb u n) (T_both (ltb u n) (all_below n us) b).0)
below_at n (u ∷ us) (suc i) b l = below_at n us i (T_both (ltb u n) (all_below n us) b).1 (omega arith)

module _ (f : ℕ → ℕ) (us nodes all : List ℕ) (last i : ℕ) (so_far : nodes ++ unrepeated last (map f (drop i us)) ≡ all) where
  pub pushed_all : length us ≤ i → nodes ≡ all
  unfolding unrepeated
  pushed_all l =
      let e = at_drop_all (λ (xs : List ℕ). unrepeated last (map f xs)) us i l in
      sym (append-nil nodes) ∙ sym (ap (λ (xs : List ℕ). nodes ++ xs) e) ∙ so_far

  -- one receiver more, whose node is x
  module _ (x : ℕ) (is : x ≡ f (get_or us i 0)) (l : i < length us) where
    step : nodes ++ unrepeated last (x ∷ map f (drop (i + 1) us)) ≡ all
    step =
        let e = at_drop_more (λ (xs : List ℕ). unrepeated last (map f xs)) us i 0 l in
        rw is (sym (ap (λ (xs : List ℕ). nodes ++ xs) e) ∙ so_far)

    pub pushed_new : (x ≡ last → ⊥) → (nodes ++ x ∷ []) ++ unrepeated x (map f (drop (i + 1) us)) ≡ all
    unfolding unrepeated
    pushed_new ne = append_assoc nodes (x ∷ []) _ ∙ (rw (ne_eqb x last ne) at step)

    pub pushed_same : x ≡ last → nodes ++ unrepeated last (map f (drop (i + 1) us)) ≡ all
    unfolding unrepeated
    pushed_same e = rw (eq-eqb x last e) at step
