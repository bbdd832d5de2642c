-- A label is what going down makes of one above it. Assumes nothing.
use Rattle.std.proofs.Common.{◌≡◌, ℕ, zero, suc, ◌+◌, ◌/◌, ◌^◌, ◌<◌, ◌≤◌, true, cond, T, eqb, ◌⊎◌, sym, refl, ap, ◌∙◌, inl, inr, div-one, arith}
use Rattle.std.proofs.lemmas.Float.{T_from_true}
use Rattle.std.proofs.lemmas.Bool.{ne_eqb, and_parts, ltb-true, cond-false}
use Rattle.tree.specs.declared.parts.Part.{Part}
use Rattle.tree.specs.Nodes.{below}
use Rattle.tree.specs.Parts.{proper}
use Rattle.tree.proofs.Tests.{T_true}
use Rattle.tree.proofs.Up.{up, half_first, up_zero, up_add, up_far, Under, below_up}
use Rattle.secrecy.specs.Terms.{Term, Start, side, label, label_of}
use Rattle.secrecy.proofs.Labels.{label_self, label_step, proper_is}
use Rattle.keys.specs.Down.{reaches, steps_down, last_nodes, nodes_down, down}
use Rattle.keys.proofs.Steps.{steps_none, steps_up}

-- the last step is the one to j
down_last : (n j : ℕ) (t : Term) → down (last_nodes (suc n) j) t ≡ side j (down (last_nodes n (j / 2)) t)
down_last zero j t = ap (λ (x : ℕ). side x t) (div-one j)
down_last (suc n) j t =
    down_last n j (side (j / 2 ^ suc n) t)
    ∙ ap (λ (x : ℕ). side j (down (last_nodes n (j / 2)) (side x t))) (half_first n j)

-- from the label of a node under another to that of one n steps further down
label_down : (g k root n d j : ℕ) → 1 ≤ root → n + d ≤ k → up d (up n j) ≡ root → down (last_nodes n j) (label g k root (up n j)) ≡ label g k root j
unfolding up
label_down g k root zero d j pos l e = refl
label_down g k root (suc n) d j pos l e =
    down_last n j (label g k root (up n (j / 2)))
    ∙ ap (side j) (label_down g k root n d (j / 2) pos (omega arith) e)
    ∙ sym (label_step g k (n + d) root j pos (omega arith) (sym (up_add n d (j / 2)) ∙ e))

module _ (h i j : ℕ) (pos : 0 < i) (in_tree_lem : j < 2 ^ suc h) (under : Under i j) where
  way_down : (g root : ℕ) → 0 < root → Under root i → down (nodes_down h i j) (label g h root i) ≡ label g h root j
  way_down g root up_pos (d, e) =
      let (n, p) = under in
      let far : up d (up n j) ≡ root = ap (up d) p ∙ e in
      let all : n + d ≤ h = up_far h (n + d) j in_tree_lem (omega (arith, up_add n d j, far)) in
      let count : steps_down h i j ≡ n = steps_up h n i j (omega arith) pos p in
      rw (count, ← p) (label_down g h root n d j up_pos all far)

pub labels_down : (g h root i j : ℕ) → 0 < root → T (below h root i) → j < 2 ^ suc h → reaches h i j ≡ true → down (nodes_down h i j) (label g h root i) ≡ label g h root j
labels_down g h root i j pos above in_tree_lem e =
    let (at, under) = and_parts _ _ e in
    way_down h i j (ltb-true 0 i at) in_tree_lem (below_up h i j under) g root pos (below_up h root i (T_true (below h root i) above))

part_label : (g h i j : ℕ) → ((i ≡ 0) × (j ≡ 0)) ⊎ ((1 ≤ i) × (j < 2 ^ suc h) × Under i j) → down (nodes_down h i j) (Start g i) ≡ cond (eqb i 0) (Start g 0) (label g h i j)
part_label g h i j (inl (a, b)) = let none = steps_none h 0 in rw (a, b, none)
part_label g h i j (inr (pos, lt, under)) =
    ap (down (nodes_down h i j)) (sym (label_self g h i i refl))
    ∙ way_down h i j pos lt under g i pos (0, up_zero i)
    ∙ sym (cond-false (eqb i 0) (Start g 0) (label g h i j) (ne_eqb i 0 (λ e. omega arith)))

-- a part's label is what going down makes of the start of its first node
pub part_down : (g h : ℕ) (p : Part) → proper h p ≡ true → down (nodes_down h p.first p.second) (Start g p.first) ≡ label_of g h p
part_down g h p e = part_label g h p.first p.second (proper_is h p (T_from_true (proper h p) e))
