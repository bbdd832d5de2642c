-- Receivers know the labels of just those parts that one of them is in. Assumes nothing.
use Rattle.std.proofs.Common.{◌≡◌, ℕ, zero, suc, ◌+◌, ◌-◌, ◌/◌, ◌^◌, ◌<◌, ◌≤◌, Bool, true, false, cond, not, ◌&&◌, T, eqb, ◌⊎◌, List, sym, refl, ap, ◌∙◌, subst, ap₂, inl, inr, ⊎_elim, pow-suc, arith, pow_mono}
use Rattle.std.proofs.lemmas.Float.{T_from_true}
use mathlib.Core.List.Memᴰ
use mathlib.Core.List.Memᴰ.{head as here}
use mathlib.Core.List.Memᴰ.{tail as there}
use Rattle.std.specs.List.{flat_map}
use Rattle.std.proofs.lemmas.Bool.{both_ways, cases_Bool, eqb-true, eqb-false, ne_eqb, cond_both, false_from_ne_true}
use Rattle.tree.specs.declared.parts.Part.{Part}
use Rattle.tree.specs.Nodes.{leaf, below}
use Rattle.tree.specs.Receivers.{all_below}
use Rattle.tree.specs.Parts.{part, holds}
use Rattle.tree.specs.Ways.{sibling}
use Rattle.tree.proofs.Tests.{T_true}
use Rattle.tree.proofs.Up.{up, up_le, up_half, up_add, up_far, Under, below_up, under_below, below_not_mono}
use Rattle.secrecy.specs.Lists.{◌∈◌}
use Rattle.secrecy.specs.Terms.{Term, Start, is_label, label, label_of, made}
use Rattle.secrecy.specs.Held.{held, held_by, Knows}
use Rattle.secrecy.specs.Promise.{SomeoneIn, HeldLabels}
use Rattle.secrecy.proofs.Lists.{in_joined, joined_in, all_lt}
use Rattle.secrecy.proofs.Made.{made_self, by_label}
use Rattle.secrecy.proofs.Labels.{root, tip, part_of, by_side, label_is, label_fuel, label_of_is, Proper, label_part, label_of_part, made_under}
use Rattle.tree.proofs.Hanging.{sibling_half, sibling_other}
use Rattle.secrecy.proofs.Way.{sibling_is, beside_apart, up_pos, Hangs, in_held, held_in_lem}

held_is : (g h u : ℕ) (t : Term) → t ∈ held g h u → is_label t ≡ true
held_is g h u t m = ⊎_elim (ap is_label) (λ w. ap is_label w.4 ∙ label_is g h _ _) (in_held g h u t m)

-- the tree and the receiver that a held label is from
from_held : (gs : List ℕ) (h : ℕ) (who : List ℕ) (t : Term) → t ∈ held_by gs h who → (g : ℕ) × (u : ℕ) × (u ∈ who) × (t ∈ held g h u)
from_held gs h who t m =
    let a = in_joined (λ g. flat_map (held g h) who) gs t m in
    let b = in_joined (held a.0 h) who t a.2 in
    (a.0, b.0, b.1, b.2)

pub held_labels : HeldLabels
held_labels gs h who t m = let w = from_held gs h who t m in T_from_true (is_label t) (held_is w.0 h w.1 t w.3)

-- only the start of 0 is a label of node 0
tip_pos : (t : Term) → is_label t ≡ true → 1 ≤ root t → 1 ≤ tip t
tip_pos = by_label (λ (t : Term). 1 ≤ root t → 1 ≤ tip t) (λ g i l. l) (λ t f l. omega (arith, f l)) (λ t f l. omega arith)

module _ (h u : ℕ) (small : u < 2 ^ h) where
  abbrev x : ℕ
  x = leaf h u

  in_tree_lem : x < 2 ^ suc h
  in_tree_lem = omega (arith, pow-suc 2 h)

  -- in a part: below the first node and not below the second
  in_part : (i j : ℕ) → 1 ≤ i → Under i x → (Under j x → ⊥) → holds h u (part i j) ≡ true
  in_part i j pos a off =
      go (eqb i 0) (below h i x) (below h j x) (ne_eqb i 0 (λ z. omega arith)) (under_below h x in_tree_lem i pos a)
      (false_from_ne_true (below h j x) (λ t. off (below_up h j x t)))
    where
      go : (z b c : Bool) → z ≡ false → b ≡ true → c ≡ false → cond z true (b && not c) ≡ true
      go z b c e f g = grind arith

  part_in : (i j : ℕ) → 1 ≤ i → 1 ≤ j → holds h u (part i j) ≡ true → Under i x × (Under j x → ⊥)
  part_in i j pos pos' e =
      let w = go (eqb i 0) (below h i x) (below h j x) (ne_eqb i 0 (λ z. omega arith)) e in
      (below_up h i x w.0, λ a. both_ways (below h j x) w.1 (under_below h x in_tree_lem j pos' a))
    where
      go : (z b c : Bool) → z ≡ false → cond z true (b && not c) ≡ true → (b ≡ true) × (c ≡ false)
      go z b c q r = grind arith

  -- from a part on to one with a lower second node
  down : (r t t' : ℕ) → (1 ≤ r → 1 ≤ t) → Under t t' → holds h u (part r t) ≡ true → holds h u (part r t') ≡ true
  down r t t' pos a y =
      go (eqb r 0) (below h r x) (below h t x) (below h t' x) y
      (λ z. below_not_mono h x in_tree_lem t t' (pos (let ne = eqb-false r 0 z in omega arith)) a)
    where
      go : (z b c d : Bool) → cond z true (b && not c) ≡ true → (z ≡ false → c ≡ false → d ≡ false) → cond z true (b && not d) ≡ true
      go z b c d q r = grind arith

  -- a receiver is in the part of each label that hangs off its way
  hangs_holds : (g d e : ℕ) → d ≤ h → e < d → holds h u (part_of (Hangs g h u d e)) ≡ true
  unfolding up
  hangs_holds g d e l k =
      let i = up d x in
      let y = up e x in
      let pos = up_pos d x (omega (arith, pow_mono {i = d} {j = h} l)) in
      let half = up_pos (suc e) x (omega (arith, pow_mono {i = suc e} {j = h} (omega arith))) in
      let two : 2 ≤ y = omega (arith, up_half e x, half) in
      let low : sibling y < 2 ^ suc h = omega (arith, sibling_half y, up_le e x, pow-suc 2 h) in
      let steps = d - suc e in
      let same : up (e + suc steps) x ≡ i = ap (λ (n : ℕ). up n x) {x = e + suc (d - suc e)} {y = d} (omega arith) in
      let under : Under i (sibling y) = (suc steps, ap (up steps) (sibling_half y) ∙ up_add e (suc steps) x ∙ same) in
      ap (holds h u) (label_part g h i (sibling y) pos low under)
      ∙ in_part i (sibling y) pos (d, refl) (beside_apart y (sibling y) x (sym (sibling_half y)) (sibling_other y) two (e, refl))

  held_holds : (g : ℕ) (t : Term) → t ∈ held g h u → holds h u (part_of t) ≡ true
  held_holds g t m =
      ⊎_elim (λ e. ap (λ (t : Term). holds h u (part_of t)) e)
      (λ w. ap (λ (t : Term). holds h u (part_of t)) w.4 ∙ hangs_holds g w.0 w.1 w.2 w.3) (in_held g h u t m)

  -- what a receiver's labels give is of a part that it is in
  knows_holds : (g g' : ℕ) (p : Part) → Proper h p → (l : Term) → l ∈ held g' h u → l ∈ made (label_of g h p) → holds h u p ≡ true
  knows_holds g g' p pr l m n =
      let t = label_of g h p in
      let w = made_under t (label_of_is g h p) l n in
      ap (holds h u) (sym (label_of_part g h p pr)) ∙ ap (λ (r : ℕ). holds h u (part r (tip t))) (sym w.0)
      ∙ down (root l) (tip l) (tip t) (tip_pos l (held_is g' h u l m)) w.1 (held_holds g' l m)

  -- going up from a node that is not on the receiver's way, the last one off it has a label that the receiver holds
  holds_label : (g k d i j : ℕ) → d ≤ k → k ≤ h → up d j ≡ i → 1 ≤ i → j < 2 ^ suc h → Under i x → (Under j x → ⊥) →
      Knows (held g h u) (label g k i j)
  unfolding label up made
  holds_label g k zero i j l m p pos lt a off = absurd (off (subst (λ (n : ℕ). Under n x) (sym p) a))
  holds_label g zero (suc d) i j l m p pos lt a off = absurd (omega arith)
  holds_label g (suc k) (suc d) i j l m p pos lt a off =
      go (holds_label g k d i (j / 2) (omega arith) (omega arith) p pos (omega arith) a) (cases_Bool (below h (j / 2) x))
    where
      -- the node above j is on the way
      beside : Under (j / 2) x → Knows (held g h u) (label g (suc k) i j)
      beside (zero, r) = absurd (omega (arith, pow-suc 2 h))
      beside (suc e, r) =
          let way : up (suc e + d) x ≡ i = sym (up_add (suc e) d x) ∙ ap (up d) r ∙ p in
          let it : sibling (up e x) ≡ j = sibling_is (up e x) j (up_half e x ∙ r) (λ q. off (e, q)) in
          let mine = held_in_lem g h u (suc e + d) e (up_far h (suc e + d) x in_tree_lem (omega (arith, way))) (omega arith) in
          let fuel = label_fuel g h (suc k) (suc d) i j (omega arith) l p in (
            label g h i j,
            Memᴰ.cast (ap₂ (label g h) (sym way) (sym it)) mine,
            subst (λ (t : Term). label g h i j ∈ made t) fuel (made_self (label g h i j)),
          )

      -- it is not
      above : Knows (held g h u) (label g k i (j / 2)) → Knows (held g h u) (label g (suc k) i j)
      above (t, q, n) = (
        t,
        q,
        cond_both (eqb i j) _ _ (λ (s : Term). t ∈ made s) (λ e. absurd (off (subst (λ (n : ℕ). Under n x) (eqb-true i j e) a)))
            (λ e. by_side (λ (s : Term). t ∈ made s) j _ (λ e. there n) (λ e. there n)),
      )

      go : ((Under (j / 2) x → ⊥) → Knows (held g h u) (label g k i (j / 2))) → (below h (j / 2) x ≡ true) ⊎ (below h (j / 2) x ≡ false) →
          Knows (held g h u) (label g (suc k) i j)
      go f (inl e) = beside (below_up h (j / 2) x e)
      go f (inr e) = above (f (λ b. both_ways (below h (j / 2) x) e (under_below h x in_tree_lem (j / 2) (omega (arith, up_le d (j / 2))) b)))

  holds_knows : (g : ℕ) (p : Part) → Proper h p → holds h u p ≡ true → Knows (held g h u) (label_of g h p)
  holds_knows g p (inl (a, b)) e =
      cond_both (eqb p.first 0) _ _ (Knows (held g h u)) (λ q. (Start g 0, here refl, made_self (Start g 0)))
      (λ q. absurd (eqb-false p.first 0 q a))
  holds_knows g p (inr (pos, lt, (d, w))) e =
      let v = part_in p.first p.second pos (omega (arith, up_le d p.second)) e in
      let low = up_far h d p.second lt (omega arith) in
      cond_both (eqb p.first 0) _ _ (Knows (held g h u)) (λ q. absurd (omega (arith, eqb-true p.first 0 q)))
      (λ q. holds_label g h d p.first p.second low (omega arith) w pos lt v.0 v.1)

-- receivers know the label of a part exactly if one of them is in it

module _ (gs : List ℕ) (h : ℕ) (who : List ℕ) (small : T (all_below (2 ^ h) who)) (g : ℕ) (p : Part) (pr : Proper h p) where
  pub knows_someone : Knows (held_by gs h who) (label_of g h p) → SomeoneIn h who p
  knows_someone (l, m, n) =
      let w = from_held gs h who l m in
      let u = w.1 in
      (u, w.2, T_from_true (holds h u p) (knows_holds h u (all_lt (2 ^ h) who small u w.2) g w.0 p pr l w.3 n))

  pub someone_knows : g ∈ gs → SomeoneIn h who p → Knows (held_by gs h who) (label_of g h p)
  someone_knows tree (u, m, t) =
      let w = holds_knows h u (all_lt (2 ^ h) who small u m) g p pr (T_true (holds h u p) t) in
      (w.0, joined_in (λ g. flat_map (held g h) who) gs g w.0 tree (joined_in (held g h) who u w.0 m w.1), w.2)
