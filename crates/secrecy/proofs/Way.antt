-- What hangs off a receiver's way up the tree, and that a receiver holds just these labels. Assumes nothing.
use Rattle.std.proofs.Common.{◌≡◌, ℕ, zero, suc, ◌+◌, ◌/◌, ◌^◌, ◌<◌, ◌≤◌, ◌⊎◌, sym, refl, ap, ◌∙◌, subst, inl, inr, ⊎_elim, pow-suc, arith}
use mathlib.Core.List.Memᴰ
use mathlib.Core.List.Memᴰ.{head as here}
use mathlib.Core.List.Memᴰ.{tail as there}
use Rattle.std.proofs.lemmas.List.{length-map}
use Rattle.std.proofs.lemmas.Bool.{cases_order}
use Rattle.tree.specs.declared.parts.Part.{Part}
use Rattle.tree.specs.Nodes.{leaf}
use Rattle.tree.specs.Parts.{part}
use Rattle.tree.specs.Ways.{sibling, hanging, above, way}
use Rattle.tree.proofs.Up.{up, up_lt, Under}
use Rattle.tree.proofs.Hanging.{sibling_half, sibling_other, way_double}
use Rattle.secrecy.specs.Lists.{◌∈◌}
use Rattle.secrecy.specs.Terms.{Term, Start}
use Rattle.secrecy.specs.Held.{held_label, held}
use Rattle.secrecy.specs.Promise.{HeldCount}
use Rattle.secrecy.proofs.Lists.{in_map}

pub sibling_is : (y j : ℕ) → y / 2 ≡ j / 2 → (y ≡ j → ⊥) → sibling y ≡ j
sibling_is y j e ne = let h = sibling_half y in let o = sibling_other y in omega (arith, h, o)

-- nothing is below two nodes that stand beside each other
pub beside_apart : (y z x : ℕ) → y / 2 ≡ z / 2 → (z ≡ y → ⊥) → 2 ≤ y → Under y x → Under z x → ⊥
beside_apart y z x same ne two (d, p) (e, q) = go (cases_order d e)
  where
    go : (d ≡ e) ⊎ ((d < e) ⊎ (e < d)) → ⊥
    go (inl r) = ne (sym q ∙ ap (λ (n : ℕ). up n x) (sym r) ∙ p)
    go (inr (inl r)) = omega (arith, up_lt d e x r)
    go (inr (inr r)) = omega (arith, up_lt e d x r)

-- a node far enough down is still one d steps up
pub up_pos : (d x : ℕ) → 2 ^ d ≤ x → 1 ≤ up d x
unfolding up
up_pos zero x l = omega arith
up_pos (suc d) x l = up_pos d (x / 2) (omega (arith, pow-suc 2 d))

in_hanging : (d i x : ℕ) (p : Part) → p ∈ hanging d i x → (e : ℕ) × (e < d) × (p ≡ part i (sibling (up e x)))
unfolding hanging up
in_hanging zero i x p m = absurd (Memᴰ.not-nil m)
in_hanging (suc d) i x p m =
    ⊎_elim (λ q. (0, omega arith, q)) (λ q. let w = in_hanging d i (x / 2) p q in (suc w.0, omega (arith, w.1), w.2)) (Memᴰ.cases_cons m)

hanging_in : (d i x e : ℕ) → e < d → part i (sibling (up e x)) ∈ hanging d i x
unfolding hanging up
hanging_in zero i x e l = absurd (omega arith)
hanging_in (suc d) i x zero l = here refl
hanging_in (suc d) i x (suc e) l = there (hanging_in d i (x / 2) e (omega arith))

in_above : (k d i x : ℕ) (p : Part) → p ∈ above k d i x → (a : ℕ) × (a < k) × (p ∈ hanging (d + a) (up a i) x)
unfolding above up
in_above zero d i x p m = absurd (Memᴰ.not-nil m)
in_above (suc k) d i x p m =
    ⊎_elim (λ q. (0, omega arith, subst (λ (n : ℕ). p ∈ hanging n i x) {x = d} {y = d + 0} (omega arith) q))
    (λ q. let w = in_above k (suc d) (i / 2) x p q in (
      suc w.0,
      omega (arith, w.1),
      subst (λ (n : ℕ). p ∈ hanging n (up w.0 (i / 2)) x) {x = suc d + w.0} {y = d + suc w.0} (omega arith) w.2,
    ))
    (Memᴰ.append_cases (hanging d i x) m)

above_in : (k d i x a : ℕ) (p : Part) → a < k → p ∈ hanging (d + a) (up a i) x → p ∈ above k d i x
unfolding above up
above_in zero d i x a p l m = absurd (omega arith)
above_in (suc k) d i x zero p l m =
    Memᴰ.append_left (above k (suc d) (i / 2) x) (subst (λ (n : ℕ). p ∈ hanging n i x) {x = d + 0} {y = d} (omega arith) m)
above_in (suc k) d i x (suc a) p l m =
    Memᴰ.append_right (hanging d i x)
    (above_in k (suc d) (i / 2) x a p (omega arith)
    (subst (λ (n : ℕ). p ∈ hanging n (up a (i / 2)) x) {x = d + suc a} {y = suc d + a} (omega arith) m))

pub held_count : HeldCount
held_count g h u =
    omega (arith, length-map (way h u) (held_label g h), way_double h u)

module _ (g h u : ℕ) where
  -- a label that hangs off the way: under the node d steps up, of the one beside the node e steps up
  abbrev pub Hangs : ℕ → ℕ → Term
  Hangs d e = held_label g h (part (up d (leaf h u)) (sibling (up e (leaf h u))))

  pub in_held : (t : Term) → t ∈ held g h u → (t ≡ Start g 0) ⊎ ((d : ℕ) × (e : ℕ) × (d ≤ h) × (e < d) × (t ≡ Hangs d e))
  unfolding up
  in_held t m =
      ⊎_elim inl
      (λ q. let w = in_map (held_label g h) (way h u) t q in
      let a = in_above h 1 (leaf h u / 2) (leaf h u) w.0 w.1 in
      let b = in_hanging (1 + a.0) (up a.0 (leaf h u / 2)) (leaf h u) w.0 a.2 in
      inr (suc a.0, b.0, omega (arith, a.1), omega (arith, b.1), w.2 ∙ ap (held_label g h) b.2))
      (Memᴰ.cases_cons m)

  pub held_in_lem : (d e : ℕ) → d ≤ h → e < d → Hangs d e ∈ held g h u
  unfolding up
  held_in_lem zero e l m = absurd (omega arith)
  held_in_lem (suc d) e l m =
      let x = leaf h u in
      there (Memᴰ.map (held_label g h) (above_in h 1 (x / 2) x d (part (up d (x / 2)) (sibling (up e x))) (omega arith) (hanging_in (1 + d) (up d (x / 2)) x e (omega arith))))
