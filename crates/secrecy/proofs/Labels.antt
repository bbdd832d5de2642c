-- Labels read back: under which node, and of which. Assumes nothing.
use Rattle.std.proofs.Common.{◌≡◌, ℕ, zero, suc, ◌+◌, ◌*◌, ◌/◌, ◌%◌, ◌^◌, ◌<◌, ◌≤◌, true, cond, not, ◌&&◌, T, eqb, ltb, ◌⊎◌, sym, refl, ap, ◌∙◌, ap₂, inl, inr, ⊎_elim, arith}
use mathlib.Core.List.Memᴰ
use Rattle.std.proofs.lemmas.Bool.{eqb-true, eqb-false, eq-eqb, ltb-true, cond_both, cond-true, cond-false, ne_eqb, and_parts, or_cases}
use Rattle.tree.specs.declared.parts.Part.{Part}
use Rattle.tree.specs.Nodes.{below, in_tree}
use Rattle.tree.specs.Parts.{part, is_all, descends, proper}
use Rattle.tree.proofs.Tests.{T_true}
use Rattle.tree.proofs.Up.{up, up_zero, up_le, up_far, Under, trans, under_left, under_right, below_up}
use Rattle.secrecy.specs.Lists.{◌∈◌}
use Rattle.secrecy.specs.Terms.{Term, Start, Left, Right, Middle, Pad, Check, Session, Noise, Xor, is_label, side, label, label_of, made}
use Rattle.secrecy.proofs.Made.{by_label}

-- the node whose start a label comes from
abbrev pub root : Term → ℕ
root (Start g i) = i
root (Left t) = root t
root (Right t) = root t
root (Middle t) = 0
root (Pad k n) = 0
root (Check k n) = 0
root (Session s) = 0
root (Noise n i) = 0
root (Xor a b) = 0

-- the node that a label is of
abbrev pub tip : Term → ℕ
tip (Start g i) = i
tip (Left t) = 2 * tip t
tip (Right t) = 2 * tip t + 1
tip (Middle t) = 0
tip (Pad k n) = 0
tip (Check k n) = 0
tip (Session s) = 0
tip (Noise n i) = 0
tip (Xor a b) = 0

-- the part of a label
abbrev pub part_of : Term → Part
part_of t = part (root t) (tip t)

-- what holds of a step to the left and of one to the right
pub by_side : (P : Term → Type 0) (j : ℕ) (t : Term) → (j % 2 ≡ 0 → P (Left t)) → ((j % 2 ≡ 0 → ⊥) → P (Right t)) → P (side j t)
by_side P j t l r = cond_both (eqb (j % 2) 0) (Left t) (Right t) P (λ e. l (eqb-true (j % 2) 0 e)) (λ e. r (eqb-false (j % 2) 0 e))

pub label_is : (g k i j : ℕ) → is_label (label g k i j) ≡ true
unfolding label
label_is g zero i j = refl
label_is g (suc k) i j =
    let ih = label_is g k i (j / 2) in
    cond_both (eqb i j) _ _ (λ (x : Term). is_label x ≡ true) (λ e. refl)
    (λ e. by_side (λ (x : Term). is_label x ≡ true) j _ (λ e. cc) (λ e. cc))

label_root : (g k i j : ℕ) → root (label g k i j) ≡ i
unfolding label
label_root g zero i j = refl
label_root g (suc k) i j =
    let ih = label_root g k i (j / 2) in
    cond_both (eqb i j) _ _ (λ (x : Term). root x ≡ i) (λ e. refl)
    (λ e. by_side (λ (x : Term). root x ≡ i) j _ (λ e. omega arith) (λ e. omega arith))

label_tip : (g k i j d : ℕ) → d ≤ k → up d j ≡ i → tip (label g k i j) ≡ j
unfolding label up
label_tip g zero i j zero l p = sym p
label_tip g zero i j (suc d) l p = absurd (omega arith)
label_tip g (suc k) i j zero l p = cond_both (eqb i j) _ _ (λ (x : Term). tip x ≡ j) (λ e. sym p) (λ e. absurd (eqb-false i j e (sym p)))
label_tip g (suc k) i j (suc d) l p =
    let ih = label_tip g k i (j / 2) d (omega arith) p in
    cond_both (eqb i j) _ _ (λ (x : Term). tip x ≡ j) (λ e. eqb-true i j e)
    (λ e. by_side (λ (x : Term). tip x ≡ j) j _ (λ e. omega arith) (λ e. omega arith))

pub label_self : (g k i j : ℕ) → i ≡ j → label g k i j ≡ Start g i
unfolding label
label_self g zero i j e = refl
label_self g (suc k) i j e = cond-true (eqb i j) (Start g i) (side j (label g k i (j / 2))) (eq-eqb i j e)

-- with steps enough, how many does not matter
pub label_fuel : (g k l d i j : ℕ) → d ≤ k → d ≤ l → up d j ≡ i → label g k i j ≡ label g l i j
unfolding label up
label_fuel g k l zero i j a b p = label_self g k i j (sym p) ∙ sym (label_self g l i j (sym p))
label_fuel g (suc k) (suc l) (suc d) i j a b p =
    ap (λ (t : Term). cond (eqb i j) (Start g i) (side j t)) (label_fuel g k l d i (j / 2) (omega arith) (omega arith) p)
label_fuel g zero l (suc d) i j a b p = absurd (omega arith)
label_fuel g (suc k) zero (suc d) i j a b p = absurd (omega arith)

-- the last step to a label
pub label_step : (g k d i j : ℕ) → 1 ≤ i → d < k → up d (j / 2) ≡ i → label g k i j ≡ side j (label g k i (j / 2))
unfolding label
label_step g zero d i j pos l e = absurd (omega arith)
label_step g (suc k) d i j pos l e =
    cond-false (eqb i j) (Start g i) (side j (label g k i (j / 2))) (ne_eqb i j (λ same. omega (arith, up_le d (j / 2), e, same)))
    ∙ ap (side j) (label_fuel g k (suc k) d i (j / 2) (omega arith) (omega arith) e)

pub label_of_is : (g h : ℕ) (p : Part) → is_label (label_of g h p) ≡ true
label_of_is g h p = cond_both (eqb p.first 0) _ _ (λ (t : Term). is_label t ≡ true) (λ e. refl) (λ e. label_is g h _ _)

-- a part that can be: of all receivers, or of a node and one below it
abbrev pub Proper : ℕ → Part → Type 0
Proper h p = ((p.first ≡ 0) × (p.second ≡ 0)) ⊎ ((1 ≤ p.first) × (p.second < 2 ^ suc h) × Under p.first p.second)

pub proper_is : (h : ℕ) (p : Part) → T (proper h p) → Proper h p
proper_is h p t = ⊎_elim all some (or_cases (is_all p) (in_tree h p.first && in_tree h p.second && descends h p) (T_true (proper h p) t))
  where
    all : is_all p ≡ true → Proper h p
    all e = let w = and_parts (eqb p.first 0) (eqb p.second 0) e in inl (eqb-true p.first 0 w.0, eqb-true p.second 0 w.1)

    some : (in_tree h p.first && in_tree h p.second && descends h p) ≡ true → Proper h p
    some e =
        let w = and_parts (in_tree h p.first && in_tree h p.second) (descends h p) e in
        let v = and_parts (in_tree h p.first) (in_tree h p.second) w.0 in
        let a = and_parts (ltb 0 p.first) (ltb p.first (2 ^ suc h)) v.0 in
        let b = and_parts (ltb 0 p.second) (ltb p.second (2 ^ suc h)) v.1 in
        let c = and_parts (below h p.first p.second) (not (eqb p.first p.second)) w.1 in
        inr (ltb-true 0 p.first a.0, ltb-true p.second (2 ^ suc h) b.1, below_up h p.first p.second c.0)

-- the two nodes of a label that is not that for all
pub label_part : (g h i j : ℕ) → 1 ≤ i → j < 2 ^ suc h → Under i j → part_of (label g h i j) ≡ part i j
label_part g h i j pos lt (d, e) = ap₂ part (label_root g h i j) (label_tip g h i j d (up_far h d j lt (omega arith)) e)

-- a part's label is of its two nodes
pub label_of_part : (g h : ℕ) (p : Part) → Proper h p → part_of (label_of g h p) ≡ p
label_of_part g h p (inl (a, b)) =
    cond_both (eqb p.first 0) _ _ (λ (t : Term). part_of t ≡ p) (λ e. ap₂ part (sym a) (sym b)) (λ e. absurd (eqb-false p.first 0 e a))
label_of_part g h p (inr (pos, lt, u)) =
    cond_both (eqb p.first 0) _ _ (λ (t : Term). part_of t ≡ p) (λ e. absurd (omega (arith, eqb-true p.first 0 e)))
    (λ e. label_part g h p.first p.second pos lt u)

-- a label is under the same node as those that it is made from, of a node at or below theirs
pub made_under : (t : Term) → is_label t ≡ true → (l : Term) → l ∈ made t → (root l ≡ root t) × Under (tip l) (tip t)
unfolding made
made_under =
    by_label (λ (t : Term). (l : Term) → l ∈ made t → (root l ≡ root t) × Under (tip l) (tip t))
    (λ g i l m. ⊎_elim (itself l (Start g i)) (λ q. absurd (Memᴰ.not-nil q)) (Memᴰ.cases_cons m))
    (λ t f l m. ⊎_elim (itself l (Left t)) (λ q. let w = f l q in (w.0, trans (tip l) (tip t) (2 * tip t) w.1 (under_left (tip t))))
    (Memᴰ.cases_cons m))
    (λ t f l m. ⊎_elim (itself l (Right t)) (λ q. let w = f l q in (w.0, trans (tip l) (tip t) (2 * tip t + 1) w.1 (under_right (tip t))))
    (Memᴰ.cases_cons m))
  where
    itself : (l t : Term) → l ≡ t → (root l ≡ root t) × Under (tip l) (tip t)
    itself l t e = (ap root e, (0, up_zero (tip t) ∙ ap tip (sym e)))
