-- What a term is made from. Assumes nothing.
use Rattle.std.proofs.Common.{◌≡◌, ℕ, true, false, List, refl, ap, ◌∙◌, subst, ⊎_elim}
use mathlib.Core.List.Memᴰ
use mathlib.Core.List.Memᴰ.{head as here}
use mathlib.Core.List.Memᴰ.{tail as there}
use Rattle.std.specs.List.{flat_map}
use Rattle.std.proofs.lemmas.Bool.{both_ways}
use Rattle.secrecy.specs.Lists.{◌∈◌}
use Rattle.secrecy.specs.Terms.{Term, Start, Left, Right, Middle, Pad, Check, Session, Noise, Xor, is_label, made}
use Rattle.secrecy.proofs.Lists.{in_joined, joined_in}

pub made_self : (t : Term) → t ∈ made t
unfolding made
made_self (Start g i) = here refl
made_self (Left t) = here refl
made_self (Right t) = here refl
made_self (Middle t) = here refl
made_self (Pad k n) = here refl
made_self (Check k n) = here refl
made_self (Session s) = here refl
made_self (Noise n i) = here refl
made_self (Xor a b) = here refl

-- what a part of a term is made from, the term is made from
made_trans : (t u v : Term) → u ∈ made t → v ∈ made u → v ∈ made t
unfolding made
made_trans t u v m n = go t m
  where
    first : (t : Term) → u ≡ t → v ∈ made t
    first t e = subst (λ (x : Term). v ∈ made x) e n

    go : (t : Term) → u ∈ made t → v ∈ made t
    go (Start g i) m = ⊎_elim (first (Start g i)) (λ q. absurd (Memᴰ.not-nil q)) (Memᴰ.cases_cons m)
    go (Left t) m = ⊎_elim (first (Left t)) (λ q. there (go t q)) (Memᴰ.cases_cons m)
    go (Right t) m = ⊎_elim (first (Right t)) (λ q. there (go t q)) (Memᴰ.cases_cons m)
    go (Middle t) m = ⊎_elim (first (Middle t)) (λ q. there (go t q)) (Memᴰ.cases_cons m)
    go (Pad k n) m = ⊎_elim (first (Pad k n)) (λ q. there (go k q)) (Memᴰ.cases_cons m)
    go (Check k n) m = ⊎_elim (first (Check k n)) (λ q. there (go k q)) (Memᴰ.cases_cons m)
    go (Session s) m = ⊎_elim (first (Session s)) (λ q. absurd (Memᴰ.not-nil q)) (Memᴰ.cases_cons m)
    go (Noise n i) m = ⊎_elim (first (Noise n i)) (λ q. absurd (Memᴰ.not-nil q)) (Memᴰ.cases_cons m)
    go (Xor a b) m =
        ⊎_elim (first (Xor a b))
        (λ q. there
        (⊎_elim (λ r. Memᴰ.append_left (made b) (go a r)) (λ r. Memᴰ.append_right (made a) (go b r)) (Memᴰ.append_cases (made a) q)))
        (Memᴰ.cases_cons m)

-- what the terms of a list are made from is closed under that
pub all_made : (ts : List Term) (u v : Term) → u ∈ flat_map made ts → v ∈ made u → v ∈ flat_map made ts
all_made ts u v m n = let w = in_joined made ts u m in joined_in made ts w.0 v w.1 (made_trans w.0 u v w.2 n)

-- A label, with what it is made from.
module _ (P : Term → Type 0) (start : (g i : ℕ) → P (Start g i)) (left : (t : Term) → P t → P (Left t))
    (right : (t : Term) → P t → P (Right t)) where
  -- what holds of starts, and goes on to the left and to the right, holds of labels
  pub by_label : (t : Term) → is_label t ≡ true → P t
  by_label (Start g i) e = start g i
  by_label (Left t) e = left t (by_label t e)
  by_label (Right t) e = right t (by_label t e)
  by_label (Middle t) e = absurd (both_ways false refl e)
  by_label (Pad k n) e = absurd (both_ways false refl e)
  by_label (Check k n) e = absurd (both_ways false refl e)
  by_label (Session s) e = absurd (both_ways false refl e)
  by_label (Noise n i) e = absurd (both_ways false refl e)
  by_label (Xor a b) e = absurd (both_ways false refl e)

-- from one that it is made from, a label is had by steps left and right
pub gives : (Has : Term → Type 0) → ((t : Term) → Has t → Has (Left t)) → ((t : Term) → Has t → Has (Right t)) →
    (t : Term) → is_label t ≡ true → (l : Term) → l ∈ made t → Has l → Has t
unfolding made
gives Has left right =
    by_label (λ (t : Term). (l : Term) → l ∈ made t → Has l → Has t)
    (λ g i l m x. ⊎_elim (λ e. subst Has e x) (λ q. absurd (Memᴰ.not-nil q)) (Memᴰ.cases_cons m))
    (λ t f l m x. ⊎_elim (λ e. subst Has e x) (λ q. left t (f l q x)) (Memᴰ.cases_cons m))
    (λ t f l m x. ⊎_elim (λ e. subst Has e x) (λ q. right t (f l q x)) (Memᴰ.cases_cons m))

-- what a label is made from are labels
pub label_made : (t : Term) → is_label t ≡ true → (u : Term) → u ∈ made t → is_label u ≡ true
unfolding made
label_made t e = by_label (λ (t : Term). is_label t ≡ true → (u : Term) → u ∈ made t → is_label u ≡ true)
    (λ g i e u m. ⊎_elim (λ q. ap is_label q) (λ q. absurd (Memᴰ.not-nil q)) (Memᴰ.cases_cons m))
    (λ t f e u m. ⊎_elim (λ q. ap is_label q ∙ e) (f e u) (Memᴰ.cases_cons m))
    (λ t f e u m. ⊎_elim (λ q. ap is_label q ∙ e) (f e u) (Memᴰ.cases_cons m)) t e e
