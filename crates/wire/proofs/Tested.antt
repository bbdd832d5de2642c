-- Tests of all items of an iterator, and of two iterators item by item. Assumes nothing.
use Rattle.std.proofs.Common.{◌≡◌, ℕ, ◌<◌, Bool, true, false, not, ◌&&◌, List, [], ◌∷◌, length, Some, None, Option, is_some, sym, refl, ◌∙◌, arith}
use Rattle.std.specs.Bool.{◌==◌}
use Rattle.std.specs.Bool.{MatchBool}
use Rattle.std.specs.List.{AllWithin, HoldsAt}
use Rattle.std.specs.Iterator.{YieldsFirst, ChecksAll}
use denote.Param.Members.{Mut, Called}
use Rattle.std.proofs.lemmas.Bool.{both_ways}
use Rattle.std.proofs.lemmas.List.Recursion.{and_is}
use Rattle.std.proofs.lemmas.Iterator.{cases_from_all}
use Rattle.std.proofs.lemmas.Iterator.Consumers.{YieldsList-from_first}
use Rattle.tree.specs.declared.parts.Part.{Part}
use Rattle.wire.specs.Labels.{same_places}

-- q is passed by a list if p is by each item
module _ {A : Type 0} (p : A → Bool) (q : List A → Bool) (none : q [] ≡ true) (more : (x : A) (xs : List A) → q (x ∷ xs) ≡ (p x && q xs)) (d : A) where
  pub by_items : (r : Bool) (xs : List A) → MatchBool r (AllWithin (λ x. p x ≡ true) xs 0 (length xs)) ((k : ℕ) × (k < length xs) × HoldsAt (λ x. p x ≡ false) xs k) → r ≡ q xs
  by_items true xs m = and_is q p none more xs d true (λ e i l. m i d (omega arith) l) (λ e. absurd (both_ways true e refl))
  by_items false xs (k, l, h) = and_is q p none more xs d false (λ e i l. absurd (both_ways false refl e)) (λ e. (k, l, h d))

  -- r is what `all` answered, by calls that answer as p does
  pub all_tested : {S F : Type 0} (rest : S → List A) {g : Mut F (A × Unit {0}) Bool} (s u : S) (f : F) (r : Bool) → ChecksAll (YieldsFirst rest) g s f r u →
      ((x : A) (h : F) → Called g f (x, tt) true h → (h ≡ f) × (p x ≡ true)) → ((x : A) (h : F) → Called g f (x, tt) false h → p x ≡ false) → r ≡ q (rest s)
  all_tested rest s u f r ran pass fail =
      by_items r (rest s) (cases_from_all u f r (λ x. p x ≡ true) (λ x. p x ≡ false) ran (YieldsList-from_first (λ x. x) rest (rest s) refl) pass fail)

abbrev Same : Part → Part → Bool
Same a b = a.first == b.first && a.second == b.second

-- what is left of places is held against what is left of others
module _ {ps qs : List Part} where
  pub others_ended : {p : Part} {us : List Part} → ps ≡ p ∷ us → qs ≡ [] → same_places ps qs ≡ false
  unfolding same_places
  others_ended e f = rw (e, f) refl

  pub one_differs : {p q : Part} {us vs : List Part} → ps ≡ p ∷ us → qs ≡ q ∷ vs → Same p q ≡ false → same_places ps qs ≡ false
  unfolding same_places
  one_differs e f d = rw (e, f, d) refl

  pub one_same : {p q : Part} {us vs : List Part} → ps ≡ p ∷ us → qs ≡ q ∷ vs → Same p q ≡ true → same_places ps qs ≡ same_places us vs
  unfolding same_places
  one_same e f d = rw (e, f, d) refl

-- behind the last place, others are left just if one more is given
pub ended : {T : Type 0} (left : T → List Part) {ps : List Part} (s u : T) (o : Option Part) (r : Bool) →
    ps ≡ [] → YieldsFirst left s o u → is_some o ≡ not r → r ≡ same_places ps (left s)
unfolding same_places
ended left s u None r e y n = rw (e, y.0) (grind arith)
ended left s u (Some x) r e y n = rw (e, y) (grind arith)
