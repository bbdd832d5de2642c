-- Laws of the lowest fault. Assumes nothing.
use Rattle.std.proofs.Common.{◌≡◌, ℕ, leb, List, [], ◌∷◌, ◌++◌, Some, None, Ok, Err, Option, sym, refl, ap, ◌∙◌, subst, ⊎_elim, arith}
use mathlib.Core.List.Memᴰ
use mathlib.Core.List.{Memᴰ}
use Rattle.std.proofs.lemmas.Bool.{cond_both, leb-true, leb-false}
use Rattle.std.proofs.lemmas.Bool.Decides.{nat_tests}
use Rattle.fault.specs.declared.Fault.{Fault}
use Rattle.fault.specs.Numbers.{number_of}
use Rattle.fault.specs.Lowest.{lower, lowest, unless, judged, Least, LowestLeast}

-- one fault more, in front
least_cons : (f : Fault) (fs : List Fault) (o : Option Fault) → Least fs o → Least (f ∷ fs) (lower (Some f) o)
least_cons f fs None none =
    (Memᴰ.head refl, λ g m. ⊎_elim (λ e. rw e (omega arith)) (λ n. absurd (Memᴰ.not-nil (subst (Memᴰ g) none n))) (Memᴰ.cases_cons m))
least_cons f fs (Some g) (among, below) =
    cond_both (leb (number_of f) (number_of g)) (Some f) (Some g) (Least (f ∷ fs))
    (λ le. (
      Memᴰ.head refl,
      λ k m. ⊎_elim (λ e. rw e (omega arith)) (λ n. omega (arith, below k n, leb-true (number_of f) (number_of g) le)) (Memᴰ.cases_cons m),
    ))
    (λ gt. (
      Memᴰ.tail among,
      λ k m. ⊎_elim (λ e. rw e (omega (arith, leb-false (number_of f) (number_of g) gt))) (λ n. below k n) (Memᴰ.cases_cons m),
    ))

pub lowest_least : LowestLeast
lowest_least [] = refl
lowest_least (f ∷ fs) = least_cons f fs (lowest fs) (lowest_least fs)

-- Of three faults, the lowest is the same in whatever pairs they are compared.
pub lower_assoc : (a b c : Option Fault) → lower (lower a b) c ≡ lower a (lower b c)
lower_assoc None b c = refl
lower_assoc (Some f) None c = refl
lower_assoc (Some f) (Some g) None = cond_both (leb (number_of f) (number_of g)) (Some f) (Some g) (λ (o : Option Fault). lower o None ≡ o) (λ _. refl) (λ _. refl)
lower_assoc (Some f) (Some g) (Some k) = grind (arith, nat_tests)

pub lowest_append : (fs gs : List Fault) → lowest (fs ++ gs) ≡ lower (lowest fs) (lowest gs)
lowest_append [] gs = refl
lowest_append (f ∷ fs) gs = ap (lower (Some f)) (lowest_append fs gs) ∙ sym (lower_assoc (Some f) (lowest fs) (lowest gs))

-- some fault of several is the lowest
some_lowest : (f : Fault) (o : Option Fault) → (g : Fault) × (lower (Some f) o ≡ Some g)
some_lowest f None = (f, refl)
some_lowest f (Some g) =
    cond_both (leb (number_of f) (number_of g)) (Some f) (Some g) (λ (o : Option Fault). (k : Fault) × (o ≡ Some k)) (λ _. (f, refl)) (λ _. (g, refl))

-- what was read without a fault
pub judged_ok : {A : Type 0} (fs : List Fault) (v x : A) → Ok x ≡ judged fs v → (fs ≡ []) × (x ≡ v)
judged_ok [] v x e = (refl, cc)
judged_ok (f ∷ fs) v x e =
    let g = some_lowest f (lowest fs) in
    let e' : Ok x ≡ Err g.0 = e ∙ ap (λ (o : Option Fault). unless o v) g.1 in
    absurd (let z : ◌≡◌ {A = ℕ} 0 1 = cc in omega arith)

pub lowest_none : (fs : List Fault) → None ≡ lowest fs → fs ≡ []
lowest_none [] e = refl
lowest_none (f ∷ fs) e =
    let g = some_lowest f (lowest fs) in
    let e' : None ≡ Some g.0 = e ∙ g.1 in
    absurd (let z : ◌≡◌ {A = ℕ} 0 1 = cc in omega arith)

pub judged_err : {A : Type 0} (fs : List Fault) (v : A) (f : Fault) → Err f ≡ judged fs v → lowest fs ≡ Some f
judged_err fs v f e = go (lowest fs) e
  where
    go : (o : Option Fault) → Err f ≡ unless o v → o ≡ Some f
    go None q = absurd (let z : ◌≡◌ {A = ℕ} 0 1 = cc in omega arith)
    go (Some g) q = let r : f ≡ g = cc in rw r

-- two things are judged, one after the other
module _ {A : Type 0} (fs gs : List Fault) (v : A) where
  pub judged_first : (f r : Fault) → Err f ≡ judged fs v → Some r ≡ lower (Some f) (lowest gs) → Err r ≡ judged (fs ++ gs) v
  judged_first f r e q =
      let both : lowest (fs ++ gs) ≡ Some r = lowest_append fs gs ∙ ap (λ (o : Option Fault). lower o (lowest gs)) (judged_err fs v f e) ∙ sym q in
      sym (ap (λ (o : Option Fault). unless o v) both)

  pub judged_second : (x : A) (r : Fault) → Ok x ≡ judged fs v → Some r ≡ lowest gs → Err r ≡ judged (fs ++ gs) v
  judged_second x r e q = let none = (judged_ok fs v x e).0 in rw none (ap (λ (o : Option Fault). unless o v) q)
