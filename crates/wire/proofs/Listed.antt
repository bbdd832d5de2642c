-- The faults of a revocation list, as its reader comes to them. Assumes nothing.
use Rattle.std.proofs.Common.{◌≡◌, ℕ, ◌+◌, ◌*◌, ◌≤◌, Bool, true, false, cond, eqb, ltb, List, [], ◌∷◌, ◌++◌, length, get_or, Some, None, Ok, sym, refl, ap, arith}
use Rattle.std.proofs.lemmas.Bool.{ltb-false}
use Rattle.fault.specs.declared.Fault.{Fault}
use Rattle.fault.specs.declared.Fault.TheVariants.{TooManyRevoked}
use Rattle.fault.specs.Lowest.{when, lower, lowest, judged}
use Rattle.fault.proofs.Lowest.{lowest_append, lowest_none, judged_ok}
use Rattle.tree.specs.Receivers.{list_faults}
use Rattle.tree.proofs.Tests.{told}
use Rattle.wire.specs.Head.{head_faults}
use Rattle.wire.specs.Revocation.{max_revoked, named_faults, count_in, revoked_in, revocation_faults}

append_nil_left : {A : Type 0} (xs ys : List A) → xs ++ ys ≡ [] → xs ≡ []
append_nil_left [] ys e = refl
append_nil_left (x ∷ xs) ys e = absurd (let z : ◌≡◌ {A = ℕ} 0 1 = cc in omega arith)

append_nil_right : {A : Type 0} (xs ys : List A) → xs ++ ys ≡ [] → ys ≡ []
append_nil_right [] ys e = e
append_nil_right (x ∷ xs) ys e = absurd (let z : ◌≡◌ {A = ℕ} 0 1 = cc in omega arith)

pub when_none : (b : Bool) (f : Fault) → when b f ≡ [] → b ≡ false
when_none true f e = absurd (let z : ◌≡◌ {A = ℕ} 0 1 = cc in omega arith)
when_none false f e = refl

-- the lowest fault of a list, as the code comes to it
pub lowest_named : (h : ℕ) (rs : List ℕ) → lower (lowest (list_faults h rs)) (lowest (when (ltb max_revoked (length rs)) TooManyRevoked)) ≡ lowest (named_faults h rs)
lowest_named h rs = sym (lowest_append (list_faults h rs) (when (ltb max_revoked (length rs)) TooManyRevoked))

pub named_sound : (h : ℕ) (rs : List ℕ) → None ≡ lowest (named_faults h rs) → None ≡ lowest (list_faults h rs)
named_sound h rs none =
    ap lowest (sym (append_nil_left (list_faults h rs) (when (ltb max_revoked (length rs)) TooManyRevoked) (lowest_none (named_faults h rs) none)))

pub named_few : (h : ℕ) (rs : List ℕ) → None ≡ lowest (named_faults h rs) → length rs ≤ max_revoked
named_few h rs none =
    ltb-false max_revoked (length rs)
    (when_none (ltb max_revoked (length rs)) TooManyRevoked
    (append_nil_right (list_faults h rs) (when (ltb max_revoked (length rs)) TooManyRevoked) (lowest_none (named_faults h rs) none)))

-- a file whose head and length are right
module _ (s : List ℕ) (h n : ℕ) (head : Ok h ≡ judged (head_faults 1 s) (get_or s 1 0))
    (count : Some n ≡ cond (eqb (length s) (6 + 4 * count_in s)) (Some (count_in s)) None) where
  pub height_is : h ≡ get_or s 1 0
  height_is = (judged_ok (head_faults 1 s) (get_or s 1 0) h head).1

  pub count_is : n ≡ count_in s
  count_is = (told (eqb (length s) (6 + 4 * count_in s)) n (count_in s) count).1

  pub faults_are : revocation_faults s ≡ named_faults h (revoked_in s)
  faults_are =
      let e = (judged_ok (head_faults 1 s) (get_or s 1 0) h head).0 in
      let c = (told (eqb (length s) (6 + 4 * count_in s)) n (count_in s) count).0 in
      rw (e, c, height_is)
