-- Lists: tests over them with what they decide, what is in a joined list, and lists whose numbers all differ. Assumes nothing.
use Rattle.std.proofs.Common.{◌≡◌, ℕ, ◌<◌, Bool, true, false, not, ◌||◌, T, eqb, ltb, ◌⊎◌, List, [], ◌∷◌, map, Decides, sym, refl, ap, ◌∙◌, subst, inl, inr, ⊎_elim, ltb→lt, T_not}
use Rattle.std.proofs.lemmas.Float.{T_from_true}
use mathlib.Core.List.Memᴰ
use mathlib.Core.List.Memᴰ.{head as here}
use mathlib.Core.List.Memᴰ.{tail as there}
use Rattle.std.specs.List.{flat_map, AllByRecursion as All}
use Rattle.std.proofs.lemmas.Bool.{both_ways, eq-eqb, or_cases, or_left, or_right}
use Rattle.std.proofs.lemmas.Bool.Decides.{Decides-like}
use Rattle.tree.specs.Receivers.{is_in, all_below}
use Rattle.tree.proofs.Tests.{T_both}
use Rattle.secrecy.specs.Lists.{◌∈◌, different}

unfoldable pub any : {A : Type 0} → (A → Bool) → List A → Bool
any f [] = false
any f (x ∷ xs) = f x || any f xs

pub any_decides : {A : Type 0} (f : A → Bool) (P : A → Type 0) → ((x : A) → Decides (f x) (P x)) → (xs : List A) →
    Decides (any f xs) ((x : A) × (x ∈ xs) × P x)
unfolding any
any_decides f P d [] = ((λ e. absurd (both_ways false refl e)), λ w. absurd (Memᴰ.not-nil w.1))
any_decides {A} f P d (x ∷ xs) = (some (any_decides f P d xs), from (any_decides f P d xs))
  where
    some : Decides (any f xs) ((y : A) × (y ∈ xs) × P y) → (f x || any f xs) ≡ true → (y : A) × (y ∈ x ∷ xs) × P y
    some r e =
        ⊎_elim (λ q. (x, here refl, (d x).0 q)) (λ q. let w = r.0 q in (w.0, there w.1, w.2)) (or_cases (f x) (any f xs) e)

    from : Decides (any f xs) ((y : A) × (y ∈ xs) × P y) → (y : A) × (y ∈ x ∷ xs) × P y → (f x || any f xs) ≡ true
    from r (y, m, p) =
        ⊎_elim (λ q. or_left (f x) (any f xs) ((d x).1 (subst P q p))) (λ q. or_right (f x) (any f xs) (r.1 (y, q, p))) (Memᴰ.cases_cons m)

-- what holds of each holds of one
pub by_all : {A : Type 0} (P : A → Type 0) (xs : List A) → All P xs → (a : A) → a ∈ xs → P a
by_all P [] f a m = absurd (Memᴰ.not-nil m)
by_all P (x ∷ xs) f a m = ⊎_elim (λ e. subst P (sym e) f.0) (by_all P xs f.1 a) (Memᴰ.cases_cons m)

-- a decision as a test
abbrev pub is : {A : Type 0} → Dec A → Bool
is (yes a) = true
is (no f) = false

pub is_decides : {A : Type 0} (d : Dec A) → Decides (is d) A
is_decides (yes a) = ((λ e. a), λ x. refl)
is_decides (no f) = ((λ e. absurd (both_ways false refl e)), λ x. absurd (f x))

-- whether t is in a list
abbrev pub listed : {A : Type 0} → Discrete A → A → List A → Bool
listed same t us = any (λ u. is (same t u)) us

pub listed_decides : {A : Type 0} (same : Discrete A) (t : A) (us : List A) → Decides (listed same t us) (t ∈ us)
listed_decides same t us =
    Decides-like (listed same t us) (λ w. Memᴰ.cast w.2 w.1) (λ m. (t, m, refl))
    (any_decides (λ u. is (same t u)) (λ u. t ≡ u) (λ u. is_decides (same t u)) us)

pub in_joined : {X A : Type 0} (f : X → List A) (xs : List X) (a : A) → a ∈ flat_map f xs → (x : X) × (x ∈ xs) × (a ∈ f x)
in_joined f [] a m = absurd (Memᴰ.not-nil m)
in_joined f (x ∷ xs) a m =
    ⊎_elim (λ q. (x, here refl, q)) (λ q. let w = in_joined f xs a q in (w.0, there w.1, w.2)) (Memᴰ.append_cases (f x) m)

pub joined_in : {X A : Type 0} (f : X → List A) (xs : List X) (x : X) (a : A) → x ∈ xs → a ∈ f x → a ∈ flat_map f xs
joined_in f [] x a m k = absurd (Memᴰ.not-nil m)
joined_in f (y ∷ xs) x a m k =
    ⊎_elim (λ e. Memᴰ.append_left (flat_map f xs) (subst (λ z. a ∈ f z) e k)) (λ e. Memᴰ.append_right (f y) (joined_in f xs x a e k))
    (Memᴰ.cases_cons m)

pub all_lt : (n : ℕ) (xs : List ℕ) → T (all_below n xs) → (u : ℕ) → u ∈ xs → u < n
unfolding all_below
all_lt n [] t u m = absurd (Memᴰ.not-nil m)
all_lt n (x ∷ xs) t u m =
    let w = T_both (ltb x n) (all_below n xs) t in
    ⊎_elim (λ e. subst (λ (z : ℕ). z < n) (sym e) (ltb→lt x n w.0)) (all_lt n xs w.1 u) (Memᴰ.cases_cons m)

is_in_lem : (xs : List ℕ) (u : ℕ) → u ∈ xs → is_in u xs ≡ true
unfolding is_in
is_in_lem [] u m = absurd (Memᴰ.not-nil m)
is_in_lem (x ∷ xs) u m =
    ⊎_elim (λ e. or_left (eqb u x) (is_in u xs) (eq-eqb u x e)) (λ e. or_right (eqb u x) (is_in u xs) (is_in_lem xs u e)) (Memᴰ.cases_cons m)

-- where no value stands twice, an element is known by it
pub by_value : {A : Type 0} (f : A → ℕ) (xs : List A) → T (different (map f xs)) → (a b : A) → a ∈ xs → b ∈ xs → f a ≡ f b → a ≡ b
unfolding different
by_value f [] d a b m n e = absurd (Memᴰ.not-nil m)
by_value {A} f (x ∷ xs) d a b m n e = go (λ p q. by_value f xs both.1 a b p q e) (Memᴰ.cases_cons m) (Memᴰ.cases_cons n)
  where
    both : T (not (is_in (f x) (map f xs))) × T (different (map f xs))
    both = T_both (not (is_in (f x) (map f xs))) (different (map f xs)) d

    fresh : (c : A) → c ∈ xs → f x ≡ f c → ⊥
    fresh c q r =
        T_not (is_in (f x) (map f xs)) both.0
        (T_from_true (is_in (f x) (map f xs)) (ap (λ (n : ℕ). is_in n (map f xs)) r ∙ is_in_lem (map f xs) (f c) (Memᴰ.map f q)))

    go : (a ∈ xs → b ∈ xs → a ≡ b) → (a ≡ x) ⊎ (a ∈ xs) → (b ≡ x) ⊎ (b ∈ xs) → a ≡ b
    go f' (inl p) (inl q) = p ∙ sym q
    go f' (inl p) (inr q) = absurd (fresh b q (ap f (sym p) ∙ e))
    go f' (inr p) (inl q) = absurd (fresh a p (ap f (sym q) ∙ sym e))
    go f' (inr p) (inr q) = f' p q

pub in_map : {A B : Type 0} (f : A → B) (xs : List A) (b : B) → b ∈ map f xs → (a : A) × (a ∈ xs) × (b ≡ f a)
in_map f [] b m = absurd (Memᴰ.not-nil m)
in_map f (x ∷ xs) b m = ⊎_elim (λ e. (x, here refl, e)) (λ n. let w = in_map f xs b n in (w.0, there w.1, w.2)) (Memᴰ.cases_cons m)
