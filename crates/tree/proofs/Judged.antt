-- A list of receivers is judged by two flags, from its front to its end. Assumes nothing.
use Rattle.std.proofs.Common.{◌≡◌, ℕ, suc, ◌+◌, ◌-◌, ◌^◌, ◌<◌, ◌≤◌, Bool, true, false, not, ◌||◌, T, eqb, ltb, leb, ◌⊎◌, List, [], ◌∷◌, ◌++◌, length, get_or, drop, None, sym, refl, inl, inr, add-one, arith, pow_mono}
use Rattle.std.proofs.lemmas.Float.{T_from_true}
use Rattle.std.proofs.lemmas.List.{at_drop_more, at_drop_all}
use Rattle.std.proofs.lemmas.Bool.{and_from, and_parts, lt-ltb, le-leb, leb-true, ltb-true, both_ways, or_cases, eqb-true}
use Rattle.std.proofs.lemmas.Bool.Decides.{nat_tests}
use Rattle.fault.specs.declared.Fault.TheVariants.{OutOfRange, NotRising}
use Rattle.fault.specs.Lowest.{when, lower, lowest}
use Rattle.fault.proofs.Lowest.{lowest_append}
use Rattle.tree.specs.Nodes.{max_height}
use Rattle.tree.specs.Receivers.{is_in, all_below, rising_from, rising, is_height, list_faults}
use Rattle.tree.proofs.Tests.{T_both, T_true}

ltb_not : (a b : ℕ) → ltb a b ≡ not (leb b a)
ltb_not a b = grind (arith, nat_tests)

leb_not : (a b : ℕ) → leb a b ≡ not (ltb b a)
leb_not a b = grind (arith, nat_tests)

-- a flag is set already, or by the receiver at hand, or by one still to come
module _ (xs : List ℕ) (i : ℕ) (flag : Bool) where
  pub below_more : (n : ℕ) → i < length xs → ((flag || leb n (get_or xs i 0)) || not (all_below n (drop (i + 1) xs))) ≡ (flag || not (all_below n (drop i xs)))
  unfolding all_below
  below_more n l =
      let e = at_drop_more (all_below n) xs i 0 l in
      rw (e, ltb_not (get_or xs i 0) n) (grind arith)

  pub rising_more : (least : ℕ) → i < length xs →
      ((flag || ltb (get_or xs i 0) least) || not (rising_from (get_or xs i 0 + 1) (drop (i + 1) xs))) ≡ (flag || not (rising_from least (drop i xs)))
  unfolding rising_from
  rising_more least l =
      let e = at_drop_more (rising_from least) xs i 0 l in
      rw (e, leb_not least (get_or xs i 0), add-one (get_or xs i 0)) (grind arith)

-- at the end of the list the flags say it all
pub judged_all : (h : ℕ) (xs : List ℕ) (i least : ℕ) (outside unordered : Bool) → 0 < h → h ≤ max_height → length xs ≤ i →
    (outside || not (all_below (2 ^ h) (drop i xs))) ≡ not (all_below (2 ^ h) xs) → (unordered || not (rising_from least (drop i xs))) ≡ not (rising xs) →
    lower (lowest (when outside OutOfRange)) (lowest (when unordered NotRising)) ≡ lowest (list_faults h xs)
unfolding all_below rising_from
judged_all h xs i least outside unordered pos high l below rise =
    let height = and_from (ltb 0 h) (leb h max_height) (lt-ltb 0 h pos) (le-leb h max_height high) in
    let d = at_drop_all (all_below (2 ^ h)) xs i l in
    let e = at_drop_all (rising_from least) xs i l in
    let o : not (all_below (2 ^ h) xs) ≡ outside = grind arith in
    let u : not (rising xs) ≡ unordered = grind arith in
    rw (height, o, u) (sym (lowest_append (when outside OutOfRange) (when unordered NotRising)))

faulty : (c : Bool) → None ≡ lowest (OutOfRange ∷ when c NotRising) → ⊥
faulty true e = let z : ◌≡◌ {A = ℕ} 0 1 = cc in omega arith
faulty false e = let z : ◌≡◌ {A = ℕ} 0 1 = cc in omega arith

-- where there is no fault, the list is sound
no_faults : (a b c : Bool) → None ≡ lowest (when (not a || not b) OutOfRange ++ when (not c) NotRising) → (a ≡ true) × (b ≡ true) × (c ≡ true)
no_faults true true true e = (refl, refl, refl)
no_faults true true false e = absurd (let z : ◌≡◌ {A = ℕ} 0 1 = cc in omega arith)
no_faults true false c e = absurd (faulty (not c) e)
no_faults false b c e = absurd (faulty (not c) e)

pub sound_height : (h : ℕ) (xs : List ℕ) → None ≡ lowest (list_faults h xs) → is_height h ≡ true
sound_height h xs e = (no_faults (is_height h) (all_below (2 ^ h) xs) (rising xs) e).0

pub sound : (h : ℕ) (xs : List ℕ) → None ≡ lowest (list_faults h xs) → (h ≤ max_height) × T (all_below (2 ^ h) xs) × T (rising xs)
sound h xs e =
    let s = no_faults (is_height h) (all_below (2 ^ h) xs) (rising xs) e in
    (leb-true h max_height (and_parts (ltb 0 h) (leb h max_height) (sound_height h xs e)).1, T_from_true (all_below (2 ^ h) xs) s.1, T_from_true (rising xs) s.2)

-- rising receivers are no more than there are
pub rising_short : (least n : ℕ) (xs : List ℕ) → T (rising_from least xs) → T (all_below n xs) → length xs ≤ n - least
unfolding rising_from all_below
rising_short least n [] r b = omega arith
rising_short least n (x ∷ xs) r b =
    let p = T_both (leb least x) (rising_from (suc x) xs) r in
    let q = T_both (ltb x n) (all_below n xs) b in
    omega (arith, rising_short (suc x) n xs p.1 q.1, leb-true least x (T_true (leb least x) p.0), ltb-true x n (T_true (ltb x n) q.0))

pub few_receivers : (h : ℕ) (xs : List ℕ) → None ≡ lowest (list_faults h xs) → length xs ≤ 2 ^ max_height
few_receivers h xs e =
    let s = sound h xs e in
    omega (arith, rising_short 0 (2 ^ h) xs s.2 s.1, pow_mono {i = h} {j = max_height} s.0)

-- a receiver of the list is below what all are below
pub below_in : (n : ℕ) (us : List ℕ) (u : ℕ) → T (all_below n us) → is_in u us ≡ true → ltb u n ≡ true
unfolding is_in all_below
below_in n [] u b m = absurd (both_ways false refl m)
below_in n (v ∷ us) u b m = go (T_both (ltb v n) (all_below n us) b) (or_cases (eqb u v) (is_in u us) m) (λ c p. below_in n us u c p)
  where
    go : T (ltb v n) × T (all_below n us) → (eqb u v ≡ true) ⊎ (is_in u us ≡ true) → (T (all_below n us) → is_in u us ≡ true → ltb u n ≡ true) → ltb u n ≡ true
    go (a, c) (inl q) f = rw (eqb-true u v q) (T_true (ltb v n) a)
    go (a, c) (inr p) f = f c p
