-- There is room for fresh values, so that nothing computed is the hidden key. Assumes nothing.
use Rattle.std.proofs.Common.{◌≡◌, ℕ, zero, suc, ◌+◌, ◌/◌, ◌%◌, ◌^◌, ◌<◌, ◌≤◌, Bool, true, false, cond, ltb, ◌⊎◌, List, [], ◌∷◌, ◌++◌, map, length, Decides, sym, refl, ap, ◌∙◌, subst, ap₂, inl, inr, ⊎_elim, pow-suc, arith, lt→ltb, length-append}
use mathlib.Core.List.Memᴰ
use mathlib.Core.List.Memᴰ.{head as here}
use mathlib.Core.List.Memᴰ.{tail as there}
use mathlib.Core.List.{List-discrete}
use native.Mathlib.Decide.{ℕ_discrete}
use lib.ListN.{length-map}
use Rattle.std.specs.List.{flat_map}
use Rattle.std.proofs.lemmas.Bool.{both_ways, cases_Bool, cond_both}
use Rattle.tree.specs.Receivers.{all_below}
use Rattle.secrecy.specs.Lists.{◌∈◌}
use Rattle.secrecy.specs.Terms.{Term, Term-discrete, Session, show_key, made}
use Rattle.secrecy.specs.Air.{view}
use Rattle.secrecy.specs.Worlds.{Bytes, World, bytes, Point, secrets, in_use}
use Rattle.secrecy.specs.Blind.{answers, asks, Other, Misses, Unfound}
use Rattle.secrecy.proofs.Lists.{is, is_decides, listed, listed_decides}
use Rattle.secrecy.proofs.Bytes.{T_and}
use Rattle.secrecy.proofs.Blind.{blind}

-- a number as d bytes
code : ℕ → ℕ → List ℕ
code zero k = []
code (suc d) k = (k % 256) ∷ code d (k / 256)

code_sized : (d k : ℕ) → Bytes d (code d k)
unfolding code all_below
code_sized zero k = (refl, tt)
code_sized (suc d) k =
    let r = code_sized d (k / 256) in
    (ap suc r.0, T_and (ltb (k % 256) 256) (all_below 256 (code d (k / 256))) (lt→ltb (k % 256) 256 (omega arith)) r.1)

code_apart : (d j k : ℕ) → j < 256 ^ d → k < 256 ^ d → code d j ≡ code d k → j ≡ k
unfolding code
code_apart zero j k p q e = omega arith
code_apart (suc d) j k p q e =
    let rest : code d (j / 256) ≡ code d (k / 256) = cc in
    let first : j % 256 ≡ k % 256 = cc in
    omega (arith, code_apart d (j / 256) (k / 256) (omega (arith, pow-suc 256 d)) (omega (arith, pow-suc 256 d)) rest)

-- a list without one of its elements
without : {A : Type 0} (x : A) (ys : List A) → x ∈ ys → (zs : List A) × (suc (length zs) ≡ length ys) × ((y : A) → (y ≡ x → ⊥) → y ∈ ys → y ∈ zs)
without x [] m = absurd (Memᴰ.not-nil m)
without x (y ∷ ys) m =
    ⊎_elim (λ e. (ys, refl, λ z ne q. ⊎_elim (λ r. absurd (ne (r ∙ sym e))) (λ r. r) (Memᴰ.cases_cons q)))
    (λ q. let w = without x ys q in (y ∷ w.0, ap suc w.1, λ z ne r. ⊎_elim (λ s. here s) (λ s. there (w.2 z ne s)) (Memᴰ.cases_cons r)))
    (Memᴰ.cases_cons m)

-- whether x is among ys
abbrev among : List ℕ → List (List ℕ) → Bool
among x ys = listed (List-discrete ℕ_discrete) x ys

among_decides : (x : List ℕ) (ys : List (List ℕ)) → Decides (among x ys) (x ∈ ys)
among_decides x ys = listed_decides (List-discrete ℕ_discrete) x ys

-- of n + 1 values one is not among n
spare : (n : ℕ) (ys : List (List ℕ)) → length ys ≤ n → n < 256 ^ 32 → (k : ℕ) × (k ≤ n) × (code 32 k ∈ ys → ⊥)
spare zero [] l p = (0, omega arith, λ m. Memᴰ.not-nil m)
spare zero (y ∷ ys) l p = absurd (omega arith)
spare (suc n) ys l p = go (spare n) (cases_Bool (among last ys))
  where
    last : List ℕ
    last = code 32 (suc n)

    go : ((zs : List (List ℕ)) → length zs ≤ n → n < 256 ^ 32 → (k : ℕ) × (k ≤ n) × (code 32 k ∈ zs → ⊥)) →
        (among last ys ≡ true) ⊎ (among last ys ≡ false) → (k : ℕ) × (k ≤ suc n) × (code 32 k ∈ ys → ⊥)
    go f (inl e) =
        let w = without last ys ((among_decides last ys).0 e) in
        let v = f w.0 (omega (arith, w.1)) (omega arith) in
        let k = v.0 in
        let other : code 32 k ≡ last → ⊥ = λ q. omega (arith, v.1, code_apart 32 k (suc n) (omega (arith, v.1)) p q) in
        (k, omega (arith, v.1), λ m. v.2 (w.2 (code 32 k) other m))
    go f (inr e) = (suc n, omega arith, λ m. both_ways (among last ys) e ((among_decides last ys).1 m))

-- values for some terms, pairwise different and none of some
abbrev Spared : List Term → List (List ℕ) → Type 0
Spared ts ys =
    (value : Term → List ℕ) × ((t : Term) → Bytes 32 (value t)) × ((t u : Term) → t ∈ ts → u ∈ ts → value t ≡ value u → t ≡ u) ×
    ((t : Term) → t ∈ ts → value t ∈ ys → ⊥)

spares : (ts : List Term) (ys : List (List ℕ)) → length ts + length ys < 256 ^ 32 → Spared ts ys
spares [] ys l = ((λ t. code 32 0), (λ t. code_sized 32 0), (λ t u m. absurd (Memᴰ.not-nil m)), (λ t m. absurd (Memᴰ.not-nil m)))
spares (a ∷ ts) ys l =
    let x = spare (length ys) ys (omega arith) (omega arith) in
    go (code 32 x.0) (code_sized 32 x.0) x.2 (spares ts (code 32 x.0 ∷ ys) (omega arith))
  where
    same : (t : Term) → Dec (t ≡ a)
    same t = Term-discrete ℕ_discrete t a

    below : (t : Term) → t ∈ a ∷ ts → is (same t) ≡ false → t ∈ ts
    below t m e = ⊎_elim (λ q. absurd (both_ways (is (same t)) e ((is_decides (same t)).1 q))) (λ q. q) (Memᴰ.cases_cons m)

    go : (x : List ℕ) → Bytes 32 x → (x ∈ ys → ⊥) → Spared ts (x ∷ ys) → Spared (a ∷ ts) ys
    go x b off (value, sized, apart, clear) = (
      (λ t. cond (is (same t)) x (value t)),
      (λ t. cond_both (is (same t)) x (value t) (Bytes 32) (λ e. b) (λ e. sized t)),
      differ,
      λ t m. cond_both (is (same t)) x (value t) (λ (z : List ℕ). z ∈ ys → ⊥) (λ e. off) (λ e n. clear t (below t m e) (there n)),
    )
      where
        differ : (t u : Term) → t ∈ a ∷ ts → u ∈ a ∷ ts → cond (is (same t)) x (value t) ≡ cond (is (same u)) x (value u) → t ≡ u
        differ t u m n =
            cond_both (is (same t)) x (value t) (λ (z : List ℕ). z ≡ cond (is (same u)) x (value u) → t ≡ u)
            (λ e. cond_both (is (same u)) x (value u) (λ (z : List ℕ). x ≡ z → t ≡ u)
            (λ f q. (is_decides (same t)).0 e ∙ sym ((is_decides (same u)).0 f))
            (λ f q. absurd (clear u (below u n f) (here (sym q)))))
            (λ e. cond_both (is (same u)) x (value u) (λ (z : List ℕ). value t ≡ z → t ≡ u) (λ f q. absurd (clear t (below t m e) (here q)))
            (λ f q. apart t u (below t m e) (below u n f) q))

pub unfound : Unfound
unfolding made bytes
unfound h log once own labels s none w real run l = misses (spares (secrets h s log) avoid (omega (arith, count)))
  where
    have : List Term
    have = view own h log

    qs : List Point
    qs = asks w have run

    avoid : List (List ℕ)
    avoid = answers w have run ∷ (map (bytes w) (in_use own h s log) ++ map (λ (q : Point). q.at) qs)

    count : length avoid ≡ suc (length (in_use own h s log) + length qs)
    count =
        ap suc (length-append (map (bytes w) (in_use own h s log)) (map (λ (q : Point). q.at) qs)
        ∙ ap₂ ◌+◌ (length-map (in_use own h s log) (bytes w)) (length-map qs (λ (q : Point). q.at)))

    session_in : Session s ∈ secrets h s log
    session_in = there (here refl)

    used : (u : Term) → u ∈ in_use own h s log → bytes w u ∈ avoid
    used u m = there (Memᴰ.append_left (map (λ (q : Point). q.at) qs) (Memᴰ.map (bytes w) m))

    was_asked : (q : Point) → q ∈ qs → q.at ∈ avoid
    was_asked q m = there (Memᴰ.append_right (map (bytes w) (in_use own h s log)) (Memᴰ.map (λ (q : Point). q.at) m))

    old_session : w.session s ∈ avoid
    old_session = used (Session s) (Memᴰ.append_left (flat_map made have) session_in)

    misses : Spared (secrets h s log) avoid → Misses have s w run
    misses (value, sized, apart, clear) =
        go (blind h log once own labels s none w real run value
        (record {
          sized = sized;
          apart = apart;
          unused = λ t u m n e. clear t m (Memᴰ.cast e (used u n));
          unasked = λ t q m n e. clear t m (Memᴰ.cast e (was_asked q n));
        }))
      where
        go : (w' : World) × Other have s (value (Session s)) w w' × ((t : Term) → t ∈ secrets h s log → bytes w' t ≡ value t) ×
            (asks w' have run ≡ asks w have run) × (answers w' have run ≡ answers w have run) → Misses have s w run
        go (w', o, renamed, q, a) =
            record {
              elsewhere = w';
              looks_same = subst (λ (x : List ℕ). Other have s x w w') (sym o.session) o;
              another = λ e. clear (Session s) session_in (Memᴰ.cast (sym o.session ∙ e) old_session);
              same_asks = q;
              same_answer = a;
              not_session = λ e. clear (Session s) session_in (here (sym o.session ∙ sym e ∙ a));
              not_show = λ e. clear (show_key s) (here refl) (here (sym (renamed (show_key s) (here refl)) ∙ sym e ∙ a));
            }
