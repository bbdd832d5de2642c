-- In the changed world all that is in hand or on the air has the same bytes. Assumes nothing.
use Rattle.std.proofs.Common.{◌≡◌, ℕ, suc, Bool, true, false, cond, eqb, ◌⊎◌, List, [], ◌∷◌, map, take, drop, Decides, sym, refl, ap, ◌∙◌, subst, ap₂, inl, inr, ⊎_elim, arith}
use mathlib.Core.Path.{fun_ext}
use mathlib.Core.List.Memᴰ
use mathlib.Core.List.Memᴰ.{head as here}
use mathlib.Core.List.Memᴰ.{tail as there}
use Rattle.std.specs.List.{flat_map}
use Rattle.std.proofs.lemmas.Bool.{cases_eq, eqb-true, eq-eqb, ne_eqb, cond_both, cond-true, cond-false, false_from_ne_true}
use Rattle.tree.specs.declared.parts.Part.{Part}
use Rattle.tree.proofs.Tests.{T_true}
use Rattle.secrecy.specs.Lists.{◌∈◌}
use Rattle.secrecy.specs.Terms.{Term, Session, is_label, label_of, key, made}
use Rattle.secrecy.specs.Held.{Labels}
use Rattle.secrecy.specs.Air.{Trial, true_parts, header, air, view, Once}
use Rattle.secrecy.specs.Worlds.{xors, bytes, seen, Strategy, Done, Ask, Point, answer, asked, OpensAt}
use Rattle.secrecy.specs.Blind.{Other, Covered}
use Rattle.secrecy.proofs.Lists.{joined_in, by_value, any}
use Rattle.secrecy.proofs.Made.{made_self}
use Rattle.secrecy.proofs.Labels.{label_of_is}
use Rattle.secrecy.proofs.Air.{OnAir, in_air, sealed, sealed_in}
use Rattle.secrecy.proofs.Bytes.{xors_back, xors_take, xors_drop}
use Rattle.secrecy.proofs.Change.{opens_at, opens_at_decides, Change, new, pick, delta, delta_sized, opened, block', world', real', new_old, Clear, pick_high, label_new, middle_new}

-- asked the same, and answered the same, all goes the same
pub run_same : (f g : List ℕ → ℕ → List ℕ) (run : Strategy) →
    ((q : Point) → q ∈ asked f run → g q.at q.counter ≡ f q.at q.counter) → (asked g run ≡ asked f run) × (answer g run ≡ answer f run)
unfolding asked answer
run_same f g (Done a) same = (refl, refl)
run_same f g (Ask k c next) same =
    let q : Point = record { at = k; counter = c } in
    let e : g k c ≡ f k c = same q (here refl) in
    let r = run_same f g (next (f k c)) (λ q m. same q (there m)) in (
      ap {B = List Point} (λ (qs : List Point). q ∷ qs) (ap (λ (x : List ℕ). asked g (next x)) e ∙ r.0),
      ap (λ (x : List ℕ). answer g (next x)) e ∙ r.1,
    )

map_same : (f g : Term → List ℕ) (ts : List Term) → ((t : Term) → t ∈ ts → f t ≡ g t) → map f ts ≡ map g ts
map_same f g [] e = refl
map_same f g (t ∷ ts) e =
    ap₂ {C = List (List ℕ)} (λ (x : List ℕ) (xs : List (List ℕ)). x ∷ xs) (e t (here refl)) (map_same f g ts (λ u m. e u (there m)))

module _ (c : Change) (once : Once c.log) (own : List Term) (labels : Labels own) (kept : (t : Term) → t ∈ own → t ∈ c.hide → ⊥)
    (clear : (u : Term) → u ∈ flat_map made (view own c.height c.log) → Clear c u) where
  abbrev have : List Term
  have = view own c.height c.log

  -- the bytes of a term before and after
  abbrev was : Term → List ℕ
  was = bytes c.old

  abbrev now : Term → List ℕ
  now = bytes (world' c)

  -- the key of a header, its counter, the block there before, and whether its session key changes
  abbrev key_of : Trial → Part → Term
  key_of m p = key m.tree c.height p

  abbrev counter : Trial → ℕ
  counter m = suc (suc m.number)

  abbrev block_of : Trial → Part → List ℕ
  block_of m p = c.old.block (was (key_of m p)) (counter m)

  abbrev changes : Trial → Bool
  changes m = eqb m.session c.draw

  -- the block under a header is the same, or has the change of session key
  under : (m : Trial) → m ∈ c.log → (p : Part) → p ∈ true_parts m → Clear c (key_of m p) →
      block' c (new c (key_of m p)) (counter m) ≡ cond (changes m) (xors (block_of m p) (delta c)) (block_of m p)
  unfolding block'
  under m k p j f =
      ap₂ (λ (o : Bool) (x : List ℕ). cond o (xors x (delta c)) x) (go (cases_eq m.session c.draw)) (pick_high c (key_of m p) m.number f)
    where
      x : List ℕ
      x = new c (key_of m p)

      decides : Decides (opened c x (counter m)) (OpensAt (new c) c.height c.draw c.log x (counter m))
      decides = opens_at_decides (new c) c.height c.draw c.log x (counter m)

      -- the number of a signal is no other's
      by_number : OpensAt (new c) c.height c.draw c.log x (counter m) → m.session ≡ c.draw
      by_number (o, i, (e, (same, _))) =
          ap (λ (t : Trial). t.session) (by_value (λ (t : Trial). t.number) c.log once m o k i (omega (arith, same))) ∙ e

      go : (m.session ≡ c.draw) ⊎ (m.session ≡ c.draw → ⊥) → opened c x (counter m) ≡ changes m
      go (inl e) = decides.1 (m, k, (e, (refl, (p, j, refl)))) ∙ sym (eq-eqb m.session c.draw e)
      go (inr e) = false_from_ne_true (opened c x (counter m)) (λ q. e (by_number (decides.0 q))) ∙ sym (ne_eqb m.session c.draw e)

  -- so a header has the same bytes
  header_same : (m : Trial) → m ∈ c.log → (p : Part) → p ∈ true_parts m → (t : Term) → t ∈ header c.height m p → now t ≡ was t
  unfolding bytes made world' delta
  header_same m k p j t i =
      ⊎_elim (λ e. subst (λ (x : Term). now x ≡ was x) (sym e) (ap (λ (x : List ℕ). xors (take 32 x) session) block ∙ sums (changes m) refl))
      (λ q. subst (λ (x : Term). now x ≡ was x) (sym (Memᴰ.eq_of_singleton q)) (ap (λ (x : List ℕ). take 16 (drop 32 x)) block ∙ check))
      (Memᴰ.cases_cons i)
    where
      inside : (u : Term) → u ∈ made (key_of m p) → u ∈ flat_map made have
      inside u q =
          joined_in made have (sealed c.height m p) u (Memᴰ.append_right own (sealed_in c.height c.log m k p j))
          (there (Memᴰ.append_left (made (Session m.session)) (there q)))

      block : block' c (now (key_of m p)) (counter m) ≡ cond (changes m) (xors (block_of m p) (delta c)) (block_of m p)
      block =
          let l = label_of m.tree c.height p in
          ap (λ (x : List ℕ). block' c x (counter m)) (middle_new c l (label_of_is m.tree c.height p) (λ u q. clear u (inside u (there q))))
          ∙ under m k p j (clear (key_of m p) (inside (key_of m p) (made_self (key_of m p))))

      session : List ℕ
      session = cond (changes m) c.session (c.old.session m.session)

      sums : (o : Bool) → changes m ≡ o →
          xors (take 32 (cond o (xors (block_of m p) (delta c)) (block_of m p))) (cond o c.session (c.old.session m.session))
          ≡ xors (take 32 (block_of m p)) (c.old.session m.session)
      sums true q =
          let sizes = (c.real.sessions c.draw).0 ∙ sym c.session_sized.0 in
          ap (λ (x : List ℕ). xors x c.session) (xors_take 32 (block_of m p) (delta c))
          ∙ xors_back (take 32 (block_of m p)) (c.old.session c.draw) c.session sizes
          ∙ ap (λ (s : ℕ). xors (take 32 (block_of m p)) (c.old.session s)) (sym (eqb-true m.session c.draw q))
      sums false q = refl

      check : take 16 (drop 32 (cond (changes m) (xors (block_of m p) (delta c)) (block_of m p))) ≡ take 16 (drop 32 (block_of m p))
      check =
          cond_both (changes m) _ _ (λ (x : List ℕ). take 16 (drop 32 x) ≡ take 16 (drop 32 (block_of m p)))
          (λ e. ap (take 16) (xors_drop 32 (block_of m p) (delta c) (omega (arith, (delta_sized c).0)))) (λ e. refl)

  on_air : (t : Term) → OnAir c.height c.log t → now t ≡ was t
  unfolding bytes world'
  on_air t (inl (m, k, p, j, i)) = header_same m k p j t i
  on_air t (inr (n, i, e)) = subst (λ (x : Term). now x ≡ was x) (sym e) refl

  in_hand : (t : Term) → t ∈ own → now t ≡ was t
  in_hand t m =
      let seen = Memᴰ.append_left (air c.height c.log) m in
      label_new c t (T_true (is_label t) (labels t m)) (λ u q. clear u (joined_in made have t u seen q)) ∙ new_old c t (kept t m)

  all_same : (t : Term) → t ∈ have → now t ≡ was t
  all_same t m = ⊎_elim (in_hand t) (λ q. on_air t (in_air c.height c.log t q)) (Memᴰ.append_cases own m)

  pub other : Other have c.draw c.session c.old (world' c)
  unfolding world'
  other =
      record {
        real = real' c;
        session = cond-true (eqb c.draw c.draw) c.session (c.old.session c.draw) (eq-eqb c.draw c.draw refl);
        sight = map_same now was have all_same;
        sessions = λ s e. cond-false (eqb s c.draw) c.session (c.old.session s) (ne_eqb s c.draw e);
        noises = λ n i. refl;
      }

-- with nothing hidden, only the session key changes, and the blocks under its headers
pub covered : Covered
unfolding world' block' pick new any bytes
covered h log once own labels w real s s' b = (
  world' c,
  o,
  (λ g i. refl),
  agree,
  λ run f. ap (λ (v : List (List ℕ)). answer (block' c) (run v)) o.sight
      ∙ (run_same w.block (block' c) (run (seen w (view own h log))) (λ q m. agree q.at q.counter (f q m))).1,
)
  where
    none : {A : Type 0} (t : Term) → t ∈ [] → A
    none t m = absurd (Memᴰ.not-nil m)

    c : Change
    c =
        record {
          old = w;
          real = real;
          height = h;
          log = log;
          draw = s;
          session = s';
          session_sized = b;
          hide = [];
          value = λ t. s';
          sized = λ t. b;
          apart = λ t u m. none t m;
          closed = λ t u m. none t m;
        }

    o : Other (view own h log) s s' w (world' c)
    o = other c once own labels (λ t m k. none t k) (λ u m t k. none t k)

    agree : (k : List ℕ) (n : ℕ) → (OpensAt (bytes w) h s log k n → ⊥) → block' c k n ≡ w.block k n
    agree k n f =
        cond-false (opened c k n) (xors (w.block k n) (delta c)) (w.block k n)
        (ap (λ (v : Term → List ℕ). opens_at v h s log k n) {x = new c} {y = bytes w} (fun_ext (λ t. refl))
        ∙ false_from_ne_true (opens_at (bytes w) h s log k n) (λ e. f ((opens_at_decides (bytes w) h s log k n).0 e)))
