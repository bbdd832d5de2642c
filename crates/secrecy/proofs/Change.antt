-- Another world: some terms and a session key have other values, and the block function is moved so that the rest stays. Assumes nothing.
use Rattle.std.proofs.Common.{◌≡◌, ℕ, zero, suc, ◌<◌, Bool, true, false, cond, ◌&&◌, eqb, List, [], ◌∷◌, ◌++◌, take, drop, Decides, sym, refl, ap, ◌∙◌, ⊎_elim, arith}
use mathlib.Core.List.Memᴰ
use mathlib.Core.List.Memᴰ.{head as here}
use mathlib.Core.List.Memᴰ.{tail as there}
use mathlib.Core.List.{List-discrete}
use native.Mathlib.Decide.{ℕ_discrete}
use Rattle.std.proofs.lemmas.List.{take_at, drop_at}
use Rattle.std.proofs.lemmas.Bool.{both_ways, cond_both, cond-true, cond-false, false_from_ne_true}
use Rattle.std.proofs.lemmas.Bool.Decides.{Decides-eqb, Decides-and}
use Rattle.tree.specs.declared.parts.Part.{Part}
use Rattle.secrecy.specs.Lists.{◌∈◌}
use Rattle.secrecy.specs.Terms.{Term, Term-discrete, Start, Left, Right, Middle, is_label, key, made}
use Rattle.secrecy.specs.Air.{Trial, true_parts}
use Rattle.secrecy.specs.Worlds.{Bytes, xors, World, Real, bytes, OpensAt}
use Rattle.secrecy.proofs.Lists.{any, any_decides, is, is_decides, listed, listed_decides}
use Rattle.secrecy.proofs.Made.{made_self, by_label}
use Rattle.secrecy.proofs.Bytes.{bytes_xors, bytes_append, bytes_take, bytes_drop}

-- whether two are the same bytes
abbrev pub same : List ℕ → List ℕ → Bool
same x y = is (List-discrete ℕ_discrete x y)

same_decides : (x y : List ℕ) → Decides (same x y) (x ≡ y)
same_decides x y = is_decides (List-discrete ℕ_discrete x y)

-- whether x is the key of one of the parts of a signal with a true header
abbrev key_at : (Term → List ℕ) → ℕ → List ℕ → Trial → Bool
key_at value h x m = any (λ p. same x (value (key m.tree h p))) (true_parts m)

key_at_decides : (value : Term → List ℕ) (h : ℕ) (x : List ℕ) (m : Trial) →
    Decides (key_at value h x m) ((p : Part) × (p ∈ true_parts m) × (x ≡ value (key m.tree h p)))
key_at_decides value h x m =
    let v : Part → List ℕ = λ p. value (key m.tree h p) in
    any_decides (λ p. same x (v p)) (λ p. x ≡ v p) (λ p. same_decides x (v p)) (true_parts m)

abbrev pub opens_at : (Term → List ℕ) → ℕ → ℕ → List Trial → List ℕ → ℕ → Bool
opens_at value h s log x c = any (λ m. eqb m.session s && (eqb c (suc (suc m.number)) && key_at value h x m)) log

pub opens_at_decides : (value : Term → List ℕ) (h s : ℕ) (log : List Trial) (x : List ℕ) (c : ℕ) →
    Decides (opens_at value h s log x c) (OpensAt value h s log x c)
opens_at_decides value h s log x c =
    any_decides (λ m. eqb m.session s && (eqb c (suc (suc m.number)) && key_at value h x m))
    (λ m. (m.session ≡ s) × ((c ≡ suc (suc m.number)) × ((p : Part) × (p ∈ true_parts m) × (x ≡ value (key m.tree h p)))))
    (λ m. let n = suc (suc m.number) in
    Decides-and (eqb m.session s) (eqb c n && key_at value h x m) (Decides-eqb m.session s)
    (Decides-and (eqb c n) (key_at value h x m) (Decides-eqb c n) (key_at_decides value h x m)))
    log

-- a change: new values for some terms, pairwise different and with all that these are made from, and a new session key for a draw
pub record Change : Type 0 where
  pub old : World
  pub real : Real old
  pub height : ℕ
  pub log : List Trial
  pub draw : ℕ
  pub session : List ℕ
  pub session_sized : Bytes 32 session
  pub hide : List Term
  pub value : Term → List ℕ
  pub sized : (t : Term) → Bytes 32 (value t)
  pub apart : (t u : Term) → t ∈ hide → u ∈ hide → value t ≡ value u → t ≡ u
  pub closed : (t u : Term) → t ∈ hide → u ∈ made t → u ∈ hide

module _ (c : Change) where
  -- the old bytes of a term, and the old blocks of a key
  abbrev was : Term → List ℕ
  was t = bytes c.old t

  abbrev block_at : Term → ℕ → List ℕ
  block_at t n = c.old.block (was t) n

  abbrev hides : Term → Bool
  hides t = listed (Term-discrete ℕ_discrete) t c.hide

  hides_decides : (t : Term) → Decides (hides t) (t ∈ c.hide)
  hides_decides t = listed_decides (Term-discrete ℕ_discrete) t c.hide

  unfoldable pub new : Term → List ℕ
  new t = cond (hides t) (c.value t) (was t)

  -- the block of a hidden term: its left, right and middle are the new ones
  unfoldable pub moved : Term → ℕ → List ℕ
  moved t zero = new (Left t) ++ new (Right t)
  moved t (suc zero) = new (Middle t) ++ drop 32 (block_at t 1)
  moved t (suc (suc n)) = block_at t (suc (suc n))

  -- the blocks moved to the new values of some hidden terms
  unfoldable pub pick : List Term → List ℕ → ℕ → List ℕ
  pick [] x n = c.old.block x n
  pick (t ∷ ts) x n = cond (same (c.value t) x) (moved t n) (pick ts x n)

  -- what is to be added to the old session key for the new one
  unfoldable pub delta : List ℕ
  delta = xors (c.old.session c.draw) c.session

  abbrev pub opened : List ℕ → ℕ → Bool
  opened x n = opens_at new c.height c.draw c.log x n

  unfoldable pub block' : List ℕ → ℕ → List ℕ
  block' x n = cond (opened x n) (xors (pick c.hide x n) delta) (pick c.hide x n)

  unfoldable pub world' : World
  world' =
      record {
        block = block';
        start = λ g i. new (Start g i);
        session = λ s. cond (eqb s c.draw) c.session (c.old.session s);
        noise = c.old.noise;
      }

  pub new_old : (t : Term) → (t ∈ c.hide → ⊥) → new t ≡ was t
  unfolding new
  new_old t f = cond-false (hides t) (c.value t) (was t) (false_from_ne_true (hides t) (λ e. f ((hides_decides t).0 e)))

  pub new_is : (t : Term) → t ∈ c.hide → new t ≡ c.value t
  unfolding new
  new_is t m = cond-true (hides t) (c.value t) (was t) ((hides_decides t).1 m)

  -- sizes

  new_sized : (t : Term) → Bytes 32 (was t) → Bytes 32 (new t)
  unfolding new
  new_sized t b = cond_both (hides t) (c.value t) (was t) (Bytes 32) (λ e. c.sized t) (λ e. b)

  left_sized : (t : Term) → Bytes 32 (new (Left t))
  unfolding bytes
  left_sized t = new_sized (Left t) (bytes_take 32 64 (block_at t 0) (c.real.blocks (was t) 0))

  middle_sized : (t : Term) → Bytes 32 (new (Middle t))
  unfolding bytes
  middle_sized t = new_sized (Middle t) (bytes_take 32 64 (block_at t 1) (c.real.blocks (was t) 1))

  moved_sized : (t : Term) (n : ℕ) → Bytes 64 (moved t n)
  unfolding moved bytes
  moved_sized t zero =
      bytes_append 32 32 (new (Left t)) (new (Right t)) (left_sized t)
      (new_sized (Right t) (bytes_drop 32 64 (block_at t 0) (c.real.blocks (was t) 0)))
  moved_sized t (suc zero) =
      bytes_append 32 32 (new (Middle t)) (drop 32 (block_at t 1)) (middle_sized t)
      (bytes_drop 32 64 (block_at t 1) (c.real.blocks (was t) 1))
  moved_sized t (suc (suc n)) = c.real.blocks (was t) (suc (suc n))

  pick_sized : (ts : List Term) (x : List ℕ) (n : ℕ) → Bytes 64 (pick ts x n)
  unfolding pick
  pick_sized [] x n = c.real.blocks x n
  pick_sized (t ∷ ts) x n = cond_both (same (c.value t) x) (moved t n) (pick ts x n) (Bytes 64) (λ e. moved_sized t n) (λ e. pick_sized ts x n)

  pub delta_sized : Bytes 32 delta
  unfolding delta
  delta_sized = bytes_xors 32 32 (c.old.session c.draw) c.session (c.real.sessions c.draw) c.session_sized

  pub real' : Real world'
  unfolding world' block' bytes
  real' =
      record {
        blocks = λ x n. cond_both (opened x n) (xors (pick c.hide x n) delta) (pick c.hide x n) (Bytes 64)
            (λ e. bytes_xors 64 32 (pick c.hide x n) delta (pick_sized c.hide x n) delta_sized) (λ e. pick_sized c.hide x n);
        starts = λ g i. new_sized (Start g i) (c.real.starts g i);
        sessions = λ s. cond_both (eqb s c.draw) c.session (c.old.session s) (Bytes 32) (λ e. c.session_sized) (λ e. c.real.sessions s);
        noises = c.real.noises;
      }

  -- blocks

  pub pick_miss : (ts : List Term) (x : List ℕ) (n : ℕ) → ((t : Term) → t ∈ ts → c.value t ≡ x → ⊥) → pick ts x n ≡ c.old.block x n
  unfolding pick
  pick_miss [] x n f = refl
  pick_miss (t ∷ ts) x n f =
      cond-false (same (c.value t) x) (moved t n) (pick ts x n)
      (false_from_ne_true (same (c.value t) x) (λ e. f t (here refl) ((same_decides (c.value t) x).0 e)))
      ∙ pick_miss ts x n (λ u m. f u (there m))

  pick_hit : (ts : List Term) (t : Term) (n : ℕ) → t ∈ ts → ((u : Term) → u ∈ ts → c.value t ≡ c.value u → t ≡ u) →
      pick ts (c.value t) n ≡ moved t n
  unfolding pick
  pick_hit [] t n m f = absurd (Memᴰ.not-nil m)
  pick_hit (u ∷ us) t n m f =
      cond_both (same (c.value u) (c.value t)) (moved u n) (pick us (c.value t) n) (λ (z : List ℕ). z ≡ moved t n)
      (λ e. ap (λ (v : Term). moved v n) (sym (f u (here refl) (sym ((same_decides (c.value u) (c.value t)).0 e)))))
      (λ e. ⊎_elim (λ q. absurd (both_ways (same (c.value u) (c.value t)) e ((same_decides (c.value u) (c.value t)).1 (ap c.value (sym q)))))
      (λ q. pick_hit us t n q (λ v k. f v (there k))) (Memᴰ.cases_cons m))

  -- none of the new values is this term's old one
  abbrev pub Clear : Term → Type 0
  Clear u = (t : Term) → t ∈ c.hide → c.value t ≡ was u → ⊥

  pick_new : (t : Term) (n : ℕ) → Clear t → pick c.hide (new t) n ≡ cond (hides t) (moved t n) (block_at t n)
  unfolding new
  pick_new t n f = go (hides t) refl
    where
      go : (l : Bool) → hides t ≡ l → pick c.hide (cond l (c.value t) (was t)) n ≡ cond l (moved t n) (block_at t n)
      go true e = let m = (hides_decides t).0 e in pick_hit c.hide t n m (λ u k. c.apart t u m k)
      go false e = pick_miss c.hide (was t) n f

  -- above the counters of labels and keys, what stood at the old value stands at the new one
  pub pick_high : (t : Term) (n : ℕ) → Clear t → pick c.hide (new t) (suc (suc n)) ≡ block_at t (suc (suc n))
  unfolding moved
  pick_high t n f =
      pick_new t (suc (suc n)) f
      ∙ cond_both (hides t) (moved t (suc (suc n))) (block_at t (suc (suc n))) (λ (z : List ℕ). z ≡ block_at t (suc (suc n))) (λ e. refl) (λ e. refl)

  block_low : (x : List ℕ) (n : ℕ) → n < 2 → block' x n ≡ pick c.hide x n
  unfolding block'
  block_low x n l =
      cond-false (opened x n) (xors (pick c.hide x n) delta) (pick c.hide x n)
      (false_from_ne_true (opened x n) (λ e. let o = (opens_at_decides new c.height c.draw c.log x n).0 e in omega (arith, o.2.1.0)))

  -- what comes from a term by a cut of a low block comes from its new value
  new_step : (t u : Term) (n : ℕ) (cut : List ℕ → List ℕ) → n < 2 → t ∈ made u → cut (moved t n) ≡ new u → cut (block_at t n) ≡ was u →
      Clear t → cut (block' (new t) n) ≡ new u
  new_step t u n cut low m hit miss f =
      ap cut (block_low (new t) n low ∙ pick_new t n f)
      ∙ cond_both (hides t) (moved t n) (block_at t n) (λ (z : List ℕ). cut z ≡ new u) (λ e. hit)
      (λ e. miss ∙ sym (new_old u (λ k. both_ways (hides t) e ((hides_decides t).1 (c.closed u t k m)))))

  pub new_middle : (t : Term) → Clear t → take 32 (block' (new t) 1) ≡ new (Middle t)
  unfolding moved bytes made
  new_middle t =
      new_step t (Middle t) 1 (take 32) (omega arith) (there (made_self t))
      (take_at (new (Middle t)) (drop 32 (block_at t 1)) 32 (middle_sized t).0) refl

  -- labels, and their middles, have the new bytes
  pub label_new : (t : Term) → is_label t ≡ true → ((u : Term) → u ∈ made t → Clear u) → bytes world' t ≡ new t
  unfolding bytes made world' moved
  label_new =
      by_label (λ (t : Term). ((u : Term) → u ∈ made t → Clear u) → bytes world' t ≡ new t) (λ g i f. refl)
      (λ t ih f. ap (λ (x : List ℕ). take 32 (block' x 0)) (ih (λ u m. f u (there m)))
      ∙ new_step t (Left t) 0 (take 32) (omega arith) (there (made_self t)) (take_at (new (Left t)) (new (Right t)) 32 (left_sized t).0) refl
      (f t (there (made_self t))))
      (λ t ih f. ap (λ (x : List ℕ). drop 32 (block' x 0)) (ih (λ u m. f u (there m)))
      ∙ new_step t (Right t) 0 (drop 32) (omega arith) (there (made_self t)) (drop_at (new (Left t)) (new (Right t)) 32 (left_sized t).0) refl
      (f t (there (made_self t))))

  pub middle_new : (t : Term) → is_label t ≡ true → ((u : Term) → u ∈ made t → Clear u) → bytes world' (Middle t) ≡ new (Middle t)
  unfolding bytes made world'
  middle_new t e f = ap (λ (x : List ℕ). take 32 (block' x 1)) (label_new t e f) ∙ new_middle t (f t (made_self t))
