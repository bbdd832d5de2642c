-- What the labels open is found by a computation, in every world. Assumes nothing.
use Rattle.std.proofs.Common.{◌≡◌, ℕ, suc, List, [], ◌∷◌, take, drop, sym, refl, ap, ◌∙◌, subst, ap₂, ⊎_elim}
use mathlib.Core.List.Memᴰ
use Rattle.secrecy.specs.Lists.{◌∈◌}
use Rattle.secrecy.specs.Terms.{Term, Left, Right, Middle, Pad, Session, Xor, label_of, key}
use Rattle.secrecy.specs.Air.{air, view}
use Rattle.secrecy.specs.Worlds.{xors, World, Real, bytes, seen, Strategy, Done, Ask, answer}
use Rattle.secrecy.specs.Blind.{Run, answers, Finds, Found}
use Rattle.secrecy.proofs.Made.{gives}
use Rattle.secrecy.proofs.Labels.{label_of_is}
use Rattle.secrecy.proofs.Air.{sealed, sealed_in}
use Rattle.secrecy.proofs.Bytes.{xors_off, bytes_take}

bind : Strategy → (List ℕ → Strategy) → Strategy
bind (Done a) k = k a
bind (Ask x c next) k = Ask x c (λ y. bind (next y) k)

answer_bind : (f : List ℕ → ℕ → List ℕ) (run : Strategy) (k : List ℕ → Strategy) → answer f (bind run k) ≡ answer f (k (answer f run))
unfolding bind answer
answer_bind f (Done a) k = refl
answer_bind f (Ask x c next) k = answer_bind f (next (f x c)) k

-- from what one has, a term's bytes are computed in every world
abbrev Computed : List Term → Term → Type 0
Computed have t = (run : Run) × ((w : World) → Real w → answers w have run ≡ bytes w t)

head' : List (List ℕ) → List ℕ
head' [] = []
head' (x ∷ xs) = x

tail' : List (List ℕ) → List (List ℕ)
tail' [] = []
tail' (x ∷ xs) = xs

c_given : (have : List Term) (t : Term) → t ∈ have → Computed have t
unfolding answer head' tail'
c_given [] t m = absurd (Memᴰ.not-nil m)
c_given (x ∷ xs) t m =
    ⊎_elim (λ e. ((λ v. Done (head' v)), λ w r. ap (bytes w) (sym e)))
    (λ q. let c = c_given xs t q in ((λ v. c.0 (tail' v)), λ w r. c.1 w r)) (Memᴰ.cases_cons m)

module _ (have : List Term) where
  -- a block is asked for, and cut
  then_ask : (t u : Term) (c : ℕ) (cut : List ℕ → List ℕ) → ((w : World) → cut (w.block (bytes w t) c) ≡ bytes w u) → Computed have t →
      Computed have u
  unfolding answer
  then_ask t u c cut is (run, e) = (
    (λ v. bind (run v) (λ x. Ask x c (λ y. Done (cut y)))),
    λ w r. answer_bind w.block (run (seen w have)) (λ x. Ask x c (λ y. Done (cut y))) ∙ ap (λ (x : List ℕ). cut (w.block x c)) (e w r) ∙ is w,
  )

  c_left : (t : Term) → Computed have t → Computed have (Left t)
  unfolding bytes
  c_left t = then_ask t (Left t) 0 (take 32) (λ w. refl)

  c_right : (t : Term) → Computed have t → Computed have (Right t)
  unfolding bytes
  c_right t = then_ask t (Right t) 0 (drop 32) (λ w. refl)

  c_middle : (t : Term) → Computed have t → Computed have (Middle t)
  unfolding bytes
  c_middle t = then_ask t (Middle t) 1 (take 32) (λ w. refl)

  c_pad : (t : Term) (n : ℕ) → Computed have t → Computed have (Pad t n)
  unfolding bytes
  c_pad t n = then_ask t (Pad t n) (suc (suc n)) (take 32) (λ w. refl)

  c_open : (k : Term) (n s : ℕ) → Computed have (Xor (Pad k n) (Session s)) → Computed have (Pad k n) → Computed have (Session s)
  unfolding bytes answer
  c_open k n s (f, e) (g, d) = (
    (λ v. bind (f v) (λ x. bind (g v) (λ y. Done (xors x y)))),
    λ w r. answer_bind w.block (f (seen w have)) (λ x. bind (g (seen w have)) (λ y. Done (xors x y)))
        ∙ answer_bind w.block (g (seen w have)) (λ y. Done (xors (answer w.block (f (seen w have))) y))
        ∙ ap₂ xors (e w r) (d w r)
        ∙ xors_off (take 32 (w.block (bytes w k) (suc (suc n)))) (w.session s)
        ((bytes_take 32 64 (w.block (bytes w k) (suc (suc n))) (r.blocks (bytes w k) (suc (suc n)))).0 ∙ sym (r.sessions s).0),
  )

pub found : Found
found h log own s (m, i, (e, (p, j, (l, k, n)))) =
    subst (λ (x : ℕ). (run : Run) × Finds have x run) e
    (c_middle have (Session m.session)
    (c_open have (key m.tree h p) m.number m.session header
    (c_pad have (key m.tree h p) m.number (c_middle have (label_of m.tree h p) known))))
  where
    have : List Term
    have = view own h log

    header : Computed have (sealed h m p)
    header = c_given have (sealed h m p) (Memᴰ.append_right own (sealed_in h log m i p j))

    known : Computed have (label_of m.tree h p)
    known =
        gives (Computed have) (c_left have) (c_right have) (label_of m.tree h p) (label_of_is m.tree h p) l n
        (c_given have l (Memᴰ.append_left (air h log) k))
