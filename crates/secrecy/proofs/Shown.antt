-- Who gets which show: the theorems on receivers, from those on labels. Assumes nothing.
use Rattle.std.proofs.Common.{◌≡◌, ℕ, ◌^◌, ◌≤◌, Bool, true, false, cond, not, ◌&&◌, T, ltb, List, [], ◌∷◌, sym, refl, ap, ◌∙◌, subst, subst₂, ⊎_elim, arith, T_not}
use Rattle.std.proofs.lemmas.Float.{T_from_true}
use mathlib.Core.List.Memᴰ
use mathlib.Core.List.Memᴰ.{head as here}
use mathlib.Core.List.Memᴰ.{tail as there}
use Rattle.std.proofs.lemmas.Bool.{and_from, lt-ltb, false_from_ne_true}
use Rattle.std.specs.List.{flat_map}
use Rattle.tree.specs.Receivers.{is_in, all_below}
use Rattle.tree.specs.Parts.{holds, in_how_many}
use Rattle.tree.specs.Cover.{cover}
use Rattle.tree.proofs.Tests.{T_true}
use Rattle.tree.proofs.Exact.{exact, counted, counts}
use Rattle.tree.proofs.Neat.{neat}
use Rattle.secrecy.specs.Lists.{◌∈◌, Within}
use Rattle.secrecy.specs.Terms.{Term, Pad, Session, Xor, key}
use Rattle.secrecy.specs.Held.{held, held_by}
use Rattle.secrecy.specs.Air.{Sending, Trial, as_trial, air, signals, view}
use Rattle.secrecy.specs.Gets.{swap, Gets, middle, alike}
use Rattle.secrecy.specs.Promise.{Opens, OpensSome, KeyExact, SomeoneLeft, SomeoneLeftOnce, Sound, Shows, ShowsOnce, NumberTwice, MoreReceivers}
use Rattle.secrecy.proofs.Lists.{in_joined, joined_in, all_lt, by_value}
use Rattle.secrecy.proofs.Labels.{proper_is}
use Rattle.secrecy.proofs.Air.{signal_in}
use Rattle.secrecy.proofs.Held.{held_labels, knows_someone, someone_knows}
use Rattle.secrecy.proofs.Exact.{gets_more, take_off, gets_sealed, opens_gets, key_from_labels, session_from_labels, own_signal}

pub key_exact : KeyExact
key_exact gs h log once who small g tree p pr =
    let w = key_from_labels h log once (held_by gs h who) (held_labels gs h who) g p in
    let fine = proper_is h p pr in
    ((λ x. knows_someone gs h who small g p fine (w.0 x)), λ x. w.1 (someone_knows gs h who small g p fine tree x))

module _ (gs : List ℕ) (h : ℕ) (who : List ℕ) (small : T (all_below (2 ^ h) who)) where
  abbrev own : List Term
  own = held_by gs h who

  -- who opens a header of a sending was not revoked in it
  opens_left : (a : Sending) → Opens own h (as_trial h a) → SomeoneLeft who a
  opens_left a (p, j, w) =
      let v = knows_someone gs h who small a.tree p (proper_is h p (neat h a.revoked p j)) w in
      let u = v.0 in
      let one = counts h u (cover h a.revoked) p j (T_true (holds h u p) v.2) in
      let rule = exact h a.revoked u (all_lt (2 ^ h) who small u v.1) in
      (u, v.1, T_from_true (not (is_in u a.revoked)) (ap not (go (is_in u a.revoked) (in_how_many h u (cover h a.revoked)) rule one)))
    where
      go : (b : Bool) (n : ℕ) → n ≡ cond b 0 1 → 1 ≤ n → b ≡ false
      go b n e l = grind arith

  -- and the other way
  left_opens : (a : Sending) → a.tree ∈ gs → SomeoneLeft who a → Opens own h (as_trial h a)
  left_opens a tree (u, m, t) =
      let revoked = is_in u a.revoked in
      let free : revoked ≡ false = false_from_ne_true revoked (λ q. T_not revoked t (T_from_true revoked q)) in
      let rule = exact h a.revoked u (all_lt (2 ^ h) who small u m) ∙ ap (λ (b : Bool). cond b 0 1) free in
      let v = counted h u (cover h a.revoked) (omega (arith, rule)) in
      let p = v.0 in
      (p, v.1, someone_knows gs h who small a.tree p (proper_is h p (neat h a.revoked p v.1)) tree (u, m, T_from_true (holds h u p) v.2))

  module _ (ss : List Sending) (ts : List Trial) (sound : Sound gs h ss ts) where
    -- receivers open a header of a show exactly if one of them was not revoked in a sending of it
    pub opened_left : (m : Sending) → m ∈ ss → OpensSome own h m.session (signals h ss ts) → SomeoneLeftOnce who m.session ss
    opened_left m k x =
        let w = own_signal h ss ts sound.apart own m k x in
        let a = Memᴰ.of_map (as_trial h) ss w.1 in
        let o = subst (λ (t : Trial). Opens own h t) (sym a.2) w.2.1 in
        (a.0, a.1, (ap (λ (t : Trial). t.session) a.2 ∙ w.2.0, opens_left a.0 o))

    pub left_opened : (s : ℕ) → SomeoneLeftOnce who s ss → OpensSome own h s (signals h ss ts)
    left_opened s (a, k, (e, w)) = (as_trial h a, signal_in h ss ts a k, (e, left_opens a (sound.trees a k) w))

pub shows : Shows
shows gs h ss ts sound who small m k =
    let own = held_by gs h who in
    let log = signals h ss ts in
    let only = (session_from_labels h log sound.once own (held_labels gs h who) m.session).1 in
    ((λ x. opened_left gs h who small ss ts sound m k (only.0 x)), λ w. only.1 (left_opened gs h who small ss ts sound m.session w))

pub shows_once : ShowsOnce
shows_once gs h ss ts sound once who small m k =
    let s = shows gs h ss ts sound who small m k in (
      (λ x. let w = s.0 x in
          let it = by_value (λ (n : Sending). n.session) ss once w.0 m w.1 k w.2.0 in
          subst (SomeoneLeft who) it w.2.1),
      λ w. s.1 (m, k, (refl, w)),
    )

-- the pad under one header, from its session key, opens the other
pub number_twice : NumberTwice
unfolding all_below
number_twice h a b e et p m n u small left =
    middle (take_off (pad_of b) (Session b.session) (gets_sealed have h log (as_trial h b) (there (here refl)) p n)
    (subst₂ (λ (g k : ℕ). Gets (view have h log) (Pad (key g h p) k)) et e (take_off (Session a.session) (pad_of a) turned first)))
  where
    have : List Term
    have = held_by (a.tree ∷ []) h (u ∷ [])

    log : List Trial
    log = signals h (a ∷ b ∷ []) []

    pad_of : Sending → Term
    pad_of m = Pad (key m.tree h p) m.number

    turned : Gets (view have h log) (Xor (Session a.session) (pad_of a))
    turned =
        alike (Xor (pad_of a) (Session a.session)) (swap (pad_of a) (Session a.session))
        (gets_sealed have h log (as_trial h a) (here refl) p m)

    alone : T (all_below (2 ^ h) (u ∷ []))
    alone = T_from_true (ltb u (2 ^ h) && true) (and_from (ltb u (2 ^ h)) true (lt-ltb u (2 ^ h) small) refl)

    first : Gets (view have h log) (Session a.session)
    first =
        let opens = left_opens (a.tree ∷ []) h (u ∷ []) alone a (here refl) (u, here refl, left) in
        opens_gets have h log a.session (as_trial h a, here refl, (refl, opens))

pub more_receivers : MoreReceivers
more_receivers gs gs' h who who' log t f f' =
    gets_more
    (λ l m. ⊎_elim (λ q. Memᴰ.append_left (air h log) (more l q)) (Memᴰ.append_right (held_by gs' h who')) (Memᴰ.append_cases (held_by gs h who) m))
  where
    more : Within (held_by gs h who) (held_by gs' h who')
    more l q =
        let a = in_joined (λ g. flat_map (held g h) who) gs l q in
        let b = in_joined (held a.0 h) who l a.2 in
        let there' = joined_in (held a.0 h) who' b.0 l (f' b.0 b.1) b.2 in
        joined_in (λ g. flat_map (held g h) who') gs' a.0 l (f a.0 a.1) there'
