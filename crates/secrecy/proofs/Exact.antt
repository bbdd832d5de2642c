-- What can be worked out from labels in hand, exactly. Assumes nothing.
use Rattle.std.proofs.Common.{◌≡◌, ℕ, false, List, [], map, sym, ◌∙◌, subst, ⊎_elim}
use mathlib.Core.List.Memᴰ
use Rattle.std.proofs.lemmas.Bool.{not-false}
use Rattle.tree.specs.declared.parts.Part.{Part}
use Rattle.secrecy.specs.Lists.{◌∈◌, Within}
use Rattle.secrecy.specs.Terms.{Term, Pad, Session, Xor, label_of, key, show_key}
use Rattle.secrecy.specs.Held.{Knows}
use Rattle.secrecy.specs.Air.{Sending, Trial, as_trial, true_parts, sent, air, signals, view}
use Rattle.secrecy.specs.Gets.{cancel, Gets, given, noise, left, right, middle, pad, check, xor, alike}
use Rattle.secrecy.specs.Promise.{OpensSome, KeyFromLabels, SessionFromLabels, Apart, TrialsGiveNothing, MoreAir}
use Rattle.secrecy.proofs.Lists.{in_joined, joined_in}
use Rattle.secrecy.proofs.Made.{gives}
use Rattle.secrecy.proofs.Labels.{label_of_is}
use Rattle.secrecy.proofs.Air.{sealed, sealed_in}
use Rattle.secrecy.proofs.Hiding.{known, known_decides, shown, shown_decides, sum, hidden, hidden_key, gets_not_hidden}

-- more in hand gives no less
pub gets_more : {have have' : List Term} {t : Term} → Within have have' → Gets have t → Gets have' t
gets_more f (given {t} m) = given (f t m)
gets_more f (noise n i) = noise n i
gets_more f (left g) = left (gets_more f g)
gets_more f (right g) = right (gets_more f g)
gets_more f (middle g) = middle (gets_more f g)
gets_more f (pad n g) = pad n (gets_more f g)
gets_more f (check n g) = check n (gets_more f g)
gets_more f (xor g k) = xor (gets_more f g) (gets_more f k)
gets_more f (alike a r g) = alike a r (gets_more f g)

pub more_air : MoreAir
more_air own h log log' t f =
    gets_more (λ u m. ⊎_elim (Memᴰ.append_left (air h log'))
    (λ q. let w = in_joined (sent h) log u q in Memᴰ.append_right own (joined_in (sent h) log' w.0 u (f w.0 w.1) w.2))
    (Memᴰ.append_cases own m))

-- who has a sum and the first of its two has the second
pub take_off : {have : List Term} (a b : Term) → Gets have (Xor a b) → Gets have a → Gets have b
take_off a b g k = alike (Xor a (Xor a b)) (cancel a b) (xor k g)

module _ (own : List Term) (h : ℕ) (log : List Trial) where
  -- the labels in hand give keys
  knows_key : (g : ℕ) (p : Part) → Knows own (label_of g h p) → Gets (view own h log) (key g h p)
  knows_key g p (l, m, n) =
      let had = given (Memᴰ.append_left (air h log) m) in
      middle (gives (Gets (view own h log)) (λ t. left) (λ t. right) (label_of g h p) (label_of_is g h p) l n had)

  -- the header of a part is in hand
  pub gets_sealed : (m : Trial) → m ∈ log → (p : Part) → p ∈ true_parts m → Gets (view own h log) (sealed h m p)
  gets_sealed m k p j = given (Memᴰ.append_right own (sealed_in h log m k p j))

  pub opens_gets : (s : ℕ) → OpensSome own h s log → Gets (view own h log) (Session s)
  opens_gets s (m, k, (e, (p, j, w))) =
      subst (λ (n : ℕ). Gets (view own h log) (Session n)) e
      (take_off (Pad (key m.tree h p) m.number) (Session m.session) (gets_sealed m k p j) (pad m.number (knows_key m.tree p w)))

pub key_from_labels : KeyFromLabels
key_from_labels h log once own labels g p =
    let t = label_of g h p in (
      (λ x. (known_decides own t).0 (not-false (known own t) (sym (hidden_key own h log g p) ∙ gets_not_hidden own h log once labels x))),
      knows_key own h log g p,
    )

pub session_from_labels : SessionFromLabels
unfolding sum
session_from_labels h log once own labels s = (
  (λ x. opened (gets_not_hidden own h log once labels x), opens_gets own h log s),
  (λ x. opened (gets_not_hidden own h log once labels x), λ w. middle (opens_gets own h log s w)),
)
  where
    opened : hidden own h log (Session s) ≡ false → OpensSome own h s log
    opened e = (shown_decides own h log s).0 (not-false (shown own h log s) e)

-- the headers of a sending's show are its sendings' own
pub own_signal : (h : ℕ) (ss : List Sending) (ts : List Trial) → Apart ss ts → (own : List Term) (m : Sending) → m ∈ ss →
    OpensSome own h m.session (signals h ss ts) → OpensSome own h m.session (map (as_trial h) ss)
own_signal h ss ts apart own m k (t, q, (e, w)) =
    ⊎_elim (λ r. (t, r, (e, w))) (λ r. absurd (apart m t k r (sym e))) (Memᴰ.append_cases (map (as_trial h) ss) q)

pub trials_give_nothing : TrialsGiveNothing
trials_give_nothing h ss ts once apart own labels m k = (
  (λ x. let w = own_signal h ss ts apart own m k ((session_from_labels h (signals h ss ts) once own labels m.session).1.0 x) in
      middle (opens_gets own h (signals h ss []) m.session (w.0, Memᴰ.append_left [] w.1, w.2))),
  more_air own h (signals h ss []) (signals h ss ts) (show_key m.session)
      (λ t q. ⊎_elim (Memᴰ.append_left ts) (λ r. absurd (Memᴰ.not-nil r)) (Memᴰ.append_cases (map (as_trial h) ss) q)),
)
