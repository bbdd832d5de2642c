-- What is promised over terms: who can work out what, over all that is ever sent. A proof of such a type is the theorem. Assumes nothing.
use Rattle.std.specs.Prelude.{◌≡◌, ℕ, ◌+◌, ◌*◌, ◌^◌, ◌<◌, not, T, ◌↔◌, List, [], ◌∷◌, map, length, ◌≢◌}
use Rattle.tree.specs.declared.parts.Part.{Part}
use Rattle.tree.specs.Receivers.{is_in, all_below}
use Rattle.tree.specs.Parts.{holds, proper}
use Rattle.tree.specs.Cover.{cover}
use Rattle.secrecy.specs.Lists.{◌∈◌, Within, different}
use Rattle.secrecy.specs.Terms.{Term, Session, label_of, key, show_key}
use Rattle.secrecy.specs.Held.{held, held_by, Labels, Knows}
use Rattle.secrecy.specs.Air.{Sending, Trial, true_parts, signals, view, Once}
use Rattle.secrecy.specs.Gets.{Gets}

-- Labels in hand, whatever they are.

-- the labels give that of a part with a true header
abbrev pub Opens : List Term → ℕ → Trial → Type 0
Opens own h m = (p : Part) × (p ∈ true_parts m) × Knows own (label_of m.tree h p)

-- they do so in a signal with the session key of draw s
abbrev pub OpensSome : List Term → ℕ → ℕ → List Trial → Type 0
OpensSome own h s log = (m : Trial) × (m ∈ log) × ((m.session ≡ s) × Opens own h m)

-- With all that is on the air, the key of a part can be worked out exactly if the labels give the part's label.
abbrev pub KeyFromLabels : Type 0
KeyFromLabels =
    (h : ℕ) (log : List Trial) → Once log → (own : List Term) → Labels own → (g : ℕ) (p : Part) →
    Gets (view own h log) (key g h p) ↔ Knows own (label_of g h p)

-- With all that is on the air, a session key can be worked out exactly if the labels open a true header under which it was sent; and
-- so can the show's key.
abbrev pub SessionFromLabels : Type 0
SessionFromLabels =
    (h : ℕ) (log : List Trial) → Once log → (own : List Term) → Labels own → (s : ℕ) →
    (Gets (view own h log) (Session s) ↔ OpensSome own h s log) × (Gets (view own h log) (show_key s) ↔ OpensSome own h s log)

-- no session key is both a sending's and a trial's
abbrev pub Apart : List Sending → List Trial → Type 0
Apart ss ts = (m : Sending) (t : Trial) → m ∈ ss → t ∈ ts → m.session ≢ t.session

-- Trials give away no show: without them just the same shows of sendings can be worked out.
abbrev pub TrialsGiveNothing : Type 0
TrialsGiveNothing =
    (h : ℕ) (ss : List Sending) (ts : List Trial) → Once (signals h ss ts) → Apart ss ts → (own : List Term) → Labels own →
    (m : Sending) → m ∈ ss →
    Gets (view own h (signals h ss ts)) (show_key m.session) ↔ Gets (view own h (signals h ss [])) (show_key m.session)

-- Receivers, with what they hold.

-- What receivers hold are labels.
abbrev pub HeldLabels : Type 0
HeldLabels = (gs : List ℕ) (h : ℕ) (who : List ℕ) → Labels (held_by gs h who)

-- A receiver holds one more than h (h + 1) / 2 labels.
abbrev pub HeldCount : Type 0
HeldCount = (g h u : ℕ) → 2 * length (held g h u) ≡ h * (h + 1) + 2

-- somebody of who is in the part
abbrev pub SomeoneIn : ℕ → List ℕ → Part → Type 0
SomeoneIn h who p = (u : ℕ) × (u ∈ who) × T (holds h u p)

-- With all that is on the air, receivers together can work out the key of a part exactly if one of them is in it.
abbrev pub KeyExact : Type 0
KeyExact =
    (gs : List ℕ) (h : ℕ) (log : List Trial) → Once log → (who : List ℕ) → T (all_below (2 ^ h) who) →
    (g : ℕ) → g ∈ gs → (p : Part) → T (proper h p) →
    Gets (view (held_by gs h who) h log) (key g h p) ↔ SomeoneIn h who p

-- somebody of who was not revoked in the sending
abbrev pub SomeoneLeft : List ℕ → Sending → Type 0
SomeoneLeft who m = (u : ℕ) × (u ∈ who) × T (not (is_in u m.revoked))

-- somebody of who was not revoked in at least one of the sendings with the session key of draw s
abbrev pub SomeoneLeftOnce : List ℕ → ℕ → List Sending → Type 0
SomeoneLeftOnce who s ss = (m : Sending) × (m ∈ ss) × ((m.session ≡ s) × SomeoneLeft who m)

-- what sendings and trials must keep to: no number is used twice, no session key is both a sending's and a trial's, and each sending
-- is in one of the trees
pub record Sound (gs : List ℕ) (h : ℕ) (ss : List Sending) (ts : List Trial) : Type 0 where
  pub once : Once (signals h ss ts)
  pub apart : Apart ss ts
  pub trees : (m : Sending) → m ∈ ss → m.tree ∈ gs

-- Over all sendings and trials, receivers together get the show's key of a sending exactly if one of them was not revoked in at least
-- one of the sendings with its session key.
abbrev pub Shows : Type 0
Shows =
    (gs : List ℕ) (h : ℕ) (ss : List Sending) (ts : List Trial) → Sound gs h ss ts → (who : List ℕ) → T (all_below (2 ^ h) who) →
    (m : Sending) → m ∈ ss →
    Gets (view (held_by gs h who) h (signals h ss ts)) (show_key m.session) ↔ SomeoneLeftOnce who m.session ss

-- Where no session key is used again: exactly if one of them was not revoked in that sending.
abbrev pub ShowsOnce : Type 0
ShowsOnce =
    (gs : List ℕ) (h : ℕ) (ss : List Sending) (ts : List Trial) → Sound gs h ss ts → T (different (map (λ (m : Sending). m.session) ss)) →
    (who : List ℕ) → T (all_below (2 ^ h) who) → (m : Sending) → m ∈ ss →
    Gets (view (held_by gs h who) h (signals h ss ts)) (show_key m.session) ↔ SomeoneLeft who m

-- Why no number may be used twice: of two sendings under one number that share a part, whoever is not revoked in the first gets the show
-- of the second, revoked in it or not.
abbrev pub NumberTwice : Type 0
NumberTwice =
    (h : ℕ) (a b : Sending) → a.number ≡ b.number → a.tree ≡ b.tree →
    (p : Part) → p ∈ cover h a.revoked → p ∈ cover h b.revoked →
    (u : ℕ) → u < 2 ^ h → T (not (is_in u a.revoked)) →
    Gets (view (held_by (a.tree ∷ []) h (u ∷ [])) h (signals h (a ∷ b ∷ []) [])) (show_key b.session)

-- More receivers, or the same in more trees, get no less.
abbrev pub MoreReceivers : Type 0
MoreReceivers =
    (gs gs' : List ℕ) (h : ℕ) (who who' : List ℕ) (log : List Trial) (t : Term) → Within gs gs' → Within who who' →
    Gets (view (held_by gs h who) h log) t → Gets (view (held_by gs' h who') h log) t

-- More on the air gives no less.
abbrev pub MoreAir : Type 0
MoreAir =
    (own : List Term) (h : ℕ) (log log' : List Trial) (t : Term) → Within log log' → Gets (view own h log) t → Gets (view own h log') t
