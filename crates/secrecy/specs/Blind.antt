-- What is promised over bytes, for any computation and any block function. Assumes nothing.
use Rattle.std.specs.Prelude.{◌≡◌, ℕ, suc, ◌+◌, ◌^◌, ◌<◌, T, List, ◌++◌, length, take, replicate, ◌≢◌}
use Rattle.std.specs.List.{flat_map}
use Rattle.tree.specs.declared.parts.Part.{Part}
use Rattle.tree.specs.Receivers.{all_below}
use Rattle.secrecy.specs.Lists.{◌∈◌}
use Rattle.secrecy.specs.Terms.{Term, Session, key, show_key}
use Rattle.secrecy.specs.Held.{held_by, Labels}
use Rattle.secrecy.specs.Air.{Sending, Trial, header, signals, view, Once}
use Rattle.secrecy.specs.Worlds.{Bytes, xors, World, Real, bytes, seen, Strategy, Point, answer, asked, OpensAt, secrets, in_use}
use Rattle.secrecy.specs.Promise.{OpensSome, SomeoneLeftOnce, Sound}

-- The terms of a true header are its 48 bytes: the session key and sixteen zero bytes, added bit by bit to the block of the part's
-- key with the number and 2 more.
abbrev pub HeaderBytes : Type 0
HeaderBytes =
    (w : World) → Real w → (h : ℕ) (m : Trial) (p : Part) →
    flat_map (bytes w) (header h m p) ≡
    xors (take 48 (w.block (bytes w (key m.tree h p)) (suc (suc m.number)))) (w.session m.session ++ replicate 16 0)

-- There are worlds.
abbrev pub SomeWorld : Type 0
SomeWorld = (w : World) × Real w

-- a computation, from what is seen
abbrev pub Run : Type 0
Run = List (List ℕ) → Strategy

-- what a computation answers in a world from these terms, and what it asks on the way
abbrev pub answers : World → List Term → Run → List ℕ
answers w have run = answer w.block (run (seen w have))

abbrev pub asks : World → List Term → Run → List Point
asks w have run = asked w.block (run (seen w have))

-- a world with session key s' for draw s and all other draws of session keys and noise as in w, of which one sees the same
pub record Other (have : List Term) (s : ℕ) (s' : List ℕ) (w w' : World) : Type 0 where
  pub real : Real w'
  pub session : w'.session s ≡ s'
  pub sight : seen w' have ≡ seen w have
  pub sessions : (t : ℕ) → (t ≢ s) → w'.session t ≡ w.session t
  pub noises : (n i : ℕ) → w'.noise n i ≡ w.noise n i

-- Any session key at all fits what is seen, with the same starts and the same blocks but for those under its own headers. So a computation
-- that asks for none of these answers the same, whatever the session key.
abbrev pub Covered : Type 0
Covered =
    (h : ℕ) (log : List Trial) → Once log → (own : List Term) → Labels own → (w : World) → Real w → (s : ℕ) (s' : List ℕ) → Bytes 32 s' →
    (w' : World) × Other (view own h log) s s' w w' × ((g i : ℕ) → w'.start g i ≡ w.start g i) ×
    ((k : List ℕ) (c : ℕ) → (OpensAt (bytes w) h s log k c → ⊥) → w'.block k c ≡ w.block k c) ×
    ((run : Run) → ((q : Point) → q ∈ asks w (view own h log) run → OpensAt (bytes w) h s log q.at q.counter → ⊥) →
    answers w' (view own h log) run ≡ answers w (view own h log) run)

-- fresh values for some terms: pairwise different, and none of them the bytes of a term in use or a key that was asked at
pub record Fresh (w : World) (hide used : List Term) (qs : List Point) (value : Term → List ℕ) : Type 0 where
  pub sized : (t : Term) → Bytes 32 (value t)
  pub apart : (t u : Term) → t ∈ hide → u ∈ hide → value t ≡ value u → t ≡ u
  pub unused : (t u : Term) → t ∈ hide → u ∈ used → value t ≢ bytes w u
  pub unasked : (t : Term) (q : Point) → t ∈ hide → q ∈ qs → value t ≢ q.at

-- Let the labels in hand open no true header with the session key of draw s. Then, whatever is computed, every choice of fresh values
-- fits: there is a world in which the show's key, the session key, its headers' keys and the labels that they come from have just
-- these values, and the computation sees the same, asks the same and answers the same.
abbrev pub Blind : Type 0
Blind =
    (h : ℕ) (log : List Trial) → Once log → (own : List Term) → Labels own → (s : ℕ) → (OpensSome own h s log → ⊥) →
    (w : World) → Real w → (run : Run) →
    (value : Term → List ℕ) → Fresh w (secrets h s log) (in_use own h s log) (asks w (view own h log) run) value →
    (w' : World) × Other (view own h log) s (value (Session s)) w w' × ((t : Term) → t ∈ secrets h s log → bytes w' t ≡ value t) ×
    (asks w' (view own h log) run ≡ asks w (view own h log) run) × (answers w' (view own h log) run ≡ answers w (view own h log) run)

-- in a world with another session key that one cannot tell from w, the computation does all the same, and finds neither the session key nor
-- the show's key
pub record Misses (have : List Term) (s : ℕ) (w : World) (run : Run) : Type 0 where
  pub elsewhere : World
  pub looks_same : Other have s (elsewhere.session s) w elsewhere
  pub another : elsewhere.session s ≡ w.session s → ⊥
  pub same_asks : asks elsewhere have run ≡ asks w have run
  pub same_answer : answers elsewhere have run ≡ answers w have run
  pub not_session : answers elsewhere have run ≡ elsewhere.session s → ⊥
  pub not_show : answers elsewhere have run ≡ bytes elsewhere (show_key s) → ⊥

-- the computation finds the show's key in every world
abbrev pub Finds : List Term → ℕ → Run → Type 0
Finds have s run = (w : World) → Real w → answers w have run ≡ bytes w (show_key s)

-- its questions, with all that is in use, are fewer than there are values of 32 bytes
abbrev pub Bounded : List Term → ℕ → ℕ → List Trial → World → Run → Type 0
Bounded own h s log w run = suc (length (asks w (view own h log) run) + length (in_use own h s log) + length (secrets h s log)) < 2 ^ 256

-- So nothing that is computed from labels that open none of its headers finds the session key or the show's key.
abbrev pub Unfound : Type 0
Unfound =
    (h : ℕ) (log : List Trial) → Once log → (own : List Term) → Labels own → (s : ℕ) → (OpensSome own h s log → ⊥) →
    (w : World) → Real w → (run : Run) → Bounded own h s log w run → Misses (view own h log) s w run

-- And with labels that open one of them, one computation finds the show's key, whatever the block function.
abbrev pub Found : Type 0
Found = (h : ℕ) (log : List Trial) (own : List Term) (s : ℕ) → OpensSome own h s log → (run : Run) × Finds (view own h log) s run

-- Over all sendings and trials: receivers together find the show's key of a sending if one of them was not revoked in a sending of it,
-- and else nothing that they compute finds it.
abbrev pub ShowsBytes : Type 0
ShowsBytes =
    (gs : List ℕ) (h : ℕ) (ss : List Sending) (ts : List Trial) → Sound gs h ss ts → (who : List ℕ) → T (all_below (2 ^ h) who) →
    (m : Sending) → m ∈ ss →
    (SomeoneLeftOnce who m.session ss → (run : Run) × Finds (view (held_by gs h who) h (signals h ss ts)) m.session run) ×
    ((SomeoneLeftOnce who m.session ss → ⊥) → (w : World) → Real w → (run : Run) →
    Bounded (held_by gs h who) h m.session (signals h ss ts) w run →
    Misses (view (held_by gs h who) h (signals h ss ts)) m.session w run)

-- So whoever has a computation that finds a show's key in every world has a receiver that was not revoked in a sending of it.
abbrev pub OnlyLeft : Type 0
OnlyLeft =
    (gs : List ℕ) (h : ℕ) (ss : List Sending) (ts : List Trial) → Sound gs h ss ts → (who : List ℕ) → T (all_below (2 ^ h) who) →
    (m : Sending) → m ∈ ss → (w : World) → Real w → (run : Run) →
    Bounded (held_by gs h who) h m.session (signals h ss ts) w run →
    Finds (view (held_by gs h who) h (signals h ss ts)) m.session run → SomeoneLeftOnce who m.session ss
