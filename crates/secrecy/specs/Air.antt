-- Sendings and trials, and all that is sent. Assumes nothing.
use Rattle.std.specs.Prelude.{ℕ, suc, T, List, [], ◌∷◌, ◌++◌, map, take, drop}
use Rattle.std.specs.List.{flat_map}
use Rattle.tree.specs.declared.parts.Part.{Part}
use Rattle.tree.specs.Cover.{cover}
use Rattle.secrecy.specs.Lists.{different}
use Rattle.secrecy.specs.Terms.{Term, Pad, Check, Session, Noise, Xor, key}

-- a sending: its tree, its number, which draw its session key is, and who is revoked
pub record Sending : Type 0 where
  pub tree : ℕ
  pub number : ℕ
  pub session : ℕ
  pub revoked : List ℕ

-- a trial: its tree, its number, which draw its session key is, its parts, and how many of its first headers are false
pub record Trial : Type 0 where
  pub tree : ℕ
  pub number : ℕ
  pub session : ℕ
  pub parts : List Part
  pub falses : ℕ

-- a sending is on the air as a trial of its cover's parts with none false
abbrev pub as_trial : ℕ → Sending → Trial
as_trial h m = record { tree = m.tree; number = m.number; session = m.session; parts = cover h m.revoked; falses = 0 }

-- the parts whose headers are false, and those whose headers are true
abbrev pub false_parts : Trial → List Part
false_parts m = take m.falses m.parts

abbrev pub true_parts : Trial → List Part
true_parts m = drop m.falses m.parts

-- a true header: the session key under the pad of the part's key, and sixteen zeros under the check
abbrev pub header : ℕ → Trial → Part → List Term
header h m p = Xor (Pad (key m.tree h p) m.number) (Session m.session) ∷ Check (key m.tree h p) m.number ∷ []

-- false headers under number n, one for each part, the first at place i: bytes drawn afresh
unfoldable pub noises : ℕ → ℕ → List Part → List Term
noises n i [] = []
noises n i (p ∷ ps) = Noise n i ∷ noises n (suc i) ps

-- what is sent of a trial: its headers, in order
abbrev pub sent : ℕ → Trial → List Term
sent h m = noises m.number 0 (false_parts m) ++ flat_map (header h m) (true_parts m)

-- all that is on the air
abbrev pub air : ℕ → List Trial → List Term
air h log = flat_map (sent h) log

-- sendings and trials, as one list
abbrev pub signals : ℕ → List Sending → List Trial → List Trial
signals h ss ts = map (as_trial h) ss ++ ts

-- what pirates have: some labels, and all that is on the air
abbrev pub view : List Term → ℕ → List Trial → List Term
view own h log = own ++ air h log

-- no number is used twice
abbrev pub Once : List Trial → Type 0
Once log = T (different (map (λ (m : Trial). m.number) log))
