-- A list of the first questions to a cipher, as many as it has room for. Assumes nothing.
use Rattle.std.specs.Prelude.{◌≡◌, ℕ, ◌+◌, ◌<◌, ◌≤◌, List, [], ◌∷◌, ◌++◌, map, length, take}
use Rattle.secrecy.specs.Worlds.{Point}
use Rattle.keys.specs.Asking.{Asked}
use Rattle.keys.specs.declared.logged.Question.{Question}
use Rattle.keys.specs.declared.logged.Logged.{Logged}

-- how many questions a list has room for
abbrev pub room : ℕ
room = 64

-- a question as the list has it
abbrev pub question : Point → Question
question p = record { key = p.at; counter = p.counter }

-- the questions that were asked, the first one first
abbrev pub log_of : Logged → List Question
log_of s = take s.len s.questions

-- the question stands behind those before it, while there is room
abbrev pub logs : Logged → Point → Logged → Type 0
logs s p t = s.len < room → (t.len ≡ s.len + 1) × (log_of t ≡ log_of s ++ question p ∷ [])

-- where a cipher was asked at some points, just these stand in its list, in this order
abbrev pub LogExact : Type 0
LogExact = (s t : Logged) (ps : List Point) → Asked logs s ps t → s.len + length ps ≤ room → log_of t ≡ log_of s ++ map question ps
