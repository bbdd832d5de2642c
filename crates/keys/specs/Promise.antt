-- What is promised of bytes that are worked out, and of the questions for them: both are those of terms. Assumes nothing.
use Rattle.std.specs.Prelude.{◌≡◌, ℕ, ◌<◌, cond, T, List, [], ◌∷◌, ◌++◌, map}
use Rattle.tree.specs.declared.parts.Part.{Part}
use Rattle.tree.specs.Nodes.{below}
pub use Rattle.tree.specs.Numbers.{last_number}
use Rattle.tree.specs.Parts.{proper}
use Rattle.secrecy.specs.Terms.{Term, Start, Pad, Check, label, label_of, key}
use Rattle.secrecy.specs.Worlds.{World, Point, bytes}
use Rattle.keys.specs.Asking.{point, Asked}
use Rattle.keys.specs.Drawn.{Draws, world}
use Rattle.keys.specs.Down.{nodes_down, passed}

-- whatever was drawn: where the one are the bytes of a term, the other are those of what `step` makes of it
abbrev pub WorksOut : (List ℕ → ℕ → List ℕ) → (Term → Term) → List ℕ → List ℕ → Type 0
WorksOut f step from to = (d : Draws) (t : Term) → from ≡ bytes (world f d) t → to ≡ bytes (world f d) (step t)

-- the 48 bytes that a key gives at number n: those of the pad, and then those of the check
abbrev pub PadAndCheck : (List ℕ → ℕ → List ℕ) → ℕ → List ℕ → List ℕ → Type 0
PadAndCheck f n from to = (d : Draws) (t : Term) → from ≡ bytes (world f d) t → to ≡ bytes (world f d) (Pad t n) ++ bytes (world f d) (Check t n)

-- in a tree of height h, from a label of node i under any node to that of node j under the same one
abbrev pub LabelDown : (List ℕ → ℕ → List ℕ) → ℕ → ℕ → ℕ → List ℕ → List ℕ → Type 0
LabelDown f h i j from to =
    (d : Draws) (g root : ℕ) → 0 < root → T (below h root i) → from ≡ bytes (world f d) (label g h root i) → to ≡ bytes (world f d) (label g h root j)

-- in a tree of height h, from the start of a part's first node to the part's key
abbrev pub PartKey : (List ℕ → ℕ → List ℕ) → ℕ → Part → List ℕ → List ℕ → Type 0
PartKey f h p from to = (d : Draws) (g : ℕ) → from ≡ bytes (world f d) (Start g p.first) → to ≡ bytes (world f d) (key g h p)

-- the questions for block c of these terms
abbrev pub points : World → ℕ → List Term → List Point
points w c ts = map (λ t. point (bytes w t) c) ts

-- asked for just the blocks that lead from a label through these nodes
abbrev pub AskedDown : {S : Type 0} → (List ℕ → ℕ → List ℕ) → (S → Point → S → Type 0) → List ℕ → List ℕ → S → S → Type 0
AskedDown f steps nodes from s u =
    (d : Draws) (t : Term) → from ≡ bytes (world f d) t → Asked steps s (points (world f d) 0 (passed nodes t)) u

-- the questions that lead from the start of a part's first node to the part's key
abbrev pub key_points : World → ℕ → ℕ → Part → List Point
key_points w g h p = points w 0 (passed (nodes_down h p.first p.second) (Start g p.first)) ++ points w 1 (label_of g h p ∷ [])

-- asked for just these, or for nothing where the part is not proper
abbrev pub AskedKey : {S : Type 0} → (List ℕ → ℕ → List ℕ) → (S → Point → S → Type 0) → ℕ → Part → List ℕ → S → S → Type 0
AskedKey f steps h p from s u =
    (d : Draws) (g : ℕ) → from ≡ bytes (world f d) (Start g p.first) → Asked steps s (cond (proper h p) (key_points (world f d) g h p) []) u
