-- A receiver's way up the tree, and what hangs off it. Assumes nothing.
use Rattle.std.specs.Prelude.{ℕ, zero, suc, pred, ◌+◌, ◌/◌, ◌%◌, cond, List, [], ◌∷◌, ◌++◌, ◌==◌}
use Rattle.tree.specs.declared.parts.Part.{Part}
use Rattle.tree.specs.Nodes.{leaf}
use Rattle.tree.specs.Parts.{part}

-- the other node below the same one
abbrev pub sibling : ℕ → ℕ
sibling x = cond (x % 2 == 0) (x + 1) (pred x)

-- under node i, d nodes that hang off the way up from x: the one beside x, then the one beside the node above x, and so on
unfoldable pub hanging : ℕ → ℕ → ℕ → List Part
hanging zero i x = []
hanging (suc d) i x = part i (sibling x) ∷ hanging d i (x / 2)

-- the same for k nodes, of which i, d steps above x, is the first and each other is above the one before: what hangs off the way from it
-- down to x
unfoldable pub above : ℕ → ℕ → ℕ → ℕ → List Part
above zero d i x = []
above (suc k) d i x = hanging d i x ++ above k (suc d) (i / 2) x

-- for each node above receiver u's own, from below upwards, with each node that hangs off the receiver's way below it
abbrev pub way : ℕ → ℕ → List Part
way h u = above h 1 (leaf h u / 2) (leaf h u)
