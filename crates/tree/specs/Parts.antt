-- Parts: sets of receivers that one key serves. Assumes nothing.
use Rattle.std.specs.Prelude.{ℕ, ◌+◌, Bool, true, cond, not, ◌&&◌, ◌||◌, List, [], ◌∷◌, ◌==◌}
use Rattle.tree.specs.declared.parts.Part.{Part}
use Rattle.tree.specs.Nodes.{leaf, below, in_tree}

abbrev pub part : ℕ → ℕ → Part
part i j = record { first = i; second = j }

-- the part (0, 0), which has all receivers
abbrev pub is_all : Part → Bool
is_all p = p.first == 0 && p.second == 0

-- whether receiver u is in the part: at or below first, and not at or below second; or the part has all
abbrev pub holds : ℕ → ℕ → Part → Bool
holds h u p = cond (p.first == 0) true (below h p.first (leaf h u) && not (below h p.second (leaf h u)))

-- whether second is strictly below first
abbrev pub descends : ℕ → Part → Bool
descends h p = below h p.first p.second && not (p.first == p.second)

-- a part that a tree of height h can have: (0, 0), or a node of the tree and one strictly below it
abbrev pub proper : ℕ → Part → Bool
proper h p = is_all p || (in_tree h p.first && in_tree h p.second && descends h p)

-- in how many of the parts receiver u is
unfoldable pub in_how_many : ℕ → ℕ → List Part → ℕ
in_how_many h u [] = 0
in_how_many h u (p ∷ ps) = cond (holds h u p) 1 0 + in_how_many h u ps
