-- The kept nodes as they are made: level by level, and on a level receiver by receiver. Assumes nothing.
use Rattle.std.specs.Prelude.{ℕ, zero, suc, ◌-◌, ◌/◌, ◌^◌, cond, List, [], ◌∷◌, ◌++◌, map, ◌==◌}
use Rattle.tree.specs.Nodes.{leaf}

-- the node above receiver u that is l steps below the top
abbrev pub node_on : ℕ → ℕ → ℕ → ℕ
node_on h l u = leaf h u / 2 ^ (h - l)

-- the numbers without those that are the same as the one before them, which for the first is `last`
unfoldable pub unrepeated : ℕ → List ℕ → List ℕ
unrepeated last [] = []
unrepeated last (x ∷ xs) = cond (x == last) (unrepeated last xs) (x ∷ unrepeated x xs)

-- the nodes above the receivers that are l steps below the top
abbrev pub level_above : ℕ → List ℕ → ℕ → List ℕ
level_above h us l = unrepeated 0 (map (node_on h l) us)

-- 0, and the nodes above the receivers that are fewer than l steps below the top
unfoldable pub levels_above : ℕ → List ℕ → ℕ → List ℕ
levels_above h us zero = 0 ∷ []
levels_above h us (suc l) = levels_above h us l ++ level_above h us l
