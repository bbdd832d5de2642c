-- Ways down the tree, and what is made of a term on such a way. Assumes nothing.
use Rattle.std.specs.Prelude.{ℕ, zero, suc, ◌/◌, ◌^◌, Bool, cond, ◌&&◌, List, [], ◌∷◌, ◌==◌, nat_lt}
use Rattle.tree.specs.Nodes.{below}
use Rattle.secrecy.specs.Terms.{Term, side}

-- whether j is at or below node i in a tree of height h; 0 is no node
abbrev pub reaches : ℕ → ℕ → ℕ → Bool
reaches h i j = nat_lt 0 i && below h i j

-- how many steps j is below i, of at most k
unfoldable pub steps_down : ℕ → ℕ → ℕ → ℕ
steps_down zero i j = 0
steps_down (suc k) i j = cond (i == j) 0 (suc (steps_down k i (j / 2)))

-- the last n nodes on the way from the top down to j
abbrev pub last_nodes : ℕ → ℕ → List ℕ
last_nodes zero j = []
last_nodes (suc n) j = (j / 2 ^ n) ∷ last_nodes n j

-- the nodes on the way from i down to j, without i itself
abbrev pub nodes_down : ℕ → ℕ → ℕ → List ℕ
nodes_down h i j = last_nodes (steps_down h i j) j

-- a term taken left or right to each of these nodes
abbrev pub down : List ℕ → Term → Term
down [] t = t
down (x ∷ xs) t = down xs (side x t)

-- the terms that are left behind on that way
abbrev pub passed : List ℕ → Term → List Term
passed [] t = []
passed (x ∷ xs) t = t ∷ passed xs (side x t)
