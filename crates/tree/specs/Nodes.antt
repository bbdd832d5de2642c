-- The nodes of the tree of receivers. Assumes nothing.
use Rattle.std.specs.Prelude.{ℕ, zero, suc, ◌+◌, ◌-◌, ◌*◌, ◌/◌, ◌^◌, ◌<◌, ◌≤◌, Bool, ◌&&◌, ◌||◌, ◌==◌, nat_lt}

-- The top is node 1, and the two nodes below i are 2 i and 2 i + 1. A tree of height h has the receivers 0 to 2^h - 1,
-- and receiver u stands at node 2^h + u.
abbrev pub leaf : ℕ → ℕ → ℕ
leaf h u = 2 ^ h + u

-- whether node x is at or below node i, at most k steps down
unfoldable pub below : ℕ → ℕ → ℕ → Bool
below zero i x = i == x
below (suc k) i x = i == x || below k i (x / 2)

-- whether i is a node of a tree of height h
abbrev pub in_tree : ℕ → ℕ → Bool
in_tree h i = nat_lt 0 i && nat_lt i (2 ^ suc h)

-- trees are at most this high
abbrev pub max_height : ℕ
max_height = 16

-- node i is d steps below the top
abbrev pub Level : ℕ → ℕ → Type 0
Level d i = (2 ^ d ≤ i) × (i < 2 ^ suc d)

-- node i has k levels below it, in a tree of height h
abbrev pub Stands : ℕ → ℕ → ℕ → Type 0
Stands h k i = (k ≤ h) × (h ≤ max_height) × Level (h - k) i

-- the first receiver below node i, which has k levels below it
abbrev pub first_below : ℕ → ℕ → ℕ → ℕ
first_below h k i = i * 2 ^ k - 2 ^ h
