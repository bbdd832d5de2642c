-- Which starts are kept for some receivers. Assumes nothing.
use Rattle.std.specs.Prelude.{◌≡◌, ℕ, ◌+◌, ◌*◌, ◌/◌, ◌≤◌, Bool, false, ◌&&◌, ◌||◌, T, List, [], ◌∷◌, length, ◌==◌, nat_lt}
use Rattle.tree.specs.Nodes.{leaf, below}
use Rattle.tree.specs.Receivers.{is_in, rising}

-- whether node i is above the own node of one of the receivers
unfoldable pub above_some : ℕ → List ℕ → ℕ → Bool
above_some h [] i = false
above_some h (u ∷ us) i = (nat_lt 0 i && below h i (leaf h u / 2)) || above_some h us i

-- whether the start of i is kept for the receivers: that of 0 is, and those of the nodes above them
abbrev pub is_kept : ℕ → List ℕ → ℕ → Bool
is_kept h us i = i == 0 || above_some h us i

-- the nodes whose starts are kept, each once, from the least on; for each receiver they are at most h, and 0
pub record KeptNodes (h : ℕ) (us nodes : List ℕ) : Type 0 where
  pub rises : T (rising nodes)
  pub exact : (i : ℕ) → is_in i nodes ≡ is_kept h us i
  pub few : length nodes ≤ 1 + h * length us
