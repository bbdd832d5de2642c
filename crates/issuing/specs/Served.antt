-- For which receivers there are starts enough. Assumes nothing.
use Rattle.std.specs.Prelude.{◌≡◌, ℕ, zero, suc, ◌/◌, ◌^◌, ◌<◌, Bool, true, ◌&&◌, T, List, [], nat_lt, slice_index_or}
use Rattle.tree.specs.Nodes.{leaf}
use Rattle.tree.specs.Receivers.{is_in, list_faults}
use Rattle.starts.specs.Format.{start_in}
use Rattle.starts.specs.Kept.{is_kept}

-- whether the starts of the n nodes above x were kept for the receivers us
unfoldable pub all_kept : ℕ → List ℕ → ℕ → ℕ → Bool
all_kept h us x zero = true
all_kept h us x (suc n) = all_kept h us x n && is_kept h us (x / 2 ^ suc n)

-- whether u is a receiver of the tree with the starts of all nodes above it kept
abbrev pub is_served : ℕ → List ℕ → ℕ → Bool
is_served h us u = nat_lt u (2 ^ h) && all_kept h us (leaf h u) h

-- Each of the receivers for whom starts were kept is served.
abbrev pub AskedServed : Type 0
AskedServed = (h : ℕ) (us : List ℕ) (u : ℕ) → list_faults h us ≡ [] → T (is_in u us) → is_served h us u ≡ true

-- the starts of the n nodes above x, from below upwards, all of which were kept
abbrev pub AllAbove : ℕ → List ℕ → List ℕ → ℕ → ℕ → List (List ℕ) → Type 0
AllAbove h us s x n starts = (all_kept h us x n ≡ true) × ((k : ℕ) → k < n → slice_index_or starts k [] ≡ start_in s (x / 2 ^ suc k))
