-- What a receiver's labels come from. Assumes nothing.
use Rattle.std.specs.Prelude.{◌≡◌, ℕ, suc, ◌/◌, ◌^◌, ◌<◌, true, List, [], slice_index_or}
use Rattle.tree.specs.Nodes.{leaf}
use Rattle.starts.specs.Format.{start_in}
use Rattle.issuing.specs.declared.file.Sources.{Sources}
use Rattle.issuing.specs.Served.{is_served}

-- the starts of the file s that receiver u needs, all of which were kept for the receivers us
pub record GatheredFor (h : ℕ) (us s : List ℕ) (u : ℕ) (v : Sources) : Type 0 where
  pub served : is_served h us u ≡ true
  pub height : v.height.levels ≡ h
  pub receiver : v.receiver ≡ u
  pub all : v.all ≡ start_in s 0
  pub above : (k : ℕ) → k < h → slice_index_or v.above k [] ≡ start_in s (leaf h u / 2 ^ suc k)
