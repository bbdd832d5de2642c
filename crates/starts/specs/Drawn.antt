-- Starts as draws. Assumes nothing.
use Rattle.std.specs.Prelude.{◌≡◌, ℕ, suc, ◌^◌, ◌<◌, List}
use Rattle.keys.specs.Drawn.{Draws}
use Rattle.starts.specs.Format.{start_in}

-- the starts of tree g, of height h, were drawn as the file s has them
abbrev pub DrawnIn : List ℕ → ℕ → ℕ → Draws → Type 0
DrawnIn s g h d = (i : ℕ) → i < 2 ^ suc h → d.start g i ≡ start_in s i
