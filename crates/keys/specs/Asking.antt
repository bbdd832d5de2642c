-- At which points a block function was asked. Assumes nothing.
use Rattle.std.specs.Prelude.{◌≡◌, ℕ, List, [], ◌∷◌}
use Rattle.secrecy.specs.Worlds.{Point}

-- the question for the block of a key at a counter
abbrev pub point : List ℕ → ℕ → Point
point key c = record { at = key; counter = c }

-- a cipher came from s to t by being asked at these points, one after the other, where `steps s p u` says that a question at p took it from s to u
abbrev pub Asked : {S : Type 0} → (S → Point → S → Type 0) → S → List Point → S → Type 0
Asked steps s [] t = s ≡ t
Asked {S = S} steps s (p ∷ ps) t = (u : S) × steps s p u × Asked steps u ps t
