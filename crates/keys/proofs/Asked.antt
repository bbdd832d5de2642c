-- Questions one after the other. Assumes nothing.
use Rattle.std.proofs.Common.{List, [], ◌∷◌, ◌++◌}
use Rattle.secrecy.specs.Worlds.{Point}
use Rattle.keys.specs.Asking.{Asked}

-- asked at some points, and then at more
pub asked_more : {S : Type 0} (steps : S → Point → S → Type 0) (ps qs : List Point) (s t u : S) → Asked steps s ps t → Asked steps t qs u → Asked steps s (ps ++ qs) u
asked_more steps [] qs s t u e b = rw e b
asked_more steps (p ∷ ps) qs s t u (v, a, r) b = (v, a, asked_more steps ps qs v t u r b)
