-- A state as four rows of words, and of which list of sixteen words it is the state. Assumes nothing.
use Rattle.std.specs.Prelude.{ℕ, List, [], ◌∷◌, slice_index}
use Rattle.chacha.specs.declared.State.{State}
use Rattle.chacha.specs.Rfc8439.{Four}

-- the words at one place of the four rows
abbrev pub column : State → ℕ → Four
column s k = (slice_index s.a k, slice_index s.b k, slice_index s.c k, slice_index s.d k)

-- the words, one row's after the other's
abbrev pub words : State → List ℕ
words s =
    slice_index s.a 0 ∷ slice_index s.a 1 ∷ slice_index s.a 2 ∷ slice_index s.a 3
    ∷ slice_index s.b 0 ∷ slice_index s.b 1 ∷ slice_index s.b 2 ∷ slice_index s.b 3
    ∷ slice_index s.c 0 ∷ slice_index s.c 1 ∷ slice_index s.c 2 ∷ slice_index s.c 3
    ∷ slice_index s.d 0 ∷ slice_index s.d 1 ∷ slice_index s.d 2 ∷ slice_index s.d 3
    ∷ []
