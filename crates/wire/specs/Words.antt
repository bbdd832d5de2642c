-- Numbers as four bytes, the high byte first. Assumes nothing.
use Rattle.std.specs.Prelude.{ℕ, ◌+◌, ◌*◌, ◌/◌, ◌%◌, List, [], ◌∷◌, slice_index}

abbrev pub bytes4 : ℕ → List ℕ
bytes4 n = (n / 16777216 % 256) ∷ (n / 65536 % 256) ∷ (n / 256 % 256) ∷ (n % 256) ∷ []

-- the number in the four bytes from place i on
abbrev pub word_at : List ℕ → ℕ → ℕ
word_at s i = slice_index s i * 16777216 + slice_index s (i + 1) * 65536 + slice_index s (i + 2) * 256 + slice_index s (i + 3)

-- the numbers that bytes hold, one in each four; bytes that are too few for one more hold none
unfoldable pub words : List ℕ → List ℕ
words [] = []
words (a ∷ []) = []
words (a ∷ b ∷ []) = []
words (a ∷ b ∷ c ∷ []) = []
words (a ∷ b ∷ c ∷ d ∷ rest) = (a * 16777216 + b * 65536 + c * 256 + d) ∷ words rest
