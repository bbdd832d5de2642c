-- Entries of one size, each two nodes and then a body: labels with their places, and the headers of a sending. Assumes nothing.
use Rattle.std.specs.Prelude.{◌≡◌, ℕ, zero, suc, ◌-◌, ◌/◌, List, [], ◌∷◌, ◌++◌, length, take, drop}
use Rattle.tree.specs.declared.parts.Part.{Part}
use Rattle.tree.specs.Parts.{part}
use Rattle.wire.specs.Words.{bytes4, word_at}

-- the two nodes of the first entry
abbrev pub first_place : List ℕ → Part
first_place s = part (word_at s 0) (word_at s 4)

-- the nodes of n entries of this size
unfoldable pub entry_places : ℕ → ℕ → List ℕ → List Part
entry_places size zero s = []
entry_places size (suc n) s = first_place s ∷ entry_places size n (drop size s)

-- the nodes of all entries of this size that bytes have
abbrev pub places_in : ℕ → List ℕ → List Part
places_in size s = entry_places size (length s / size) s

-- the bodies of n entries of this size
unfoldable pub bodies_of : ℕ → ℕ → List ℕ → List (List ℕ)
bodies_of size zero s = []
bodies_of size (suc n) s = take (size - 8) (drop 8 s) ∷ bodies_of size n (drop size s)

-- bodies of so many bytes each
abbrev pub Wide : ℕ → List (List ℕ) → Type 0
Wide width [] = Unit {0}
Wide width (b ∷ bs) = (length b ≡ width) × Wide width bs

-- one entry
abbrev pub entry_bytes : Part → List ℕ → List ℕ
entry_bytes p body = bytes4 p.first ++ bytes4 p.second ++ body

-- entries, one behind the other
unfoldable pub placed : List Part → List (List ℕ) → List ℕ
placed [] bodies = []
placed (p ∷ ps) [] = []
placed (p ∷ ps) (b ∷ bs) = entry_bytes p b ++ placed ps bs
