-- The label files of receivers. Assumes nothing.
use Rattle.std.specs.Prelude.{◌≡◌, ℕ, suc, ◌/◌, ◌^◌, ◌<◌, List, [], map, slice_index_or}
use Rattle.fault.specs.Memory.{over}
use Rattle.tree.specs.declared.parts.Part.{Part}
use Rattle.secrecy.specs.Terms.{Start}
use Rattle.secrecy.specs.Held.{held_label, held}
use Rattle.secrecy.specs.Worlds.{World, bytes, seen}
use Rattle.wire.specs.Entries.{Wide, placed}
use Rattle.wire.specs.Labels.{labels_bytes}

-- the file of receiver u of tree g, of height h: its labels, as the receiver holds them in the theorems on secrecy
abbrev pub held_file : World → ℕ → ℕ → ℕ → List ℕ
held_file w g h u = labels_bytes h u (seen w (held g h u))

-- the start of 0
abbrev pub StartOfAll : World → ℕ → List ℕ → Type 0
StartOfAll w g start = start ≡ bytes w (Start g 0)

-- the starts of the h nodes above node x, from below upwards
abbrev pub StartsAbove : World → ℕ → ℕ → ℕ → List (List ℕ) → Type 0
StartsAbove w g h x starts = (k : ℕ) → k < h → slice_index_or starts k [] ≡ bytes w (Start g (x / 2 ^ suc k))

-- the labels of some places
abbrev pub held_entries : World → ℕ → ℕ → List Part → List ℕ
held_entries w g h ps = placed ps (seen w (map (held_label g h) ps))

-- the labels of these places, 32 bytes each, were written over the front of memory
abbrev pub Wrote : World → ℕ → ℕ → List Part → List ℕ → List ℕ → Type 0
Wrote w g h ps before after = Wide 32 (seen w (map (held_label g h) ps)) × (after ≡ over (held_entries w g h ps) before)

-- the file of receiver u was written over the front of memory, with labels of 32 bytes each
abbrev pub WroteFile : World → ℕ → ℕ → ℕ → List ℕ → List ℕ → Type 0
WroteFile w g h u before after = Wide 32 (seen w (held g h u)) × (after ≡ over (held_file w g h u) before)
