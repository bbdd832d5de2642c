-- A part of a file of which the end may not have been read yet. Assumes nothing.
use Rattle.std.specs.Prelude.{◌≡◌, ℕ, suc, ◌-◌, ◌^◌, ◌<◌, ◌≤◌, min, List, length, map, take, drop, replicate, slice_index}
use Rattle.fault.specs.Memory.{over}
use Rattle.starts.specs.declared.start.Start.{Start}
use Rattle.starts.specs.Format.{start_at}

-- how many bytes were read, as far as they can be counted
abbrev pub counted : List ℕ → ℕ
counted s = min (length s) (2 ^ 64 - 1)

-- n bytes from place b on, with zeros for those that were not read
abbrev pub window : ℕ → ℕ → List ℕ → List ℕ
window b n s = over (take n (drop b s)) (replicate n 0)

-- the start of a node is there as far as it was read
abbrev pub AsRead : List ℕ → Start → Type 0
AsRead s start = start.bytes ≡ window (start_at start.node) 32 s

abbrev pub nodes_of : List Start → List ℕ
nodes_of starts = map (λ start. start.node) starts

-- the starts of the first n nodes were read to their ends
abbrev pub Complete : ℕ → List ℕ → List ℕ → Type 0
Complete n nodes s = (j : ℕ) → j < n → start_at (suc (slice_index nodes j)) ≤ length s
