-- Which parts headers can be made for, and what is written for them. Assumes nothing.
use Rattle.std.specs.Prelude.{◌≡◌, ℕ, suc, ◌^◌, ◌<◌, Bool, true, ◌&&◌, T, List, [], ◌∷◌, map, length, slice_index_or}
use Rattle.fault.specs.Memory.{over}
use Rattle.tree.specs.declared.parts.Part.{Part}
use Rattle.tree.specs.Parts.{part, proper}
use Rattle.secrecy.specs.Air.{Trial}
use Rattle.secrecy.specs.Worlds.{World}
use Rattle.starts.specs.Kept.{is_kept}
use Rattle.wire.specs.Entries.{Wide}
use Rattle.sending.specs.Sent.{covered, headers_of}

-- a proper part of the tree whose first node's start was kept
pub record Sendable (h : ℕ) (us : List ℕ) (p : Part) : Type 0 where
  pub is_proper : T (proper h p)
  pub low : p.second < 2 ^ suc h
  pub first_low : p.first < 2 ^ suc h
  pub kept : is_kept h us p.first ≡ true

abbrev pub AllSendable : ℕ → List ℕ → List Part → Type 0
AllSendable h us ps = (i : ℕ) → i < length ps → Sendable h us (slice_index_or ps i (part 0 0))

-- whether the starts of the first nodes of all parts were kept for the receivers us
unfoldable pub firsts_kept : ℕ → List ℕ → List Part → Bool
firsts_kept h us [] = true
firsts_kept h us (p ∷ ps) = is_kept h us p.first && firsts_kept h us ps

-- the headers of the parts, of 48 bytes each, were written over the front of memory
abbrev pub WroteHeaders : World → ℕ → Trial → List Part → List ℕ → List ℕ → Type 0
WroteHeaders w h m ps before after = Wide 48 (map (covered w h m) ps) × (after ≡ over (headers_of w h m ps) before)
