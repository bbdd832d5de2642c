-- Sendings as files, from the terms that are on the air. Assumes nothing.
use Rattle.std.specs.Prelude.{◌≡◌, ℕ, List, map}
use Rattle.std.specs.List.{flat_map}
use Rattle.fault.specs.Memory.{over}
use Rattle.tree.specs.declared.parts.Part.{Part}
use Rattle.secrecy.specs.Air.{Sending, Trial, as_trial, header, sent}
use Rattle.secrecy.specs.Terms.{Session}
use Rattle.secrecy.specs.Worlds.{World, bytes}
use Rattle.keys.specs.Drawn.{Draws, world}
use Rattle.starts.specs.Drawn.{DrawnIn}
use Rattle.wire.specs.Entries.{Wide, placed}
use Rattle.wire.specs.Sending.{sending_bytes}

-- the 48 bytes of a part's header: those of the terms that are sent for it
abbrev pub covered : World → ℕ → Trial → Part → List ℕ
covered w h m p = flat_map (bytes w) (header h m p)

-- headers with their parts, one behind the other
abbrev pub headers_of : World → ℕ → Trial → List Part → List ℕ
headers_of w h m ps = placed ps (map (covered w h m) ps)

-- the file of a sending
abbrev pub sent_file : World → ℕ → Sending → List ℕ
sent_file w h m = let t = as_trial h m in sending_bytes h m.number t.parts (map (covered w h t) t.parts)

-- the draws and the sending that were ordered: the starts of its tree are those of the file s, its number and its revoked receivers are
-- these, and so is its session key
pub record Ordered (f : List ℕ → ℕ → List ℕ) (s : List ℕ) (h n : ℕ) (rs key : List ℕ) (d : Draws) (m : Sending) : Type 0 where
  pub starts : DrawnIn s m.tree h d
  pub number : m.number ≡ n
  pub revoked : m.revoked ≡ rs
  pub session : key ≡ bytes (world f d) (Session m.session)

-- the file of a sending, with headers of 48 bytes each, was written over the front of memory
abbrev pub SentIn : World → ℕ → Sending → List ℕ → List ℕ → Type 0
SentIn w h m before after = Wide 48 (map (covered w h (as_trial h m)) (as_trial h m).parts) × (after ≡ over (sent_file w h m) before)

-- The headers of a file, one behind the other, are the bytes of what the theorems on secrecy have on the air for the sending.
abbrev pub FileIsAir : Type 0
FileIsAir = (w : World) (h : ℕ) (m : Sending) → flat_map (covered w h (as_trial h m)) (as_trial h m).parts ≡ flat_map (bytes w) (sent h (as_trial h m))
