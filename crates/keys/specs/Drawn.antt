-- The world of the code: a block function, and whatever was drawn. Assumes nothing.
use Rattle.std.specs.Prelude.{ℕ, List, replicate}
use Rattle.chacha.specs.Rfc8439.{chacha20_block}
use Rattle.secrecy.specs.Worlds.{World, Real, Bytes}

-- what was drawn: the starts of the nodes of each tree, session keys, and the bytes of false headers
pub record Draws : Type 0 where
  pub start : ℕ → ℕ → List ℕ
  pub session : ℕ → List ℕ
  pub noise : ℕ → ℕ → List ℕ

-- draws of the right sizes
pub record Sized (d : Draws) : Type 0 where
  pub starts : (g i : ℕ) → Bytes 32 (d.start g i)
  pub sessions : (s : ℕ) → Bytes 32 (d.session s)
  pub noises : (n i : ℕ) → Bytes 48 (d.noise n i)

-- the world of a block function and some draws
abbrev pub world : (List ℕ → ℕ → List ℕ) → Draws → World
world f d = record { block = f; start = d.start; session = d.session; noise = d.noise }

-- ChaCha20's block with twelve zero bytes as the nonce
abbrev pub zero_nonce_block : List ℕ → ℕ → List ℕ
zero_nonce_block key counter = chacha20_block key counter (replicate 12 0)

-- the world that the programs work in
abbrev pub zozhimbe : Draws → World
zozhimbe d = world zero_nonce_block d

-- the theorems on all worlds hold of that one
abbrev pub ZozhimbeReal : Type 0
ZozhimbeReal = (d : Draws) → Sized d → Real (zozhimbe d)
