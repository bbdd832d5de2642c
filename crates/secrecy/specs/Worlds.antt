-- Terms as bytes, and whatever can be computed from them. Assumes nothing.
use Rattle.std.specs.Prelude.{◌≡◌, ℕ, suc, cond, T, List, [], ◌∷◌, ◌++◌, map, length, take, drop, ◌==◌, bit_xor}
use Rattle.std.specs.List.{flat_map}
use Rattle.tree.specs.declared.parts.Part.{Part}
use Rattle.tree.specs.Receivers.{all_below}
use Rattle.secrecy.specs.Lists.{◌∈◌}
use Rattle.secrecy.specs.Terms.{Term, Start, Left, Right, Middle, Pad, Check, Session, Noise, Xor, key, show_key, made}
use Rattle.secrecy.specs.Air.{Trial, true_parts, view}

-- n bytes
abbrev pub Bytes : ℕ → List ℕ → Type 0
Bytes n xs = (length xs ≡ n) × T (all_below 256 xs)

-- the second added bit by bit to the front of the first
abbrev pub xors : List ℕ → List ℕ → List ℕ
xors [] ys = []
xors (x ∷ xs) [] = x ∷ xs
xors (x ∷ xs) (y ∷ ys) = bit_xor x y ∷ xors xs ys

-- a block function, from a key and a counter, and all that is drawn
pub record World : Type 0 where
  pub block : List ℕ → ℕ → List ℕ
  pub start : ℕ → ℕ → List ℕ
  pub session : ℕ → List ℕ
  pub noise : ℕ → ℕ → List ℕ

-- whose sizes are right; any such block function will do
pub record Real (w : World) : Type 0 where
  pub blocks : (k : List ℕ) (c : ℕ) → Bytes 64 (w.block k c)
  pub starts : (g i : ℕ) → Bytes 32 (w.start g i)
  pub sessions : (s : ℕ) → Bytes 32 (w.session s)
  pub noises : (n i : ℕ) → Bytes 48 (w.noise n i)

-- the bytes of a term: left and right are the two halves of the key's block 0, middle is the first half of block 1, and number n has
-- block n + 2
unfoldable pub bytes : World → Term → List ℕ
bytes w (Start g i) = w.start g i
bytes w (Left t) = take 32 (w.block (bytes w t) 0)
bytes w (Right t) = drop 32 (w.block (bytes w t) 0)
bytes w (Middle t) = take 32 (w.block (bytes w t) 1)
bytes w (Pad k n) = take 32 (w.block (bytes w k) (suc (suc n)))
bytes w (Check k n) = take 16 (drop 32 (w.block (bytes w k) (suc (suc n))))
bytes w (Session s) = w.session s
bytes w (Noise n i) = w.noise n i
bytes w (Xor a b) = xors (bytes w a) (bytes w b)

-- what is seen by who has these terms
abbrev pub seen : World → List Term → List (List ℕ)
seen w have = map (bytes w) have

-- whatever can be computed with a block function: it may be asked anywhere, any number of times, and anything may be computed in between
pub data Strategy : Type 0 where
  Done : (answer : List ℕ) → Strategy
  Ask : (key : List ℕ) → (counter : ℕ) → (List ℕ → Strategy) → Strategy

-- a question to the block function
pub record Point : Type 0 where
  pub at : List ℕ
  pub counter : ℕ

-- what a strategy answers, and what it asks on the way
unfoldable pub answer : (List ℕ → ℕ → List ℕ) → Strategy → List ℕ
answer f (Done a) = a
answer f (Ask k c next) = answer f (next (f k c))

unfoldable pub asked : (List ℕ → ℕ → List ℕ) → Strategy → List Point
asked f (Done a) = []
asked f (Ask k c next) = record { at = k; counter = c } ∷ asked f (next (f k c))

-- block c of key x is the one under a true header of a signal with the session key of draw s, where `value` gives the bytes of terms
abbrev pub OpensAt : (Term → List ℕ) → ℕ → ℕ → List Trial → List ℕ → ℕ → Type 0
OpensAt value h s log x c =
    (m : Trial) × (m ∈ log) ×
    ((m.session ≡ s) × ((c ≡ suc (suc m.number)) × ((p : Part) × (p ∈ true_parts m) × (x ≡ value (key m.tree h p)))))

-- the keys of the true headers of the signals with the session key of draw s
abbrev pub keys_of : ℕ → ℕ → List Trial → List Term
keys_of h s log = flat_map (λ (m : Trial). cond (m.session == s) (map (key m.tree h) (true_parts m)) []) log

-- what is to stay hidden: the show's key and the session key, and the keys of its headers with the labels that they come from
abbrev pub secrets : ℕ → ℕ → List Trial → List Term
secrets h s log = flat_map made (show_key s ∷ keys_of h s log)

-- all that stands in these and in what the pirates have
abbrev pub in_use : List Term → ℕ → ℕ → List Trial → List Term
in_use own h s log = secrets h s log ++ flat_map made (view own h log)
