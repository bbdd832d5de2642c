-- All that can be worked out from terms in hand. Assumes nothing.
use Rattle.std.specs.Prelude.{ℕ, List}
use Rattle.secrecy.specs.Lists.{◌∈◌}
use Rattle.secrecy.specs.Terms.{Term, Left, Right, Middle, Pad, Check, Noise, Xor}

-- terms that are the same bytes by the laws of adding bit by bit, anywhere in them
pub data Alike : Term → Term → Type 0 where
  swap : (a b : Term) → Alike (Xor a b) (Xor b a)
  regroup : (a b c : Term) → Alike (Xor (Xor a b) c) (Xor a (Xor b c))
  cancel : (a b : Term) → Alike (Xor a (Xor a b)) b
  in_xor : {a b c : Term} → Alike a b → Alike (Xor a c) (Xor b c)
  in_left : {a b : Term} → Alike a b → Alike (Left a) (Left b)
  in_right : {a b : Term} → Alike a b → Alike (Right a) (Right b)
  in_middle : {a b : Term} → Alike a b → Alike (Middle a) (Middle b)
  in_pad : {a b : Term} (n : ℕ) → Alike a b → Alike (Pad a n) (Pad b n)
  in_check : {a b : Term} (n : ℕ) → Alike a b → Alike (Check a n) (Check b n)
  back : {a b : Term} → Alike a b → Alike b a
  then : {a b c : Term} → Alike a b → Alike b c → Alike a c

pub data Gets (have : List Term) : Term → Type 0 where
  -- what is in hand
  given : {t : Term} → t ∈ have → Gets have t
  -- bytes that anybody can make up
  noise : (n i : ℕ) → Gets have (Noise n i)
  -- what comes from any term as a label or as a key
  left : {t : Term} → Gets have t → Gets have (Left t)
  right : {t : Term} → Gets have t → Gets have (Right t)
  middle : {t : Term} → Gets have t → Gets have (Middle t)
  pad : {k : Term} (n : ℕ) → Gets have k → Gets have (Pad k n)
  check : {k : Term} (n : ℕ) → Gets have k → Gets have (Check k n)
  -- sums, and what is the same bytes: so whoever has a sum and one of the two terms has the other, which is the two added
  xor : {a b : Term} → Gets have a → Gets have b → Gets have (Xor a b)
  alike : {b : Term} (a : Term) → Alike a b → Gets have a → Gets have b
