-- The revocation list as a file. Assumes nothing.
use Rattle.std.specs.Prelude.{◌≡◌, ℕ, ◌+◌, ◌*◌, not, List, [], ◌∷◌, ◌++◌, length, drop, Result, ◌==◌, nat_lt, slice_index, slice_index_or}
use Rattle.std.specs.List.{flat_map}
use Rattle.fault.specs.declared.Fault.{Fault}
use Rattle.fault.specs.declared.Fault.TheVariants.{Malformed, TooManyRevoked}
use Rattle.fault.specs.declared.Refusal.{Refusal}
use Rattle.fault.specs.Lowest.{when, lowest}
use Rattle.fault.specs.Memory.{fitted}
use Rattle.tree.specs.Receivers.{list_faults}
use Rattle.wire.specs.declared.revocation.Revocation.{Revocation}
use Rattle.wire.specs.Words.{bytes4, word_at, words}
use Rattle.wire.specs.Head.{or_else, head_faults}

-- a list names at most so many
abbrev pub max_revoked : ℕ
max_revoked = 4096

-- kind 1, the height, how many are revoked, and the receivers that are
abbrev pub revocation_bytes : ℕ → List ℕ → List ℕ
revocation_bytes h rs = 1 ∷ h ∷ bytes4 (length rs) ++ flat_map bytes4 rs

-- all that is wrong with what is to be written as a revocation list
abbrev pub named_faults : ℕ → List ℕ → List Fault
named_faults h rs = list_faults h rs ++ when (nat_lt max_revoked (length rs)) TooManyRevoked

-- how many receivers a file says that it has, and those that it has
abbrev pub count_in : List ℕ → ℕ
count_in s = word_at s 2

abbrev pub revoked_in : List ℕ → List ℕ
revoked_in s = words (drop 6 s)

-- all that is wrong with a file that is to be a revocation list
abbrev pub revocation_faults : List ℕ → List Fault
revocation_faults s =
    or_else (head_faults 1 s)
    (or_else (when (not (length s == 6 + 4 * count_in s)) Malformed)
    (named_faults (slice_index s 1) (revoked_in s)))

abbrev pub revocation_in : List ℕ → Revocation
revocation_in s = record { height = slice_index s 1; count = count_in s }

-- how many bytes are written, where nothing is wrong and there is room for them
abbrev pub write_answer : ℕ → List ℕ → ℕ → Result ℕ Refusal
write_answer h rs room = let n = length (revocation_bytes h rs) in fitted (lowest (named_faults h rs)) n room n

-- the file is read without a fault, as this list
pub record ReadsAs (s : List ℕ) (h : ℕ) (rs : List ℕ) : Type 0 where
  pub faultless : revocation_faults s ≡ []
  pub height : slice_index_or s 1 0 ≡ h
  pub revoked : revoked_in s ≡ rs
