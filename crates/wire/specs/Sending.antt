-- A sending as a file. Assumes nothing.
use Rattle.std.specs.Prelude.{◌≡◌, ℕ, ◌+◌, ◌*◌, ◌/◌, Bool, true, not, ◌&&◌, ◌||◌, List, [], ◌∷◌, ◌++◌, length, drop, Ok, Err, Result, ◌==◌, nat_lt, slice_index}
use Rattle.fault.specs.declared.Fault.{Fault}
use Rattle.fault.specs.declared.Fault.TheVariants.{Malformed, OutOfRange, ImproperPart}
use Rattle.fault.specs.Lowest.{when}
use Rattle.tree.specs.declared.parts.Part.{Part}
use Rattle.tree.specs.Nodes.{in_tree}
use Rattle.tree.specs.Numbers.{last_number}
use Rattle.tree.specs.Parts.{is_all, descends}
use Rattle.wire.specs.declared.sending.Sending.{Sending}
use Rattle.wire.specs.Words.{bytes4, word_at}
use Rattle.wire.specs.Head.{or_else, head_faults}
use Rattle.wire.specs.Entries.{places_in, bodies_of, placed}

-- what a sending says: the height, the number, and the bytes of its headers
pub record SendingFile : Type 0 where
  pub height : ℕ
  pub number : ℕ
  pub headers : List ℕ

-- the parts of headers, of which each has 56 bytes with its part, and the 48 bytes of each
abbrev pub parts_in : List ℕ → List Part
parts_in headers = places_in 56 headers

abbrev pub covered_in : List ℕ → List (List ℕ)
covered_in headers = bodies_of 56 (length headers / 56) headers

-- kind 3, the height, the number, how many parts there are, and each part with the 48 bytes of its header
abbrev pub sending_head : ℕ → ℕ → ℕ → List ℕ
sending_head h n count = 3 ∷ h ∷ bytes4 n ++ bytes4 count

abbrev pub sending_bytes : ℕ → ℕ → List Part → List (List ℕ) → List ℕ
sending_bytes h n ps covered = sending_head h n (length ps) ++ placed ps covered

-- how many bytes a sending with so many parts has
abbrev pub sending_size : ℕ → ℕ
sending_size count = 10 + 56 * count

-- whether all parts are of nodes in the tree, where (0, 0) is one that has all receivers
unfoldable pub all_inside : ℕ → List Part → Bool
all_inside h [] = true
all_inside h (p ∷ ps) = (is_all p || (in_tree h p.first && in_tree h p.second)) && all_inside h ps

-- whether the second node of each is strictly below the first, or it is (0, 0)
unfoldable pub all_descend : ℕ → List Part → Bool
all_descend h [] = true
all_descend h (p ∷ ps) = (is_all p || descends h p) && all_descend h ps

abbrev pub sending_in : List ℕ → SendingFile
sending_in s = record { height = slice_index s 1; number = word_at s 2; headers = drop 10 s }

-- all that is wrong with a file that is to be a sending
abbrev pub sending_faults : List ℕ → List Fault
sending_faults s =
    let f = sending_in s in
    or_else (head_faults 3 s)
    (or_else (when (not (length s == sending_size (word_at s 6))) Malformed)
    (when (nat_lt last_number f.number || not (all_inside f.height (parts_in f.headers))) OutOfRange
    ++ when (not (all_descend f.height (parts_in f.headers))) ImproperPart))

-- the file is read without a fault, as a sending with this number, these parts and the bytes of their headers
pub record ReadsAsSent (s : List ℕ) (h n : ℕ) (ps : List Part) (covered : List (List ℕ)) : Type 0 where
  pub faultless : sending_faults s ≡ []
  pub height : (sending_in s).height ≡ h
  pub number : (sending_in s).number ≡ n
  pub parts : parts_in (sending_in s).headers ≡ ps
  pub headers : covered_in (sending_in s).headers ≡ covered

-- what a reader's answer says
abbrev pub said_by_sending : Result Sending Fault → Result SendingFile Fault
said_by_sending (Ok v) = Ok (record { height = v.height; number = v.number; headers = v.headers.now })
said_by_sending (Err f) = Err f
