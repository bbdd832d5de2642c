-- A receiver's labels as a file. Assumes nothing.
use Rattle.std.specs.Prelude.{◌≡◌, ℕ, ◌+◌, ◌*◌, ◌/◌, ◌^◌, Bool, true, false, not, ◌&&◌, ◌||◌, List, [], ◌∷◌, ◌++◌, length, take, drop, Ok, Err, Result, ◌==◌, nat_lt, slice_index}
use Rattle.fault.specs.declared.Fault.{Fault}
use Rattle.fault.specs.declared.Fault.TheVariants.{Malformed, OutOfRange, WrongLabels}
use Rattle.fault.specs.Lowest.{when}
use Rattle.tree.specs.declared.parts.Part.{Part}
use Rattle.tree.specs.Nodes.{in_tree}
use Rattle.tree.specs.Ways.{way}
use Rattle.wire.specs.declared.labels.Labels.{Labels}
use Rattle.wire.specs.Words.{bytes4, word_at}
use Rattle.wire.specs.Entries.{places_in, bodies_of, placed}
use Rattle.wire.specs.Head.{or_else, head_faults}

-- what a label file says: the height, the receiver, the start of 0, and the bytes of the other labels with their places
pub record LabelFile : Type 0 where
  pub height : ℕ
  pub receiver : ℕ
  pub start : List ℕ
  pub entries : List ℕ

-- the places of labels, of which each with its place has 40 bytes: the node under which it is, and its own
abbrev pub places : List ℕ → List Part
places entries = places_in 40 entries

unfoldable pub all_in_tree : ℕ → List Part → Bool
all_in_tree h [] = true
all_in_tree h (p ∷ ps) = in_tree h p.first && in_tree h p.second && all_in_tree h ps

-- whether the places are these, in this order
unfoldable pub same_places : List Part → List Part → Bool
same_places [] [] = true
same_places [] (q ∷ qs) = false
same_places (p ∷ ps) [] = false
same_places (p ∷ ps) (q ∷ qs) = p.first == q.first && p.second == q.second && same_places ps qs

-- the labels that a file gives its receiver: the start of 0, and the others in their order
abbrev pub held_in : LabelFile → List (List ℕ)
held_in f = f.start ∷ bodies_of 40 (length f.entries / 40) f.entries

-- kind 2, the height, the receiver, and the start of 0
abbrev pub labels_head : ℕ → ℕ → List ℕ → List ℕ
labels_head h u start = 2 ∷ h ∷ bytes4 u ++ start

-- the label file of receiver u with what it holds: the start of 0, and the labels along its way
abbrev pub labels_bytes : ℕ → ℕ → List (List ℕ) → List ℕ
labels_bytes h u [] = labels_head h u []
labels_bytes h u (start ∷ labels) = labels_head h u start ++ placed (way h u) labels

-- how many bytes a label file of a tree of height h has: a head of 38, and 40 for each of h (h + 1) / 2 labels
abbrev pub labels_size : ℕ → ℕ
labels_size h = 38 + 40 * (h * (h + 1) / 2)

abbrev pub labels_in : List ℕ → LabelFile
labels_in s = record { height = slice_index s 1; receiver = word_at s 2; start = take 32 (drop 6 s); entries = drop 38 s }

-- all that is wrong with a file that is to be a receiver's labels
abbrev pub labels_faults : List ℕ → List Fault
labels_faults s =
    let f = labels_in s in
    or_else (head_faults 2 s)
    (or_else (when (not (length s == labels_size f.height)) Malformed)
    (when (not (nat_lt f.receiver (2 ^ f.height)) || not (all_in_tree f.height (places f.entries))) OutOfRange
    ++ when (not (same_places (places f.entries) (way f.height f.receiver))) WrongLabels))

-- the same, where it is to be for a tree of height h
abbrev pub labels_faults_for : ℕ → List ℕ → List Fault
labels_faults_for h s = labels_faults s ++ when (not ((labels_in s).height == h)) OutOfRange

-- the file is read without a fault, as that of this receiver with these labels
pub record ReadsAsHeld (s : List ℕ) (h u : ℕ) (held : List (List ℕ)) : Type 0 where
  pub faultless : labels_faults s ≡ []
  pub height : (labels_in s).height ≡ h
  pub receiver : (labels_in s).receiver ≡ u
  pub labels : held_in (labels_in s) ≡ held

-- what a reader's answer says
abbrev pub said_by : Result Labels Fault → Result LabelFile Fault
said_by (Ok v) = Ok (record { height = v.height; receiver = v.receiver; start = v.start; entries = v.entries.now })
said_by (Err f) = Err f
