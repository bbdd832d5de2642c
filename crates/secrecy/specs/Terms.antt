-- Keys as terms: what is drawn, and what comes from it. Assumes nothing.
use Rattle.std.specs.Prelude.{ℕ, zero, suc, ◌/◌, ◌%◌, Bool, true, false, cond, List, [], ◌∷◌, ◌++◌, ◌==◌}
use Rattle.tree.specs.declared.parts.Part.{Part}

pub data Term : Type 0 where
  -- drawn for a node of a tree; that of node 0 is for all receivers of the tree
  Start : (tree : ℕ) → (node : ℕ) → Term
  -- what comes from a label: each can be worked out from the term in it, and none leads back
  Left : Term → Term
  Right : Term → Term
  Middle : Term → Term
  -- what a key gives at a number: the 32 bytes that cover a session key, and the 16 after them, which cover zeros and so are sent as
  -- they are
  Pad : Term → (number : ℕ) → Term
  Check : Term → (number : ℕ) → Term
  -- the session key of a draw
  Session : (draw : ℕ) → Term
  -- the bytes drawn for the false header at a place of the trial under a number
  Noise : (number : ℕ) → (place : ℕ) → Term
  -- two terms added bit by bit
  Xor : Term → Term → Term
  deriving Discrete as Term-discrete

-- one step down to node x: left to an even one, right to an odd one
abbrev pub side : ℕ → Term → Term
side x t = cond (x % 2 == 0) (Left t) (Right t)

-- the label of node j under node i in tree g: the start of i, taken left or right at each step from i down to j; there are at most k steps
unfoldable pub label : ℕ → ℕ → ℕ → ℕ → Term
label g zero i j = Start g i
label g (suc k) i j = cond (i == j) (Start g i) (side j (label g k i (j / 2)))

-- the label of a part of tree g, of height h: that of its second node under its first; of (0, 0) it is the start of 0
abbrev pub label_of : ℕ → ℕ → Part → Term
label_of g h p = cond (p.first == 0) (Start g 0) (label g h p.first p.second)

-- the key of a part
abbrev pub key : ℕ → ℕ → Part → Term
key g h p = Middle (label_of g h p)

-- the key of a show, from the draw of its session key
abbrev pub show_key : ℕ → Term
show_key s = Middle (Session s)

-- a label: a start, taken left or right any number of times
abbrev pub is_label : Term → Bool
is_label (Start g i) = true
is_label (Left t) = is_label t
is_label (Right t) = is_label t
is_label (Middle t) = false
is_label (Pad k n) = false
is_label (Check k n) = false
is_label (Session s) = false
is_label (Noise n i) = false
is_label (Xor a b) = false

-- a term and all that it is made from
unfoldable pub made : Term → List Term
made (Start g i) = Start g i ∷ []
made (Left t) = Left t ∷ made t
made (Right t) = Right t ∷ made t
made (Middle t) = Middle t ∷ made t
made (Pad k n) = Pad k n ∷ made k
made (Check k n) = Check k n ∷ made k
made (Session s) = Session s ∷ []
made (Noise n i) = Noise n i ∷ []
made (Xor a b) = Xor a b ∷ (made a ++ made b)
