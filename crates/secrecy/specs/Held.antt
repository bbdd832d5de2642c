-- The labels that receivers hold, and which labels some labels give. Assumes nothing.
use Rattle.std.specs.Prelude.{ℕ, T, List, ◌∷◌, map}
use Rattle.std.specs.List.{flat_map}
use Rattle.tree.specs.declared.parts.Part.{Part}
use Rattle.tree.specs.Ways.{way}
use Rattle.secrecy.specs.Lists.{◌∈◌}
use Rattle.secrecy.specs.Terms.{Term, Start, is_label, label, made}

-- the label that is held of a node that hangs off the way, under a node on it
abbrev pub held_label : ℕ → ℕ → Part → Term
held_label g h p = label g h p.first p.second

-- what receiver u holds of tree g, of height h, in the order of its label file: the start of 0, and for each node above its own, from
-- below upwards, the labels under it of the nodes that hang off the receiver's way
abbrev pub held : ℕ → ℕ → ℕ → List Term
held g h u = Start g 0 ∷ map (held_label g h) (way h u)

-- what the receivers in who hold, of all trees in gs
abbrev pub held_by : List ℕ → ℕ → List ℕ → List Term
held_by gs h who = flat_map (λ g. flat_map (held g h) who) gs

-- all of them labels
abbrev pub Labels : List Term → Type 0
Labels own = (t : Term) → t ∈ own → T (is_label t)

-- the labels in hand give label t: it, or one that it is made from, is among them
abbrev pub Knows : List Term → Term → Type 0
Knows own t = (l : Term) × (l ∈ own) × (l ∈ made t)
