-- The cover: parts that make up all receivers but the revoked. Assumes nothing.
use Rattle.std.specs.Prelude.{ℕ, zero, suc, ◌+◌, ◌-◌, ◌*◌, ◌^◌, cond, List, [], ◌∷◌, ◌++◌, ◌==◌}
use Rattle.tree.specs.declared.parts.Part.{Part}
use Rattle.tree.specs.Receivers.{is_in}
use Rattle.tree.specs.Parts.{part}

-- What is known below a node: nobody is revoked there; or some parts are made and one node is named, and all that is not below
-- the named one is still to be covered.
pub data Work : Type 0 where
  clean : Work
  named : (node : ℕ) → List Part → Work

-- a side is closed by the part of what is still to be covered below it, which stands before the parts made there
abbrev pub close : ℕ → ℕ → List Part → List Part
close side j ps = cond (side == j) ps (part side j ∷ ps)

-- node i is as its other side where one is clean; where neither is, both are closed, and i itself is named
abbrev pub join : ℕ → Work → Work → Work
join i clean right = right
join i (named j ps) clean = named j ps
join i (named j ps) (named k qs) = named i (close (2 * i) j ps ++ close (2 * i + 1) k qs)

-- node i with k levels below it, in a tree of height h; with none below it, it is that of receiver i - 2^h
unfoldable pub work : ℕ → List ℕ → ℕ → ℕ → Work
work h rs zero i = cond (is_in (i - 2 ^ h) rs) (named i []) clean
work h rs (suc k) i = join i (work h rs k (2 * i)) (work h rs k (2 * i + 1))

-- at the top, all clean is the one part of all, and else node 1 is closed
abbrev pub finish : Work → List Part
finish clean = part 0 0 ∷ []
finish (named j ps) = close 1 j ps

abbrev pub cover : ℕ → List ℕ → List Part
cover h rs = finish (work h rs h 1)
