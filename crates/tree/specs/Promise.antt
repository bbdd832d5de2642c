-- What is promised of a cover, for trees of every height. Assumes nothing.
use Rattle.std.specs.Prelude.{◌≡◌, ℕ, zero, suc, ◌+◌, ◌*◌, ◌^◌, ◌<◌, ◌≤◌, cond, T, ◌⊎◌, List, [], ◌∷◌, map, length}
use mathlib.Core.List.{Memᴰ}
use Rattle.tree.specs.declared.parts.Part.{Part}
use Rattle.tree.specs.Nodes.{leaf, below}
use Rattle.tree.specs.Receivers.{is_in, all_below}
use Rattle.tree.specs.Parts.{part, is_all, proper, in_how_many}
use Rattle.tree.specs.Cover.{cover}

-- the most parts that r revoked can make
abbrev pub most : ℕ → ℕ
most zero = 1
most (suc r) = 2 * r + 1

-- node j is at or above a revoked receiver
abbrev pub AboveRevoked : ℕ → List ℕ → ℕ → Type 0
AboveRevoked h rs j = (u : ℕ) × T (is_in u rs) × T (below h j (leaf h u))

-- what is promised of the parts for some revoked
pub record Covers (h : ℕ) (rs : List ℕ) (ps : List Part) : Type 0 where
  -- who is not revoked is in exactly one part, who is revoked in none
  pub exact : (u : ℕ) → u < 2 ^ h → in_how_many h u ps ≡ cond (is_in u rs) 0 1
  -- at most 2 r - 1 parts for r revoked, and exactly one for nobody
  pub few : length ps ≤ most (length rs)
  pub one : length rs ≡ 0 → length ps ≡ 1
  -- each part is (0, 0), or a node and one strictly below it
  pub neat : (p : Part) → Memᴰ p ps → T (proper h p)
  -- no receiver is left out of a part but for the sake of a revoked one
  pub needed : (p : Part) → Memᴰ p ps → T (is_all p) ⊎ AboveRevoked h rs p.second

abbrev pub CoverCovers : Type 0
CoverCovers = (h : ℕ) (rs : List ℕ) → T (all_below (2 ^ h) rs) → Covers h rs (cover h rs)

-- worked cases in a tree of height 3: the revoked, and the parts for them
abbrev pub worked : List (List ℕ × List Part)
worked =
    (2 ∷ [], part 1 10 ∷ [])
    ∷ (0 ∷ 5 ∷ [], part 2 8 ∷ part 3 13 ∷ [])
    ∷ (0 ∷ 1 ∷ [], part 1 4 ∷ [])
    ∷ ([], part 0 0 ∷ [])
    ∷ (0 ∷ 1 ∷ 2 ∷ 3 ∷ 4 ∷ 5 ∷ 6 ∷ 7 ∷ [], [])
    ∷ []

abbrev pub Worked : Type 0
Worked = map (λ (row : List ℕ × List Part). cover 3 row.0) worked ≡ map (λ (row : List ℕ × List Part). row.1) worked
