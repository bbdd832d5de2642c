-- What hangs off a receiver's way: how much it is, and that all of it is in the tree. Assumes nothing.
use Rattle.std.proofs.Common.{◌≡◌, ℕ, zero, suc, ◌+◌, ◌*◌, ◌/◌, length, refl, ap, arith, length-append}
use Rattle.std.proofs.lemmas.Bool.Decides.{nat_tests}
use Rattle.tree.specs.Nodes.{leaf}
use Rattle.tree.specs.Ways.{sibling, hanging, above, way}

-- the sibling is the other node below the same one

pub sibling_half : (y : ℕ) → sibling y / 2 ≡ y / 2
sibling_half y = grind (arith, nat_tests)

pub sibling_other : (y : ℕ) → sibling y ≡ y → ⊥
sibling_other y e = grind (arith, nat_tests, e)

pub hanging_count : (d i x : ℕ) → length (hanging d i x) ≡ d
unfolding hanging
hanging_count zero i x = refl
hanging_count (suc d) i x = ap suc (hanging_count d i (x / 2))

-- twice the sum of k numbers that rise from d by one
above_count : (k d i x : ℕ) → 2 * length (above k d i x) + k ≡ k * (2 * d + k)
unfolding above
above_count zero d i x = omega arith
above_count (suc k) d i x =
    omega (arith, length-append (hanging d i x) (above k (suc d) (i / 2) x), hanging_count d i x, above_count k (suc d) (i / 2) x)

pub way_double : (h u : ℕ) → 2 * length (way h u) ≡ h * (h + 1)
way_double h u = omega (arith, above_count h 1 (leaf h u / 2) (leaf h u))

pub way_count : (h u : ℕ) → length (way h u) ≡ h * (h + 1) / 2
way_count h u = omega (arith, way_double h u)
