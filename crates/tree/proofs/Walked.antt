-- One step along a receiver's way. Assumes nothing.
use Rattle.std.proofs.Common.{◌≡◌, ℕ, zero, suc, ◌+◌, ◌-◌, ◌/◌, ◌<◌, List, [], ◌∷◌, ◌++◌, refl, add-one, arith}
use Rattle.tree.specs.declared.parts.Part.{Part}
use Rattle.tree.specs.Parts.{part}
use Rattle.tree.specs.Ways.{sibling, hanging, above}

pub nothing_left : (n k d i j x l : ℕ) → n ≡ 0 → k ≡ 0 → hanging n i x ++ above k d j l ≡ []
unfolding hanging above
nothing_left n k d i j x l en ek = rw (en, ek)

-- under the next node above
pub next_above : (n k d i x l : ℕ) → n ≡ 0 → (k ≡ 0 → ⊥) →
    hanging n i x ++ above k (suc d) (i / 2) l ≡ hanging (d + 1) (i / 2) l ++ above (k - 1) (suc (d + 1)) (i / 2 / 2) l
unfolding hanging above
next_above n zero d i x l en ek = absurd (ek refl)
next_above n (suc k) d i x l en ek = let e : suc k - 1 ≡ k = omega arith in rw (en, e, add-one d)

-- the next node that hangs off
pub next_hanging : (n i x : ℕ) (rest : List Part) → 0 < n → hanging n i x ++ rest ≡ part i (sibling x) ∷ (hanging (n - 1) i (x / 2) ++ rest)
unfolding hanging
next_hanging zero i x rest l = absurd (omega arith)
next_hanging (suc n) i x rest l = let e : suc n - 1 ≡ n = omega arith in rw e
