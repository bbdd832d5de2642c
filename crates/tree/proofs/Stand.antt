-- Where a node stands, and which receivers are below it. Assumes nothing.
use Rattle.std.proofs.Common.{◌≡◌, ℕ, suc, ◌+◌, ◌-◌, ◌*◌, ◌%◌, ◌^◌, ◌<◌, ◌≤◌, ap, ◌∙◌, subst, mul-le-mul_right, mod-eq_of_lt, one-mul, arith, pow_mono, pow-add}
use Rattle.tree.specs.Nodes.{max_height, Level, Stands}
use Rattle.tree.proofs.Exact.{level_left, level_right}

module _ (h k i : ℕ) (stands : Stands h k i) where
  -- the level below
  pub stands_left : 0 < k → Stands h (k - 1) (2 * i)
  stands_left pos =
      (omega arith, stands.1, subst (λ (d : ℕ). Level d (2 * i)) {x = suc (h - k)} {y = h - (k - 1)} (omega arith) (level_left (h - k) i stands.2))

  pub stands_right : 0 < k → Stands h (k - 1) (2 * i + 1)
  stands_right pos =
      (omega arith, stands.1, subst (λ (d : ℕ). Level d (2 * i + 1)) {x = suc (h - k)} {y = h - (k - 1)} (omega arith) (level_right (h - k) i stands.2))

  -- the leaves below it are leaves of the tree
  pub leaves_from : 2 ^ h ≤ i * 2 ^ k
  leaves_from =
      let e : 2 ^ h ≡ 2 ^ (h - k) * 2 ^ k = ap (λ (n : ℕ). 2 ^ n) {x = h} {y = h - k + k} (omega arith) ∙ pow-add 2 (h - k) k in
      omega (arith, e, mul-le-mul_right (2 ^ k) stands.2.0)

  pub leaves_to : (i + 1) * 2 ^ k ≤ 2 ^ suc h
  leaves_to =
      let e : 2 ^ suc h ≡ 2 ^ suc (h - k) * 2 ^ k = ap (λ (n : ℕ). 2 ^ n) {x = suc h} {y = suc (h - k) + k} (omega arith) ∙ pow-add 2 (suc (h - k)) k in
      let l : i + 1 ≤ 2 ^ suc (h - k) = omega (arith, stands.2.1) in
      omega (arith, e, mul-le-mul_right (2 ^ k) l)

  -- leaves fit into 32 bits, so that the code's shifts are products
  pub leaves_fit : ((1 * 2 ^ h) % 2 ^ 32 ≡ 2 ^ h) × ((i * 2 ^ k) % 2 ^ 32 ≡ i * 2 ^ k)
  leaves_fit =
      let top = pow_mono {i = suc h} {j = suc max_height} (omega arith) in
      let one : 1 * 2 ^ h < 2 ^ 32 = omega (arith, top, leaves_from, leaves_to, mul-le-mul_right {m = i} {n = i + 1} (2 ^ k) (omega arith)) in
      let all : i * 2 ^ k < 2 ^ 32 = omega (arith, top, leaves_to, mul-le-mul_right {m = i} {n = i + 1} (2 ^ k) (omega arith)) in
      (mod-eq_of_lt one ∙ one-mul (2 ^ h), mod-eq_of_lt all)
