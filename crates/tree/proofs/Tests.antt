-- Facts about tests that the shelf lacks. Assumes nothing.
use Rattle.std.proofs.Common.{◌≡◌, ℕ, Bool, true, false, cond, ◌&&◌, T, Some, None, Option, refl, arith}

pub T_both : (a b : Bool) → T (a && b) → T a × T b
T_both true true t = (tt, tt)
T_both true false t = absurd t
T_both false b t = absurd t

pub T_true : (b : Bool) → T b → b ≡ true
T_true true t = refl
T_true false t = absurd t

pub both_T : (a b : Bool) → T a → T b → T (a && b)
both_T true b s t = t
both_T false b s t = absurd s

-- a value was told, so there is one; or none was
pub told : {A : Type 0} (b : Bool) (m n : A) → ◌≡◌ {A = Option A} (Some m) (cond b (Some n) None) → (b ≡ true) × (m ≡ n)
told true m n e = (refl, cc)
told false m n e = absurd (let z : ◌≡◌ {A = ℕ} 0 1 = cc in omega arith)

pub untold : {A : Type 0} (b : Bool) (n : A) → ◌≡◌ {A = Option A} None (cond b (Some n) None) → b ≡ false
untold true n e = absurd (let z : ◌≡◌ {A = ℕ} 0 1 = cc in omega arith)
untold false n e = refl
