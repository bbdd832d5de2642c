-- What comes from the bytes of a term are the bytes of what comes from the term. Assumes nothing.
use Rattle.std.proofs.Common.{◌≡◌, ℕ, suc, ◌+◌, ◌%◌, cond, eqb, List, ◌++◌, take, drop, ◌∙◌, arith, take-add}
use Rattle.std.proofs.lemmas.Bool.{cond_both}
use Rattle.secrecy.specs.Terms.{Term, Left, Right, Pad, Check, side}
use Rattle.secrecy.specs.Worlds.{World, bytes}

-- the first 48 bytes of the block for a number
pub covering : (w : World) (t : Term) (n c : ℕ) (key pad : List ℕ) → c ≡ n + 2 → key ≡ bytes w t → pad ≡ take 48 (w.block key c) →
    pad ≡ bytes w (Pad t n) ++ bytes w (Check t n)
unfolding bytes
covering w t n c key pad ec ek e =
    let counter : c ≡ suc (suc n) = omega arith in
    e ∙ rw (counter, ek) (take-add 32 16 (w.block (bytes w t) (suc (suc n))))

-- one step down
pub siding : (w : World) (t : Term) (x : ℕ) (label : List ℕ) → label ≡ bytes w t →
    cond (eqb (x % 2) 0) (take 32 (w.block label 0)) (drop 32 (w.block label 0)) ≡ bytes w (side x t)
unfolding bytes
siding w t x label e =
    rw e
    (cond_both (eqb (x % 2) 0) (Left t) (Right t)
    (λ (u : Term). cond (eqb (x % 2) 0) (take 32 (w.block (bytes w t) 0)) (drop 32 (w.block (bytes w t) 0)) ≡ bytes w u) (λ q. rw q) (λ q. rw q))
