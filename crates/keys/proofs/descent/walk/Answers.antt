-- Each turn goes one node further, and after the last no node is ahead.
use Rattle.std.proofs.Common.{◌≡◌, ℕ, suc, ◌-◌, ◌/◌, ◌^◌, ◌<◌, ◌≤◌, true, false, cond, ltb, ⊎_elim, sym, ◌∙◌, arith}
use Rattle.std.proofs.Math.Nat.{div-eq_of_lt}
use Rattle.std.proofs.Math.Pow.{pow_mono}
use Rattle.std.proofs.lemmas.Bool.{cases_Bool, cond-true, cond-false, ltb-false}
use Rattle.keys.specs.Drawn.{world}
use Rattle.keys.proofs.Walks.{along_more, along_all}
use Rattle.keys.proofs.descent.walk.Goals as goal

-- no bit is left after a shift by all of them
shifted : (x n r : ℕ) → x < 2 ^ 32 → r ≡ cond (ltb n 32) (x / 2 ^ n) 0 → r ≡ x / 2 ^ n
shifted x n r few e = e ∙ ⊎_elim within beyond (cases_Bool (ltb n 32))
  where
    within : ltb n 32 ≡ true → cond (ltb n 32) (x / 2 ^ n) 0 ≡ x / 2 ^ n
    within t = cond-true (ltb n 32) (x / 2 ^ n) 0 t

    beyond : ltb n 32 ≡ false → cond (ltb n 32) (x / 2 ^ n) 0 ≡ x / 2 ^ n
    beyond f = let all : 32 ≤ n = ltb-false n 32 f in cond-false (ltb n 32) (x / 2 ^ n) 0 f ∙ sym (div-eq_of_lt (omega (arith, pow_mono all)))

pub loop-left-preserved : goal.loop-left-preserved
loop-left-preserved g c d t e =
    let node = shifted _ _ _ (omega arith) c.unbounded_shr.ensures in
    let ahead : c.loop-left.left ≡ suc (c.loop-left.left - 1) = omega arith in
    along_more g.C.Cipher.steps (world g.C.Cipher.gives d) _ _ _ t _ _ _ _ _ (rw ahead at (c.loop-left.invariant d t e))
    c.side-next.ensures.asked (λ u. rw node at (c.side-next.ensures.term d u))

pub returns : goal.returns
returns g c =
    let none : c.loop-left.left ≡ 0 = omega arith in
    record {
      term = λ d t e. (along_all g.C.Cipher.steps (world g.C.Cipher.gives d) _ t _ _ _ (rw none at (c.loop-left.invariant d t e))).0;
      asked = λ d t e. (along_all g.C.Cipher.steps (world g.C.Cipher.gives d) _ t _ _ _ (rw none at (c.loop-left.invariant d t e))).1;
    }
