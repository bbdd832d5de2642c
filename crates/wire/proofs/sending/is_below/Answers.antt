-- One step up is one step less that is left.
use Rattle.std.proofs.Common.{◌≡◌, ℕ, suc, ◌/◌, eqb, sym, ◌∙◌, arith}
use Rattle.std.proofs.lemmas.Bool.{ne_eqb}
use Rattle.tree.specs.Nodes.{below}
use Rattle.tree.proofs.Up.{up_zero, up_below}
use Rattle.wire.proofs.sending.is_below.Goals as goal

step : (k m i x : ℕ) → k ≡ suc m → (i ≡ x → ⊥) → below k i x ≡ below m i (x / 2)
unfolding below
step k m i x e other = let f = ne_eqb i x other in rw (e, f)

last : (k i x : ℕ) → k ≡ 0 → below k i x ≡ eqb i x
unfolding below
last k i x e = rw e

pub loop-preserved : goal.loop-preserved
loop-preserved c = sym (step _ _ c.args.above c.loop.here (omega arith) c.if-above-here.false) ∙ c.loop.invariant

pub returns-then-above-here : goal.returns-then-above-here
returns-then-above-here c =
    sym (up_below _ 0 c.args.above c.loop.here (omega arith) (up_zero c.loop.here ∙ sym c.if-above-here.true)) ∙ c.loop.invariant

pub returns : goal.returns
returns c = sym (last _ c.args.above c.loop.here (omega arith)) ∙ c.loop.invariant
