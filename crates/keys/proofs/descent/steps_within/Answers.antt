-- No steps in the part of all receivers; in any other, as many as its one node is below its other.
use Rattle.std.proofs.Common.{◌≡◌, arith}
use Rattle.keys.proofs.Steps.{steps_none, proper_two}
use Rattle.keys.proofs.descent.steps_within.Goals as goal

pub returns-in-0 : goal.returns-in-0
returns-in-0 c h l =
    let first : c.args.part.first ≡ 0 = omega arith in
    let second : c.args.part.second ≡ 0 = omega arith in
    let none = steps_none h 0 in
    rw (first, second, none)

pub returns-in_default-2 : goal.returns-in_default-2
returns-in_default-2 c h l = let e = proper_two h c.args.part l c.if-first-second.false in rw e (c.steps_down.ensures h l)
