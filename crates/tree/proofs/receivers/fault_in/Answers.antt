-- Each turn hands one receiver on from what is to come to what has been found.
use Rattle.std.proofs.Common.{◌<◌, length, ◌∙◌, arith}
use Rattle.tree.proofs.Judged.{below_more, rising_more, judged_all}
use Rattle.tree.proofs.receivers.fault_in.Goals as goal

pub loop-i-preserved : goal.loop-i-preserved
loop-i-preserved g c =
    let all = g.L.ReceiverList.list c.args.receivers.now in
    let i = c.loop-i.i in
    let inv = c.loop-i.invariant in
    let within : i < length all = omega (arith, c.loop-i-test.true, c.count-i-end.ensures) in
    rw (c.from.ensures, c.from-least.ensures, c.at-receiver.ensures)
    (below_more all i c.loop-i.outside c.receivers-end.result within ∙ inv.0, rising_more all i c.loop-i.unordered c.loop-i.least within ∙ inv.1)

pub returns : goal.returns
returns g c =
    let all = g.L.ReceiverList.list c.args.receivers.now in
    let h = c.in-Ok.height in
    let inv = c.loop-i.invariant in
    rw (c.lower_of.ensures.lower, c.when.ensures, c.when-2.ensures, ← c.in-Ok.ensures)
    (judged_all h.levels all c.loop-i.i c.loop-i.least c.loop-i.outside c.loop-i.unordered h.some h.low
    (omega (arith, c.loop-i-test.false, c.count-i-end.ensures)) (rw (← c.receivers-end.ensures) inv.0) inv.1)
