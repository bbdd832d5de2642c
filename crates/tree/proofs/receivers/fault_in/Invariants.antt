-- What has been found so far, and what is found in the receivers still to come, is all that there is to find.
use Rattle.std.proofs.Common.{◌≡◌, not, ◌||◌, drop}
use Rattle.tree.specs.Receivers.{all_below, rising_from, rising}
use Rattle.tree.proofs.receivers.fault_in.Given as goal

abbrev pub invariant-loop-i : goal.invariant-loop-i
invariant-loop-i g l =
    let all = g.L.ReceiverList.list l.receivers in
    ((l.outside || not (all_below l.end (drop l.i all))) ≡ not (all_below l.end all))
    × ((l.unordered || not (rising_from l.least (drop l.i all))) ≡ not (rising all))
