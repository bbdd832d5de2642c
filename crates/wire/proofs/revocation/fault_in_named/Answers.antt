-- The lowest of both is the lowest of all.
use Rattle.wire.proofs.Listed.{lowest_named}
use Rattle.wire.proofs.revocation.fault_in_named.Goals as goal

pub returns : goal.returns
returns g c =
    rw (c.lower_of.ensures.lower, c.fault_in.ensures, c.when.ensures, c.count.ensures)
    (lowest_named c.args.height (g.L.ReceiverList.list c.args.receivers.now))
