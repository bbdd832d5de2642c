-- The receivers rise, so the point where they come to the middle parts them.
use Rattle.std.proofs.Common.{rules, ltb}
use Rattle.std.proofs.lemmas.List.Sorted.{IsPartitionPoint-from_clause}
use Rattle.tree.proofs.Slices.{parted, cut_there}
use Rattle.tree.proofs.cover.count_before.Goals as goal

pub returns-clause-cut : goal.returns-clause-cut
returns-clause-cut c =
    let m = c.args.middle in
    let rs = c.args.receivers.now in
    cut_there m rs _ (IsPartitionPoint-from_clause (λ y. ltb y m) rs _ c.partition_point.ensures.partitioned (parted m rs c.requires) (λ a r q k. search rules))
