-- So many receivers as a tree has make no more parts than four bytes can count.
use Rattle.std.proofs.Common.{length, arith}
use Rattle.fault.specs.Lowest.{lowest}
use Rattle.tree.specs.Receivers.{list_faults}
use Rattle.tree.specs.Cover.{cover}
use Rattle.tree.specs.Promise.{most}
use Rattle.sending.proofs.Counted.{fitted_ok, few_parts}
use Rattle.sending.proofs.send.cover_rest.Goals as goal

pub overflow_cast-result : goal.overflow_cast-result
overflow_cast-result c =
    let h = c.args.revoked.height.levels in
    let rs = c.args.revoked.list.now in
    let (none, room, count) = fitted_ok (lowest (list_faults h rs)) (most (length rs)) (length c.args.parts.now) (length (cover h rs)) c.in_ok-count.count c.in_ok-count.ensures.answer in
    omega (arith, count, few_parts h rs none)
