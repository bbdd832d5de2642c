-- The file's own lowest fault beside that of another height.
use Rattle.std.proofs.Common.{◌≡◌, not, eqb, get_or, arith}
use Rattle.std.proofs.lemmas.Grind.{common_steps}
use Rattle.fault.specs.declared.Fault.TheVariants.{OutOfRange}
use Rattle.fault.specs.Lowest.{when}
use Rattle.fault.proofs.Lowest.{judged_first, judged_second}
use Rattle.wire.specs.Labels.{labels_in, labels_faults}
use Rattle.wire.proofs.labels.read_labels_for.Goals as goal
use Rattle.wire.proofs.labels.read_labels_for.Goals.{After-unwrap_or}

there : (c : After-unwrap_or) → c.unwrap_or.result ≡ get_or c.args.bytes.now 1 0
there c = grind (arith, common_steps)

pub returns-in-Err : goal.returns-in-Err
returns-in-Err c =
    let s = c.args.bytes.now in
    let other = when (not (eqb (get_or s 1 0) c.args.height)) OutOfRange in
    judged_first (labels_faults s) other (labels_in s) c.in-Err.fault c.lower_than.result c.in-Err.ensures
    (rw (c.when-other.ensures, there (goal.at.returns-in-Err c).After-unwrap_or) at c.lower_than.ensures)

pub returns-in-Some : goal.returns-in-Some
returns-in-Some c =
    let s = c.args.bytes.now in
    let other = when (not (eqb (get_or s 1 0) c.args.height)) OutOfRange in
    judged_second (labels_faults s) other (labels_in s) _ c.in-Some.fault c.in-Ok.ensures (rw (there (goal.at.returns-in-Some c).After-unwrap_or) at c.in-Some.ensures)
