-- The place of the first entry is given, and those of the others are left.
use Rattle.std.proofs.Common.{length, ap, arith}
use Rattle.wire.proofs.Stepping.{no_place, next_place}
use Rattle.wire.proofs.reading.PlacesIterator.next.Goals as goal

pub returns-in_err-entry-clause-steps : goal.returns-in_err-entry-clause-steps
returns-in_err-entry-clause-steps g c =
    let none = no_place g.row.SIZE c.args.self.now.entries.now c.in_err-entry.ensures.cases in
    rw c.from_residual.ensures (none, none)

pub returns-clause-steps : goal.returns-clause-steps
returns-clause-steps g c =
    let cut = c.in_ok-entry.ensures.cases in
    rw (c.place_in.ensures, cut.1, cut.2) (next_place g.row.SIZE c.args.self.now.entries.now c.args.self.now.wide cut.0)

pub returns-clause-goes : goal.returns-clause-goes
returns-clause-goes g c =
    let cut = c.in_ok-entry.ensures.cases in
    let e = ap length (next_place g.row.SIZE c.args.self.now.entries.now c.args.self.now.wide cut.0) in
    record { on = λ f. (tt, tt, rw cut.2 (omega (arith, e))); keeps = tt; rests = λ f. tt }
