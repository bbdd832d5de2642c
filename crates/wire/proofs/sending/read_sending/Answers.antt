-- The reader comes to the faults in their order.
use Rattle.std.proofs.Common.{◌≡◌, Option, sym, ap, ◌∙◌}
use Rattle.std.proofs.lemmas.List.{take_rest}
use Rattle.fault.specs.declared.Fault.{Fault}
use Rattle.fault.specs.Lowest.{lowest, unless}
use Rattle.wire.specs.Sending.{sending_in, sending_faults}
use Rattle.wire.proofs.Gathered.{height_is, gathered}
use Rattle.wire.proofs.sending.read_sending.Goals as goal
use Rattle.wire.proofs.sending.read_sending.Goals.{After-lower_of}

lowest_is : (c : goal.After-lower_of) → c.lower_of.result ≡ lowest (sending_faults c.args.bytes.now)
lowest_is c =
    let s = c.args.bytes.now in
    let number = rw c.word_at-number.ensures at c.fault_in_number.ensures in
    let parts = rw (take_rest s 10) at c.fault_in_parts.ensures in
    c.lower_of.ensures.lower ∙ rw (number, parts) (gathered s _ c.in_ok-height.ensures c.if-not-is_whole.ensures)

pub returns-in-Some : goal.returns-in-Some
returns-in-Some c =
    let is = sym c.in-Some.is ∙ lowest_is (goal.at.returns-in-Some c).After-lower_of in
    ap (λ (o : Option Fault). unless o (sending_in c.args.bytes.now)) is

pub returns-in-None : goal.returns-in-None
returns-in-None c =
    let s = c.args.bytes.now in
    let none = sym c.in-None.is ∙ lowest_is (goal.at.returns-in-None c).After-lower_of in
    rw (← none, take_rest s 10, c.word_at-number.ensures, height_is s _ c.in_ok-height.ensures c.if-not-is_whole.ensures)
