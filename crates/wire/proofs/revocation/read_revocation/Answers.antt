-- The reader comes to the faults in their order, and copies the receivers where there are none.
use Rattle.std.proofs.Common.{Option, sym, refl, ap, ◌∙◌}
use Rattle.std.proofs.lemmas.List.{take_rest}
use Rattle.fault.specs.declared.Fault.{Fault}
use Rattle.fault.specs.Lowest.{lowest, unless}
use Rattle.fault.proofs.Lowest.{lowest_none}
use Rattle.wire.specs.Revocation.{revoked_in, revocation_faults, revocation_in}
use Rattle.wire.proofs.Listed.{height_is, count_is, faults_are, named_few}
use Rattle.wire.proofs.Inverse.{read_exact}
use Rattle.wire.proofs.revocation.read_revocation.Goals as goal

pub returns-in-Some-fault_in_named : goal.returns-in-Some-fault_in_named
returns-in-Some-fault_in_named c =
    let s = c.args.bytes.now in
    let f = (rw (take_rest s 6) at c.in-Some-fault_in_named.ensures) ∙ sym (ap lowest (faults_are s _ _ c.in_ok-height.ensures c.in-Some.ensures)) in
    record { read = ap (λ (o : Option Fault). unless o (revocation_in s)) f; memory = refl; exact = tt }

pub copy_words-requires : goal.copy_words-requires
copy_words-requires c =
    let s = c.args.bytes.now in
    rw (take_rest s 6) (named_few c.in_ok-height.height.levels (revoked_in s) (rw (take_rest s 6) at c.in_default-fault_in_named.ensures))

pub returns : goal.returns
returns c =
    let s = c.args.bytes.now in
    let head = c.in_ok-height.ensures in
    let count = c.in-Some.ensures in
    let none = (rw (take_rest s 6) at c.in_default-fault_in_named.ensures) ∙ sym (ap lowest (faults_are s _ _ head count)) in
    let height = height_is s _ _ head count in
    record {
      read = rw (← none, height, count_is s _ _ head count);
      memory = rw (take_rest s 6) at c.copy_words.ensures;
      exact = rw height (read_exact s (λ i. (c.type_inv.bytes i).fits) (lowest_none (revocation_faults s) none));
    }
