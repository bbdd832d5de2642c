-- One receiver more is copied behind those before it.
use Rattle.std.proofs.Common.{◌≡◌, ◌<◌, length, take, refl, ◌∙◌, arith}
use Rattle.std.proofs.lemmas.List.{append-nil, drop_all, take_all, length-take-le}
use Rattle.tree.proofs.Memory.{over_more}
use Rattle.wire.specs.Words.{words}
use Rattle.wire.proofs.revocation.copy_words.Goals as goal

pub loop-i-preserved : goal.loop-i-preserved
loop-i-preserved c =
    let rs = words c.args.from.bytes.now in
    let memory = take c.count.result c.args.to.now in
    let within : c.loop-i.i < length rs = omega (arith, c.loop-i-test.true, c.count.ensures, c.told-to, c.requires, length-take-le c.count.result c.args.to.now (omega (arith, c.count.ensures, c.told-to, c.requires))) in
    over_more rs memory c.loop-i.i c.loop-i.invariant 0 c.at.result within c.loop-i-test.true c.at.ensures

pub returns : goal.returns
returns c =
    let rs = words c.args.from.bytes.now in
    let memory = take c.count.result c.args.to.now in
    let long = length-take-le c.count.result c.args.to.now (omega (arith, c.count.ensures, c.told-to, c.requires)) in
    let items : c.loop-i.receiver-items ≡ rs =
    c.loop-i.invariant
    ∙ rw (take_all c.loop-i.i rs (omega (arith, long, c.count.ensures, c.loop-i-test.false)), drop_all c.loop-i.i memory c.loop-i-test.false, append-nil) refl in
    rw (items, c.count.ensures) refl
