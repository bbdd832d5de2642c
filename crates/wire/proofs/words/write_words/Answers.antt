-- One number more is written behind those before it.
use Rattle.std.proofs.Common.{◌≡◌, ℕ, ◌*◌, List, length, get_or, take, ap, ◌∙◌, arith}
use Rattle.std.proofs.lemmas.List.{length-take-le, take_all}
use Rattle.std.specs.List.{flat_map}
use Rattle.fault.specs.Memory.{over}
use Rattle.tree.proofs.Memory.{over_on}
use Rattle.wire.specs.Words.{bytes4}
use Rattle.wire.proofs.Bytes.{length_joined, joined_take}
use Rattle.wire.proofs.words.write_words.Goals as goal

pub loop-i-preserved : goal.loop-i-preserved
loop-i-preserved c =
    let ns = c.args.numbers.now in
    let i = c.loop-i.i in
    let size : 4 * i ≡ length (flat_map bytes4 (take i ns)) = omega (arith, length_joined (take i ns), length-take-le i ns (omega (arith, c.loop-i-test.true))) in
    over_on (flat_map bytes4 (take i ns)) (bytes4 (get_or ns i 0)) c.args.out.now c.loop-i.out c.write_word.new.out (4 * i) size c.loop-i.invariant c.write_word.ensures
    ∙ ap (λ (bs : List ℕ). over bs c.args.out.now) (joined_take ns i (omega (arith, c.loop-i-test.true)))

pub returns : goal.returns
returns c =
    let ns = c.args.numbers.now in
    let all = take_all c.loop-i.i ns c.loop-i-test.false in
    c.loop-i.invariant ∙ ap (λ (ks : List ℕ). over (flat_map bytes4 ks) c.args.out.now) all
