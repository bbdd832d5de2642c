-- The reader comes to the faults in their order.
use Rattle.std.proofs.Common.{◌≡◌, ◌^◌, true, ltb, length, take, drop, rules, Option, sym, ap, ◌∙◌}
use Rattle.std.proofs.lemmas.List.{take_rest}
use Rattle.std.proofs.lemmas.Bool.{and_parts}
use Rattle.fault.specs.declared.Fault.{Fault}
use Rattle.fault.specs.Lowest.{unless}
use Rattle.tree.specs.Receivers.{is_height}
use Rattle.wire.specs.Words.{word_at}
use Rattle.wire.specs.Labels.{labels_size, labels_in}
use Rattle.wire.proofs.Labelled.{height_is, outside, astray, faultless}
use Rattle.wire.proofs.labels.read_labels.Goals as goal
use Rattle.wire.proofs.labels.read_labels.Goals.{In-Some}

size : (c : goal.In-Some) → length c.args.bytes.now ≡ labels_size c.in_ok-height.height.levels
size c = c.if-bytes-size_of_labels.false ∙ c.size_of_labels.ensures

start_is : (c : goal.After-unwrap) → c.unwrap.result ≡ take 32 (drop 6 c.args.bytes.now)
start_is c = search rules

there : (c : goal.In-Some) → true ≡ ltb (word_at c.args.bytes.now 2) (2 ^ c.in_ok-height.height.levels)
there c =
    let h = c.in_ok-height.height.levels in
    let t = rw c.word_at-receiver.ensures at c.in-Some.ensures.there in
    sym (and_parts (is_height h) (ltb (word_at c.args.bytes.now 2) (2 ^ h)) (sym t)).1

pub returns-then-not-all_in_tree : goal.returns-then-not-all_in_tree
returns-then-not-all_in_tree c =
    let s = c.args.bytes.now in
    let d = (goal.at.returns-then-not-all_in_tree c).In-Some in
    let test = rw (take_rest s 38) at c.if-not-all_in_tree.ensures in
    sym (ap (λ (o : Option Fault). unless o (labels_in s)) (outside s _ c.in_ok-height.ensures (size d) (there d) test))

pub returns-then-not-is_along : goal.returns-then-not-is_along
returns-then-not-is_along c =
    let s = c.args.bytes.now in
    let d = (goal.at.returns-then-not-is_along c).In-Some in
    let test = rw (take_rest s 38) at c.if-not-all_in_tree.ensures in
    let along = rw (take_rest s 38, c.in-Some.ensures.whole, c.word_at-receiver.ensures) at c.if-not-is_along.ensures in
    sym (ap (λ (o : Option Fault). unless o (labels_in s)) (astray s _ c.in_ok-height.ensures (size d) (there d) test along))

pub returns : goal.returns
returns c =
    let s = c.args.bytes.now in
    let d = (goal.at.returns c).In-Some in
    let head = c.in_ok-height.ensures in
    let test = rw (take_rest s 38) at c.if-not-all_in_tree.ensures in
    let along = rw (take_rest s 38, c.in-Some.ensures.whole, c.word_at-receiver.ensures) at c.if-not-is_along.ensures in
    let none = faultless s _ head (size d) (there d) test along in
    let start = start_is c in
    rw (none, take_rest s 38, c.word_at-receiver.ensures, start, height_is s _ head (size d))
