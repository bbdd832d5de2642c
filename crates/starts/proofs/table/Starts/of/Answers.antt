-- What the search finds is the start of the node.
use Rattle.std.proofs.Common.{◌≡◌, refl, ap, ◌∙◌, rules}
use Rattle.std.proofs.lemmas.List.Sorted.{answers_always}
use Rattle.starts.specs.declared.start.Start.{Start}
use Rattle.starts.specs.Format.{start_in}
use Rattle.starts.proofs.Looked.{looked}
use Rattle.starts.proofs.table.Starts.of.Goals as goal

pub returns-in_err-place : goal.returns-in_err-place
returns-in_err-place c h us s has =
    let search_ran = c.binary_search_by_key.ensures in
    let by_node = search_ran.position (λ start. start.node) (answers_always _ _ _ (λ f a r g called. search rules)) in
    let found = looked h us s c.deref.result.now (rw c.deref.ensures.value has.nodes) (rw c.deref.ensures.value has.starts) c.args.node _ search_ran.bound by_node in
    let none = rw (← c.in_err-place.ensures.value) at found in
    rw (c.from_residual.ensures, none) refl

pub returns : goal.returns
returns c h us s has =
    let search_ran = c.binary_search_by_key.ensures in
    let by_node = search_ran.position (λ start. start.node) (answers_always _ _ _ (λ f a r g called. search rules)) in
    let found = looked h us s c.deref.result.now (rw c.deref.ensures.value has.nodes) (rw c.deref.ensures.value has.starts) c.args.node _ search_ran.bound by_node in
    let some = rw (← c.in_ok-place.ensures.value) at found in
    let bytes : c.index.result.now.bytes ≡ start_in s c.args.node =
    ap (λ (start : Start). start.bytes) c.index.ensures ∙ (rw c.deref.ensures.value at (some.1 c.index.result.now)) in
    rw (some.0, bytes) refl
