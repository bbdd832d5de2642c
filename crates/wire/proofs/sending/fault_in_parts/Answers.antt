-- Each part is tested, up to the first that fails, once for its nodes and once for their order.
use Rattle.std.proofs.Common.{◌&&◌, ◌||◌, refl, rules}
use borrow.Author.Tests.{tests}
use Rattle.tree.specs.Nodes.{in_tree}
use Rattle.tree.specs.Parts.{part, is_all, descends}
use Rattle.wire.specs.Entries.{places_in}
use Rattle.wire.specs.Sending.{parts_in, all_inside, all_descend}
use Rattle.wire.proofs.Tested.{all_tested}
use Rattle.wire.proofs.Gathered.{lowest_parts}
use Rattle.wire.proofs.sending.fault_in_parts.Goals as goal

pub returns : goal.returns
unfolding all_inside all_descend
returns c =
    let h = c.args.height.levels in
    let inside = all_tested (λ p. is_all p || (in_tree h p.first && in_tree h p.second)) (all_inside h) refl (λ p ps. refl) (part 0 0)
    (λ s. places_in 56 s.entries.now) _ c.all-inside.new.self _ _ c.all-inside.ensures.ran (λ x q k. search (rules, tests)) (λ x q k. search (rules, tests)) in
    let descending = all_tested (λ p. is_all p || descends h p) (all_descend h) refl (λ p ps. refl) (part 0 0)
    (λ s. places_in 56 s.entries.now) _ c.all-descending.new.self _ _ c.all-descending.ensures.ran (λ x q k. search (rules, tests)) (λ x q k. search (rules, tests)) in
    rw (c.lower_of.ensures.lower, c.when.ensures, c.when-2.ensures, inside, descending)
    (lowest_parts (all_inside h (parts_in c.args.headers.now)) (all_descend h (parts_in c.args.headers.now)))
