-- Each place is tested, up to the first that is outside.
use Rattle.std.proofs.Common.{◌&&◌, refl, rules}
use borrow.Author.Tests.{tests}
use Rattle.tree.specs.Nodes.{in_tree}
use Rattle.tree.specs.Parts.{part}
use Rattle.wire.specs.Entries.{places_in}
use Rattle.wire.specs.Labels.{all_in_tree}
use Rattle.wire.proofs.Tested.{all_tested}
use Rattle.wire.proofs.labels.all_in_tree.Goals as goal

pub returns : goal.returns
unfolding all_in_tree
returns c =
    let h = c.args.height.levels in
    all_tested (λ p. in_tree h p.first && in_tree h p.second) (all_in_tree h) refl (λ p ps. refl) (part 0 0)
    (λ s. places_in 40 s.entries.now) _ c.all.new.self _ _ c.all.ensures.ran (λ x q k. search (rules, tests)) (λ x q k. search (rules, tests))
