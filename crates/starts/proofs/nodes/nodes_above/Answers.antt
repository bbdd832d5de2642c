-- Level by level.
use Rattle.std.proofs.Common.{◌≡◌, ℕ, List, ◌++◌, ap, ◌∙◌, add-one, arith}
use Rattle.starts.specs.Levels.{level_above, levels_above}
use Rattle.starts.proofs.Members.{kept_nodes}
use Rattle.starts.proofs.Pushed.{faultless}
use Rattle.starts.proofs.nodes.nodes_above.Goals as goal

pub loop-level-init : goal.loop-level-init
unfolding levels_above
loop-level-init c = c.in_ok-nodes.ensures.items_if_clones_equal (λ y e. e)

pub loop-level-preserved : goal.loop-level-preserved
unfolding levels_above
loop-level-preserved c =
    rw (add-one c.loop-level.level)
    (c.in_ok-push_level.ensures ∙ ap (λ (xs : List ℕ). xs ++ level_above c.args.asked.height.levels c.args.asked.list.now c.loop-level.level) c.loop-level.invariant)

pub returns : goal.returns
returns c =
    let h = c.args.asked.height.levels in
    let us = c.args.asked.list.now in
    let sound = faultless h us c.args.asked.faultless in
    let all : c.loop-level.level ≡ h = omega (arith, c.loop-level.auto.level-end, c.loop-level-test.false) in
    rw (c.loop-level.invariant, all) (kept_nodes h us sound.1 sound.2)
