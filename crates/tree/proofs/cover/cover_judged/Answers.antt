-- Nobody is revoked and one part is written; or the whole tree is a branch that is closed at node 1.
use Rattle.std.proofs.Common.{◌≡◌, List, length, sym, ap, ◌∙◌, arith, eqb-true}
use borrow.Author.Tests.{eqb-false}
use Rattle.tree.specs.declared.parts.Part.{Part}
use Rattle.tree.specs.Cover.{work, cover}
use Rattle.tree.specs.Written.{closed}
use Rattle.fault.specs.Lowest.{lowest}
use Rattle.fault.specs.Memory.{over}
use Rattle.tree.proofs.Sides.{some_open}
use Rattle.tree.proofs.Branches.{same_work, same_rise, same_low}
use Rattle.tree.proofs.Whole.{room, some_room, beneath_top, top_clean, top_named, answered, within, covered}
use Rattle.tree.proofs.cover.cover_judged.Goals as goal

pub cover_branch-requires : goal.cover_branch-requires
cover_branch-requires c =
    let none = ap lowest (sym c.args.revoked.faultless) in
    let enough = c.if-not-has_room.ensures in
    let w = c.whole.ensures in
    let b = beneath_top c.args.revoked.height.levels c.args.revoked.list.now c.args.out.now none enough in
    record {
      rising = same_rise w.height w.levels w.node b;
      below = same_low w.height w.levels w.node b;
      room = room c.args.revoked.height.levels c.args.revoked.list.now c.args.out.now none enough;
    }

pub returns-then-is_empty : goal.returns-then-is_empty
returns-then-is_empty c =
    let h = c.args.revoked.height.levels in
    let rs = c.args.revoked.list.now in
    let memory = c.args.out.now in
    let none = ap lowest (sym c.args.revoked.faultless) in
    let enough = c.if-not-has_room.ensures in
    let done = top_clean h rs memory (some_room h rs memory none enough) (eqb-true (length rs) 0 (sym c.if-is_empty.ensures)) in
    record {
      answer = answered h rs memory none enough _ done.0;
      memory = done.1;
      within = within h rs memory none enough _ _ done.0 done.1;
      covers = covered h rs memory none enough _ _ done.0 done.1;
    }

pub returns : goal.returns
returns c =
    let h = c.args.revoked.height.levels in
    let rs = c.args.revoked.list.now in
    let memory = c.args.out.now in
    let none = ap lowest (sym c.args.revoked.faultless) in
    let enough = c.if-not-has_room.ensures in
    let w = c.whole.ensures in
    let some = some_open rs (beneath_top h rs memory none enough) (omega (arith, eqb-false (length rs) 0 (sym c.if-is_empty.ensures))) in
    let same = ap (closed 1) (same_work w.height w.levels w.node rs) ∙ top_named (work h rs h 1) some in
    let count : c.cover_branch.result ≡ length (cover h rs) = c.cover_branch.ensures.count ∙ ap length same in
    let wrote : c.cover_branch.new.free ≡ over (cover h rs) memory = c.cover_branch.ensures.wrote ∙ ap (λ (ps : List Part). over ps memory) same in
    record {
      answer = answered h rs memory none enough _ count;
      memory = wrote;
      within = within h rs memory none enough _ _ count wrote;
      covers = covered h rs memory none enough _ _ count wrote;
    }
