-- The cover below a node is that of its sides, one behind the other.
use Rattle.std.proofs.Common.{◌≡◌, ℕ, ◌+◌, ◌-◌, ◌*◌, ◌≤◌, length, take, drop, sym, refl, arith, rules, eqb-true}
use borrow.Rule.Slice.PartMut.{put_mid}
use borrow.Author.Tests.{eqb-false}
use Rattle.std.proofs.lemmas.List.{nil_from_length, take_all, take_rest}
use Rattle.tree.specs.Cover.{work}
use Rattle.fault.specs.Memory.{over}
use Rattle.tree.specs.Written.{closed}
use Rattle.tree.proofs.Memory.{take_front}
use Rattle.tree.proofs.Slices.{rising_weaker}
use Rattle.tree.proofs.Sides.{none_clean, leaf_named}
use Rattle.tree.proofs.Branches.{beneath, same_work, same_rise, same_low, on_left, on_right, all_left, all_right, same_written, same_count}
use Rattle.tree.proofs.Forks.{Fork, room_left, used_le, length_second, room_right, written, total, total_le}
use Rattle.tree.proofs.cover.+cover_branch.Goals as goal
use Rattle.tree.proofs.cover.+cover_branch.Goals.{After-close_side-closing, After-cover_branch-on_left}

pub returns-then-is_empty : goal.returns-then-is_empty
returns-then-is_empty t c =
    let e = nil_from_length c.args.revoked.now (eqb-true (length c.args.revoked.now) 0 (sym c.if-is_empty.ensures)) in
    let f = none_clean c.args.at.height.levels c.args.at.levels c.args.at.node in
    rw (e, f) record { wrote = refl; count = refl }

pub returns-then-at-eq0 : goal.returns-then-at-eq0
returns-then-at-eq0 t c =
    let b = beneath c.args.at c.args.revoked.now c.requires.rising c.requires.below in
    let w = leaf_named b c.if-at-eq0.true (eqb-false (length c.args.revoked.now) 0 (sym c.if-is_empty.ensures)) in
    rw w record { wrote = c.close_side.ensures.wrote; count = c.close_side.ensures.count }

pub count_left-split-requires : goal.count_left-split-requires
count_left-split-requires t c = record { inner = omega arith; rising = rising_weaker 0 _ c.args.revoked.now (omega arith) c.requires.rising }

pub cover_branch-requires : goal.cover_branch-requires
cover_branch-requires t c =
    let b = beneath c.args.at c.args.revoked.now c.requires.rising c.requires.below in
    let r = c.side-right.ensures in
    let s = rw c.if-split-eq0.true at (on_right b (omega arith) c.count_left-split.ensures.cut) in
    (omega arith, (same_rise r.height r.levels r.node s, (same_low r.height r.levels r.node s, c.requires.room)))

pub returns-then-split-eq0 : goal.returns-then-split-eq0
returns-then-split-eq0 t c =
    let b = beneath c.args.at c.args.revoked.now c.requires.rising c.requires.below in
    let r = c.side-right.ensures in
    let w = all_right b (omega arith) c.count_left-split.ensures.cut c.if-split-eq0.true in
    let v = same_work r.height r.levels r.node c.args.revoked.now in
    rw (w, ← v) record { wrote = c.cover_branch.ensures.wrote; count = c.cover_branch.ensures.count }

pub cover_branch-requires-then-split-revoked : goal.cover_branch-requires-then-split-revoked
cover_branch-requires-then-split-revoked t c =
    let b = beneath c.args.at c.args.revoked.now c.requires.rising c.requires.below in
    let l = c.side-left.ensures in
    let all = take_all c.count_left-split.result c.args.revoked.now (omega arith) in
    let s = rw all at (on_left b (omega arith) c.count_left-split.ensures.cut) in
    (omega arith, (same_rise l.height l.levels l.node s, (same_low l.height l.levels l.node s, c.requires.room)))

pub returns-then-split-revoked : goal.returns-then-split-revoked
returns-then-split-revoked t c =
    let b = beneath c.args.at c.args.revoked.now c.requires.rising c.requires.below in
    let l = c.side-left.ensures in
    let w = all_left b (omega arith) c.count_left-split.ensures.cut c.if-split-revoked.true in
    let v = same_work l.height l.levels l.node c.args.revoked.now in
    rw (w, ← v) record { wrote = c.cover_branch-then-split-revoked.ensures.wrote; count = c.cover_branch-then-split-revoked.ensures.count }

fork : (t : ℕ) (c : goal.After-close_side-closing t) →
    Fork c.args.at.height.levels c.args.at.levels c.args.at.node c.args.revoked.now c.count_left-split.result c.args.side c.args.free.now
    c.close_side-closing.result c.close_side-closing.new.free
fork t c =
    record {
      beneath = beneath c.args.at c.args.revoked.now c.requires.rising c.requires.below;
      inner = omega arith;
      cut = c.count_left-split.ensures.cut;
      some = omega arith;
      others = omega (arith, c.count_left-split.ensures.within);
      room = c.requires.room;
      closing_is = c.close_side-closing.ensures.count;
      first_is = c.close_side-closing.ensures.wrote;
    }

pub cover_branch-on_left-requires : goal.cover_branch-on_left-requires
cover_branch-on_left-requires t c =
    let f = fork t (goal.at.cover_branch-on_left-requires t c).After-close_side-closing in
    let l = c.side-left.ensures in
    let s = on_left f.beneath f.inner f.cut in
    rw (take_front c.args.revoked.now c.count_left-split.result)
    (omega arith, (same_rise l.height l.levels l.node s, (same_low l.height l.levels l.node s, room_left f)))

-- the left side is written
left_count : (t : ℕ) (c : goal.After-cover_branch-on_left t) →
    c.cover_branch-on_left.result ≡ length (closed (2 * c.args.at.node) (work c.args.at.height.levels (take c.count_left-split.result c.args.revoked.now) (c.args.at.levels - 1) (2 * c.args.at.node)))
left_count t c =
    let l = c.side-left.ensures in
    same_count l.height l.levels l.node (take_front c.args.revoked.now c.count_left-split.result) c.cover_branch-on_left.ensures.count

left_end : (t : ℕ) (c : goal.After-cover_branch-on_left t) →
    c.cover_branch-on_left.new.free
    ≡ over (closed (2 * c.args.at.node) (work c.args.at.height.levels (take c.count_left-split.result c.args.revoked.now) (c.args.at.levels - 1) (2 * c.args.at.node)))
    (take (length c.close_side-closing.new.free - c.close_side-closing.result) (drop c.close_side-closing.result c.close_side-closing.new.free))
left_end t c =
    let l = c.side-left.ensures in
    same_written l.height l.levels l.node _ (take_front c.args.revoked.now c.count_left-split.result) c.cover_branch-on_left.ensures.wrote

used_within : (t : ℕ) (c : goal.After-cover_branch-on_left t) →
    Fork c.args.at.height.levels c.args.at.levels c.args.at.node c.args.revoked.now c.count_left-split.result c.args.side c.args.free.now
    c.close_side-closing.result c.close_side-closing.new.free →
    c.close_side-closing.result + c.cover_branch-on_left.result
    ≤ length (put_mid c.close_side-closing.result (length c.close_side-closing.new.free - c.close_side-closing.result) c.close_side-closing.new.free c.cover_branch-on_left.new.free)
used_within t c f =
    omega (arith, f.room, f.others, used_le f (left_count t c) (left_end t c), length_second f (left_count t c) (left_end t c))

pub overflow_add-used : goal.overflow_add-used
overflow_add-used t c =
    let at = goal.at.overflow_add-used t c in
    let f = fork t at.After-close_side-closing in
    let d = at.After-cover_branch-on_left in
    omega (arith, used_le f (left_count t d) (left_end t d), f.others)

pub offset_bounds-free-used : goal.offset_bounds-free-used
offset_bounds-free-used t c =
    let at = goal.at.offset_bounds-free-used t c in
    let u = used_within t at.After-cover_branch-on_left (fork t at.After-close_side-closing) in
    search (rules, u)

pub slice_bounds-cover_branch-count-4 : goal.slice_bounds-cover_branch-count-4
slice_bounds-cover_branch-count-4 t c =
    let at = goal.at.slice_bounds-cover_branch-count-4 t c in
    used_within t at.After-cover_branch-on_left (fork t at.After-close_side-closing)

pub slice_bounds-cover_branch-start-4 : goal.slice_bounds-cover_branch-start-4
slice_bounds-cover_branch-start-4 t c =
    let at = goal.at.slice_bounds-cover_branch-start-4 t c in
    used_within t at.After-cover_branch-on_left (fork t at.After-close_side-closing)

pub cover_branch-on_right-requires : goal.cover_branch-on_right-requires
cover_branch-on_right-requires t c =
    let f = fork t (goal.at.cover_branch-on_right-requires t c).After-close_side-closing in
    let d = (goal.at.cover_branch-on_right-requires t c).After-cover_branch-on_left in
    let r = c.side-right.ensures in
    let s = on_right f.beneath f.inner f.cut in
    rw (take_rest c.args.revoked.now c.count_left-split.result)
    (omega arith, (same_rise r.height r.levels r.node s, (same_low r.height r.levels r.node s, room_right f (left_count t d) (left_end t d))))

pub overflow_add-result : goal.overflow_add-result
overflow_add-result t c =
    let f = fork t (goal.at.overflow_add-result t c).After-close_side-closing in
    let d = (goal.at.overflow_add-result t c).After-cover_branch-on_left in
    let r = c.side-right.ensures in
    let rest = take_rest c.args.revoked.now c.count_left-split.result in
    let more = same_count r.height r.levels r.node rest c.cover_branch-on_right.ensures.count in
    let le = total_le f (left_count t d) (left_end t d) more in
    search (rules, le)

pub returns : goal.returns
returns t c =
    let f = fork t (goal.at.returns t c).After-close_side-closing in
    let d = (goal.at.returns t c).After-cover_branch-on_left in
    let r = c.side-right.ensures in
    let rest = take_rest c.args.revoked.now c.count_left-split.result in
    let more = same_count r.height r.levels r.node rest c.cover_branch-on_right.ensures.count in
    let tail = same_written r.height r.levels r.node _ rest c.cover_branch-on_right.ensures.wrote in
    record {
      wrote = written f (left_count t d) (left_end t d) more tail;
      count = total f (left_count t d) (left_end t d) more;
    }
