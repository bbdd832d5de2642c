-- Each turn writes the header of one part more; for parts that headers can be made for, none fails.
use Rattle.std.proofs.Common.{◌≡◌, length, get_or, sym, ap, ◌∙◌, arith}
use Rattle.std.proofs.lemmas.List.{take_all}
use Rattle.std.proofs.lemmas.Bool.{both_ways}
use Rattle.tree.specs.Parts.{part}
use Rattle.tree.proofs.Tests.{told, untold}
use Rattle.secrecy.specs.Worlds.{bytes}
use Rattle.keys.specs.Drawn.{world}
use Rattle.starts.specs.Format.{start_in}
use Rattle.starts.specs.Kept.{is_kept}
use Rattle.wire.specs.Entries.{entry_bytes}
use Rattle.sending.proofs.Filling.{filled_none, filled_more}
use Rattle.sending.proofs.headers.write_headers.Goals as goal

pub loop-i-init : goal.loop-i-init
loop-i-init g c h us s has all d m e drawn session = filled_none (world g.C.Cipher.gives d) h m c.args.parts.now c.args.out.now

pub returns-in_default : goal.returns-in_default
returns-in_default g c h us s has all =
    let p = get_or c.args.parts.now c.loop-i.i (part 0 0) in
    let one = all c.loop-i.i c.loop-i-test.true in
    both_ways (is_kept h us p.first) (untold (is_kept h us p.first) (start_in s p.first) (c.in_default.ensures h us s has)) one.kept

pub loop-i-preserved : goal.loop-i-preserved
unfolding bytes
loop-i-preserved g c h us s has all d m e drawn session =
    let w = world g.C.Cipher.gives d in
    let ps = c.args.parts.now in
    let i = c.loop-i.i in
    let p = get_or ps i (part 0 0) in
    let one = all i c.loop-i-test.true in
    let start = (told (is_kept h us p.first) c.in-Some.start (start_in s p.first) (c.in-Some.ensures h us s has)).1 ∙ sym (drawn p.first one.first_low) in
    let covered = c.in_ok-covered.ensures h one.low one.is_proper d m e start session in
    let entry : c.copy_from_slice.new.self ≡ entry_bytes p c.in_ok-covered.covered = c.copy_from_slice.ensures.after ∙ c.header_bytes.ensures in
    let full : length c.in_ok-covered.covered ≡ 48 = omega (arith, ap length entry, c.copy_from_slice.ensures.len) in
    rw entry
    (filled_more w h m ps c.args.out.now i c.loop-i.out c.in_ok-covered.covered c.loop-i-test.true (c.loop-i.invariant h us s has all d m e drawn session) full covered)

pub returns : goal.returns
returns g c h us s has all d m e drawn session =
    let ps = c.args.parts.now in
    rw (take_all c.loop-i.i ps c.loop-i-test.false) at (c.loop-i.invariant h us s has all d m e drawn session)
