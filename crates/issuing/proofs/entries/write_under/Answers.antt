-- Each turn goes one node further down and writes one entry more.
use Rattle.std.proofs.Common.{◌≡◌, ℕ, suc, ◌-◌, ◌*◌, ◌/◌, ◌^◌, ◌<◌, ◌≤◌, length, ap, ◌∙◌, arith}
use Rattle.tree.specs.Parts.{part}
use Rattle.tree.specs.Ways.{sibling}
use Rattle.secrecy.specs.Terms.{label}
use Rattle.keys.specs.Drawn.{world}
use Rattle.wire.specs.Entries.{entry_bytes}
use Rattle.issuing.proofs.Under.{ahead_all, ahead_more, ahead_none}
use Rattle.issuing.proofs.entries.write_under.Goals as goal

pub loop-left-init : goal.loop-left-init
loop-left-init g c d tree h high e = ahead_all (world g.C.Cipher.gives d) tree h c.args.steps c.args.leaf c.args.out.now c.args.start e

pub loop-left-preserved : goal.loop-left-preserved
loop-left-preserved g c d tree h high e =
    let w = world g.C.Cipher.gives d in
    let x = c.args.leaf in
    let m = c.loop-left.left - 1 in
    let more : c.loop-left.left ≡ suc m = omega arith in
    let a = rw more at (c.loop-left.invariant d tree h high e) in
    let above = label tree h (x / 2 ^ c.args.steps) (x / 2 ^ suc m) in
    let first = x / 2 ^ c.args.steps in
    let entry : c.copy_from_slice.new.self ≡ entry_bytes (part first (sibling (x / 2 ^ m))) c.fork.result.1 =
    c.copy_from_slice.ensures.after ∙ c.entry_bytes.ensures ∙ ap (λ (j : ℕ). entry_bytes (part first j) c.fork.result.1) c.sibling_of.ensures in
    let far : 2 ^ c.args.steps ≤ x = omega arith in
    let room : 40 * c.args.steps ≤ length c.args.out.now = omega arith in
    let next : m < c.args.steps = omega arith in
    let full : length c.fork.result.1 ≡ 32 = omega (arith, ap length entry, c.copy_from_slice.ensures.len) in
    rw entry
    (ahead_more w tree h c.args.steps x c.args.out.now high far room m _ _ _ _ next a full
    (c.fork.ensures.own d above a.at) (c.fork.ensures.beside d above a.at))

pub returns : goal.returns
returns g c d tree h high e =
    let none : c.loop-left.left ≡ 0 = omega arith in
    ahead_none (world g.C.Cipher.gives d) tree h c.args.steps c.args.leaf c.args.out.now _ _ (rw none at (c.loop-left.invariant d tree h high e))
