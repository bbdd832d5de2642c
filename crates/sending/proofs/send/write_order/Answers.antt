-- The parts are noted, the front of the file is written, and then the headers behind it.
use Rattle.std.proofs.Common.{ℕ, List, ◌++◌, length, drop, sym, refl, ap, ◌∙◌, arith, length-append}
use Rattle.std.proofs.lemmas.List.{take_rest, length-drop}
use Rattle.fault.specs.Lowest.{lowest}
use Rattle.tree.specs.Cover.{cover}
use Rattle.tree.proofs.Judged.{sound}
use Rattle.secrecy.specs.Air.{as_trial}
use Rattle.keys.specs.Drawn.{world}
use Rattle.wire.specs.Sending.{sending_head}
use Rattle.sending.specs.Headers.{firsts_kept}
use Rattle.sending.proofs.Counted.{count_is, noted_is, few_noted}
use Rattle.sending.proofs.Parts.{noted_sendable}
use Rattle.sending.proofs.Whole.{sent_in}
use Rattle.sending.proofs.send.write_order.Goals as goal

pub write_headers-requires : goal.write_headers-requires
write_headers-requires g c =
    let k = c.args.order.revoked.height.levels in
    let rs = c.args.order.revoked.list.now in
    let before = c.args.parts.now in
    let mid = c.copy_from_slice.new.self ++ drop 10 c.args.out.now in
    let e = c.in_ok-count.ensures in
    let noted = noted_is k rs before c.cover_rest.new.parts c.in_ok-count.count e.answer e.memory in
    let few = few_noted k rs before c.cover_rest.new.parts c.in_ok-count.count e.answer e.memory in
    let long = length-append c.copy_from_slice.new.self (drop 10 c.args.out.now) in
    rw (noted, take_rest mid 10, length-drop 10 mid) (omega (arith, few, long, length-drop 10 c.args.out.now, c.copy_from_slice.ensures.len))

pub returns-then-not-has_starts : goal.returns-then-not-has_starts
returns-then-not-has_starts g c =
    let k = c.args.order.revoked.height.levels in
    let rs = c.args.order.revoked.list.now in
    let e = c.in_ok-count.ensures in
    let noted = noted_is k rs c.args.parts.now c.cover_rest.new.parts c.in_ok-count.count e.answer e.memory in
    record {
      within = tt;
      noted = e.memory;
      written = λ us s has. (sym (c.if-not-has_starts.ensures k us s has ∙ ap (firsts_kept k us) noted), c.into.ensures, refl);
    }

pub returns-in_err-write_headers-clause-noted : goal.returns-in_err-write_headers-clause-noted
returns-in_err-write_headers-clause-noted g c = c.in_ok-count.ensures.memory

pub returns-in_err-write_headers-clause-written : goal.returns-in_err-write_headers-clause-written
returns-in_err-write_headers-clause-written g c us s has =
    let k = c.args.order.revoked.height.levels in
    let rs = c.args.order.revoked.list.now in
    let e = c.in_ok-count.ensures in
    let noted = noted_is k rs c.args.parts.now c.cover_rest.new.parts c.in_ok-count.count e.answer e.memory in
    let none = ap lowest (sym c.args.order.revoked.faultless) in
    absurd (c.in_err-write_headers.ensures k us s has (noted_sendable k rs us _ noted (sound k rs none).1 (c.if-not-has_starts.ensures k us s has)))

pub returns : goal.returns
returns g c =
    let k = c.args.order.revoked.height.levels in
    let rs = c.args.order.revoked.list.now in
    let before = c.args.out.now in
    let e = c.in_ok-count.ensures in
    let count = count_is k rs c.args.parts.now c.cover_rest.new.parts c.in_ok-count.count e.answer e.memory in
    let noted = noted_is k rs c.args.parts.now c.cover_rest.new.parts c.in_ok-count.count e.answer e.memory in
    let few = few_noted k rs c.args.parts.now c.cover_rest.new.parts c.in_ok-count.count e.answer e.memory in
    let none = ap lowest (sym c.args.order.revoked.faultless) in
    let front = c.copy_from_slice.ensures.after ∙ c.head_bytes.ensures in
    record {
      within = omega (arith, count, few);
      noted = e.memory;
      written =
          λ us s has.
          let kept = c.if-not-has_starts.ensures k us s has in (
            sym (kept ∙ ap (firsts_kept k us) noted),
            count,
            λ d m o.
                let wrote = c.in_ok-write_headers.ensures k us s has (noted_sendable k rs us _ noted (sound k rs none).1 kept) d (as_trial k m) o.number o.starts o.session in
                let parts = noted ∙ ap (cover k) (sym o.revoked) in
                let head = ap (λ (l : List ℕ). l ++ drop 10 before) (front ∙ ap (λ (n : ℕ). sending_head k n c.in_ok-count.count) (sym o.number) ∙ ap (sending_head k m.number) (count ∙ ap (λ (r : List ℕ). length (cover k r)) (sym o.revoked))) in
                sent_in (world g.C.Cipher.gives d) k m before _ c.write_headers.new.out head (rw parts at wrote),
          );
    }
