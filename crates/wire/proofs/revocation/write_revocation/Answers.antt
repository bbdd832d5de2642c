-- The head, the count and the receivers are written one behind the other.
use Rattle.std.proofs.Common.{ℕ, List, [], ◌∷◌, length, take, drop, sym, refl, ap, ◌∙◌, subst, arith, le-leb}
use borrow.Author.Tests.{lt-leb}
use Rattle.std.proofs.lemmas.List.{take_at}
use Rattle.std.specs.List.{flat_map}
use Rattle.tree.proofs.Memory.{over_on}
use Rattle.wire.specs.Words.{bytes4}
use Rattle.wire.specs.Revocation.{revocation_bytes, ReadsAs}
use Rattle.wire.proofs.Inverse.{length_bytes, reads_as}
use Rattle.wire.proofs.revocation.write_revocation.Goals as goal

pub returns-in-Some : goal.returns-in-Some
returns-in-Some c =
    let f = c.in-Some.ensures in
    record { answer = rw (c.into.ensures, ← f); memory = refl; read_back = tt }

pub returns-then-out-size : goal.returns-then-out-size
returns-then-out-size c =
    let none = c.in_default.ensures in
    let size = sym (c.size_of_list-size.ensures ∙ sym (length_bytes c.args.height c.args.receivers.now)) in
    let short = lt-leb (length (revocation_bytes c.args.height c.args.receivers.now)) (length c.args.out.now) (omega (arith, size, c.if-out-size.true)) in
    record { answer = rw (← none, short); memory = refl; read_back = tt }

pub returns : goal.returns
returns c =
    let h = c.args.height in
    let rs = c.args.receivers.now in
    let memory = c.args.out.now in
    let none = c.in_default.ensures in
    let size = sym (c.size_of_list-size.ensures ∙ sym (length_bytes h rs)) in
    let n = c.size_of_list-size.result in
    let enough = le-leb (length (revocation_bytes h rs)) (length memory) (omega (arith, size, c.if-out-size.false)) in
    let two = over_on (1 ∷ h ∷ []) (bytes4 (length rs)) memory c.write_head.new.out c.write_word.new.out 2 refl c.write_head.ensures c.write_word.ensures in
    let all = over_on (1 ∷ h ∷ bytes4 (length rs)) (flat_map bytes4 rs) memory _ c.write_words.new.out 6 refl two c.write_words.ensures in
    let front = ap (take n) all ∙ take_at (revocation_bytes h rs) (drop (length (revocation_bytes h rs)) memory) n size in
    record {
      answer = rw (← none, enough, size);
      memory = all;
      read_back = subst (λ (s : List ℕ). ReadsAs s h rs) (sym front) (reads_as h rs none);
    }
