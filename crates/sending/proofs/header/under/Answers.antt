-- Two lists of one length that have the same byte at each place are equal.
use Rattle.std.proofs.Common.{◌≡◌, ℕ, List, ◌++◌, length, get_or, replicate, sym, ap, ◌∙◌, arith, length-append}
use lib.Bits.{bit_xor}
use Rattle.std.proofs.lemmas.List.{ext_get_or}
use Rattle.sending.proofs.Xors.{length_xors, get_or_xors}
use Rattle.sending.proofs.header.under.Goals as goal

pub returns : goal.returns
returns c =
    let pad = c.args.pad in
    let session = c.args.session in
    let plain = session ++ replicate 16 0 in
    let is_plain : c.copy_from_slice.new.self ++ replicate 16 0 ≡ plain = ap (λ (l : List ℕ). l ++ replicate 16 0) c.copy_from_slice.ensures.after in
    let long : length plain ≡ 48 = omega (arith, length-append session (replicate 16 0)) in
    ext_get_or 0 _ _
    (omega (arith, c.loop-i.invariant.0, length_xors pad plain))
    (λ k l.
    c.loop-i.invariant.1 k (omega arith) ∙ ap (λ (p : List ℕ). bit_xor (get_or pad k 0) (get_or p k 0)) is_plain
    ∙ sym (get_or_xors pad plain k (omega arith) (omega (arith, long))))
