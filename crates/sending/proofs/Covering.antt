-- A covered session key is the bytes of the terms of a header. Assumes nothing.
use Rattle.std.proofs.Common.{◌≡◌, ℕ, suc, List, [], ◌++◌, length, take, drop, replicate, sym, ap, ◌∙◌, ap₂, append-nil, arith, length-append}
use Rattle.std.proofs.lemmas.List.{length-take}
use Rattle.secrecy.specs.Terms.{Term, Pad, Check, Session, Xor}
use Rattle.secrecy.specs.Worlds.{World, xors, bytes}
use Rattle.sending.proofs.Xors.{xors_append, xors_zeros}

-- 48 bytes that are the first 32 and the next 16 of a block
pad_length : (w : World) (k : Term) (n : ℕ) (pad : List ℕ) → length pad ≡ 48 → pad ≡ bytes w (Pad k n) ++ bytes w (Check k n) → length (bytes w (Pad k n)) ≡ 32
unfolding bytes
pad_length w k n pad full e =
    let b = w.block (bytes w k) (suc (suc n)) in
    omega (arith, full, ap length e, length-append (take 32 b) (take 16 (drop 32 b)), length-take 32 b, length-take 16 (drop 32 b))

pub under_terms : (w : World) (k : Term) (n s : ℕ) (pad session result : List ℕ) → length pad ≡ 48 → length session ≡ 32 →
    pad ≡ bytes w (Pad k n) ++ bytes w (Check k n) → session ≡ bytes w (Session s) → result ≡ xors pad (session ++ replicate 16 0) →
    result ≡ bytes w (Xor (Pad k n) (Session s)) ++ (bytes w (Check k n) ++ [])
unfolding bytes
under_terms w k n s pad session result full wide ep es er =
    let a = bytes w (Pad k n) in
    let b = bytes w (Check k n) in
    er ∙ ap (λ (l : List ℕ). xors l (session ++ replicate 16 0)) ep
    ∙ xors_append a b session (replicate 16 0) (pad_length w k n pad full ep ∙ sym wide)
    ∙ ap₂ ◌++◌ (ap (xors a) es) (xors_zeros 16 b ∙ sym (append-nil b))
