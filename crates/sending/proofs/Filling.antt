-- One header more behind those before it. Assumes nothing.
use Rattle.std.proofs.Common.{◌≡◌, ℕ, ◌+◌, ◌-◌, ◌*◌, ◌<◌, List, [], ◌∷◌, ◌++◌, map, length, get_or, take, sym, refl, ap, ◌∙◌, ap₂, arith}
use borrow.Rule.Slice.PartMut.{put_mid}
use Rattle.std.proofs.lemmas.List.{append-nil, length-map, length-take-le, map-append, take_more}
use Rattle.fault.specs.Memory.{over}
use Rattle.tree.specs.declared.parts.Part.{Part}
use Rattle.tree.specs.Parts.{part}
use Rattle.tree.proofs.Memory.{over_at}
use Rattle.secrecy.specs.Air.{Trial}
use Rattle.secrecy.specs.Worlds.{World}
use Rattle.wire.specs.Entries.{entry_bytes, placed}
use Rattle.wire.proofs.Entries.{length_placed, placed_append, wide_append}
use Rattle.sending.specs.Sent.{covered, headers_of}
use Rattle.sending.specs.Headers.{WroteHeaders}

module _ (w : World) (h : ℕ) (m : Trial) (ps : List Part) (before : List ℕ) where
  -- as many headers as parts were taken
  abbrev pub Filled : ℕ → List ℕ → Type 0
  Filled n out = WroteHeaders w h m (take n ps) before out

  pub filled_none : Filled 0 before
  unfolding placed
  filled_none = (tt, refl)

  pub filled_more : (i : ℕ) (out b : List ℕ) → i < length ps → Filled i out → length b ≡ 48 → b ≡ covered w h m (get_or ps i (part 0 0)) →
      Filled (i + 1) (put_mid (56 * i) (56 * i + 56 - 56 * i) out (entry_bytes (get_or ps i (part 0 0)) b))
  unfolding placed
  filled_more i out b l (wide, e) full eb =
      let qs = take i ps in
      let p = get_or ps i (part 0 0) in
      let f = covered w h m in
      let more = take_more ps i (part 0 0) l in
      let bodies : map f (take (i + 1) ps) ≡ map f qs ++ b ∷ [] = ap (map f) more ∙ map-append f qs (p ∷ []) ∙ ap (λ (c : List ℕ). map f qs ++ c ∷ []) (sym eb) in
      let count : length (map f qs) ≡ length qs = length-map qs f in
      let size : 56 * i ≡ length (placed qs (map f qs)) = omega (arith, length_placed 48 qs (map f qs) count wide, length-take-le i ps (omega arith)) in
      let entry : 56 * i + 56 - 56 * i ≡ length (entry_bytes p b) = omega (arith, full) in
      let all : headers_of w h m (take (i + 1) ps) ≡ placed qs (map f qs) ++ entry_bytes p b =
      ap₂ placed more bodies ∙ placed_append qs (p ∷ []) (map f qs) (b ∷ []) count ∙ ap (λ (t : List ℕ). placed qs (map f qs) ++ t) (append-nil (entry_bytes p b)) in (
        rw bodies (wide_append 48 (map f qs) (b ∷ []) wide (full, tt)),
        over_at (placed qs (map f qs)) (entry_bytes p b) before out (56 * i) (56 * i + 56 - 56 * i) size entry e ∙ ap (λ (t : List ℕ). over t before) (sym all),
      )
