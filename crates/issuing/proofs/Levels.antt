-- The labels of a receiver, level by level from below. Assumes nothing.
use Rattle.std.proofs.Common.{◌≡◌, ℕ, zero, suc, ◌+◌, ◌-◌, ◌*◌, ◌/◌, ◌^◌, ◌<◌, ◌≤◌, List, [], ◌∷◌, ◌++◌, map, length, take, drop, sym, refl, ap, ◌∙◌, append_assoc, mul-le-mul, add-one, arith, length-append}
use borrow.Rule.Slice.PartMut.{put_mid}
use Rattle.std.proofs.lemmas.List.{append-nil, length-map}
use Rattle.fault.specs.Memory.{over}
use Rattle.tree.specs.declared.parts.Part.{Part}
use Rattle.tree.specs.Ways.{hanging, above, way}
use Rattle.tree.proofs.Up.{half_last}
use Rattle.tree.proofs.Hanging.{hanging_count}
use Rattle.tree.proofs.Memory.{over_on}
use Rattle.secrecy.specs.Terms.{Start}
use Rattle.secrecy.specs.Held.{held_label}
use Rattle.secrecy.specs.Worlds.{World, bytes, seen}
use Rattle.wire.specs.Entries.{Wide, entry_bytes, placed}
use Rattle.wire.specs.Labels.{labels_head, labels_bytes}
use Rattle.wire.proofs.Entries.{length_placed}
use Rattle.issuing.specs.Issued.{held_entries, Wrote, WroteFile}

-- what hangs off the way from x under the lowest n nodes above it
unfoldable pub levels : ℕ → ℕ → List Part
levels zero x = []
levels (suc n) x = levels n x ++ hanging (suc n) (x / 2 ^ suc n) x

levels_above_lem : (k n x : ℕ) → levels n x ++ above k (suc n) (x / 2 ^ suc n) x ≡ levels (k + n) x
unfolding above levels
levels_above_lem zero n x = append-nil (levels n x) ∙ ap (λ (m : ℕ). levels m x) {x = n} {y = 0 + n} (omega arith)
levels_above_lem (suc k) n x =
    let next = half_last (suc n) x in
    sym (append_assoc (levels n x) (hanging (suc n) (x / 2 ^ suc n) x) (above k (suc (suc n)) (x / 2 ^ suc n / 2) x))
    ∙ ap (λ (i : ℕ). levels (suc n) x ++ above k (suc (suc n)) i x) (sym next)
    ∙ levels_above_lem k (suc n) x ∙ ap (λ (m : ℕ). levels m x) {x = k + suc n} {y = suc k + n} (omega arith)

pub levels_all : (h x : ℕ) → levels h x ≡ above h 1 (x / 2) x
unfolding levels
levels_all h x = sym (levels_above_lem h 0 x ∙ ap (λ (m : ℕ). levels m x) {x = h + 0} {y = h} (omega arith))

-- h (h + 1) / 2, as it grows
pub length_levels : (n x : ℕ) → 2 * length (levels n x) ≡ n * (n + 1)
unfolding levels
length_levels zero x = refl
length_levels (suc n) x = omega (arith, length_levels n x, length-append (levels n x) (hanging (suc n) (x / 2 ^ suc n) x), hanging_count (suc n) (x / 2 ^ suc n) x)

-- there is room for one level more
pub levels_fit : (n h x at room : ℕ) → n < h → at ≡ 40 * length (levels n x) → 40 * (h * (h + 1) / 2) ≤ room → at + 40 * (n + 1) ≤ room
levels_fit n h x at room l e r =
    let p : (n + 1) * (n + 2) ≤ h * (h + 1) = mul-le-mul {n₁ = n + 1} {m₁ = n + 2} {n₂ = h} {m₂ = h + 1} (omega arith) (omega arith) in
    omega (arith, p, length_levels n x)

pub levels_more : (n x at : ℕ) → at ≡ 40 * length (levels n x) → at + 40 * (n + 1) ≡ 40 * length (levels (n + 1) x)
unfolding levels
levels_more n x at e =
    rw (add-one n) (omega (arith, length-append (levels n x) (hanging (suc n) (x / 2 ^ suc n) x), hanging_count (suc n) (x / 2 ^ suc n) x))

entries_append : (w : World) (g h : ℕ) (ps qs : List Part) → held_entries w g h (ps ++ qs) ≡ held_entries w g h ps ++ held_entries w g h qs
unfolding placed
entries_append w g h [] qs = refl
entries_append w g h (p ∷ ps) qs =
    let entry = entry_bytes p (bytes w (held_label g h p)) in
    ap (λ (l : List ℕ). entry ++ l) (entries_append w g h ps qs) ∙ sym (append_assoc entry (held_entries w g h ps) (held_entries w g h qs))

wide_append : (w : World) (g h : ℕ) (ps qs : List Part) →
    Wide 32 (seen w (map (held_label g h) ps)) → Wide 32 (seen w (map (held_label g h) qs)) → Wide 32 (seen w (map (held_label g h) (ps ++ qs)))
wide_append w g h [] qs a b = b
wide_append w g h (p ∷ ps) qs (a, more) b = (a, wide_append w g h ps qs more b)

module _ (w : World) (g h x : ℕ) (before : List ℕ) where
  -- the labels of the lowest n levels are written
  pub record Filled (n : ℕ) (out : List ℕ) : Type 0 where
    pub wide : Wide 32 (seen w (map (held_label g h) (levels n x)))
    pub written : out ≡ over (held_entries w g h (levels n x)) before

  pub filled_none : Filled 0 before
  unfolding levels placed
  filled_none = record { wide = tt; written = refl }

  pub filled_more : (n at : ℕ) (out end : List ℕ) → at ≡ 40 * length (levels n x) → Filled n out →
      Wrote w g h (hanging (suc n) (x / 2 ^ suc n) x) (take (length out - at) (drop at out)) end → Filled (suc n) (put_mid at (length out - at) out end)
  unfolding levels
  filled_more n at out end e f (wide, new) =
      let ps = levels n x in
      let qs = hanging (suc n) (x / 2 ^ suc n) x in
      let size = length_placed 32 ps _ (length-map (map (held_label g h) ps) (bytes w) ∙ length-map ps (held_label g h)) f.wide in
      record {
        wide = wide_append w g h ps qs f.wide wide;
        written =
            over_on (held_entries w g h ps) (held_entries w g h qs) before out end at (e ∙ sym size) f.written new
            ∙ ap (λ (l : List ℕ). over l before) (sym (entries_append w g h ps qs));
      }

  pub filled_all : (out : List ℕ) → Filled h out → Wrote w g h (above h 1 (x / 2) x) before out
  filled_all out f = (rw (levels_all h x) at f.wide, rw (levels_all h x) at f.written)

-- the front of a file, and then all labels along the way
pub file_written : (w : World) (g h u : ℕ) (all before mid end : List ℕ) → length all ≡ 32 → all ≡ bytes w (Start g 0) → mid ≡ labels_head h u all ++ drop 38 before →
    Wrote w g h (way h u) (take (length mid - 38) (drop 38 mid)) end → WroteFile w g h u before (put_mid 38 (length mid - 38) mid end)
file_written w g h u all before mid end full e m (wide, new) =
    let head = labels_head h u all in
    let size : 38 ≡ length head = omega (arith, full) in
    let front : mid ≡ over head before = m ∙ ap (λ (n : ℕ). head ++ drop n before) size in
    let both = over_on head (held_entries w g h (way h u)) before mid end 38 size front new in
    let whole = ap (λ (start : List ℕ). over (labels_bytes h u (start ∷ seen w (map (held_label g h) (way h u)))) before) e in
    ((sym (ap length e) ∙ full, wide), both ∙ whole)
