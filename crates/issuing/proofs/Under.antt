-- The labels under one node, worked out from above and written from the last on. Assumes nothing.
use Rattle.std.proofs.Common.{◌≡◌, ℕ, suc, ◌+◌, ◌-◌, ◌*◌, ◌/◌, ◌^◌, ◌<◌, ◌≤◌, List, ◌++◌, map, length, take, drop, sym, refl, ap, ◌∙◌, append_assoc, div-one, arith}
use borrow.Rule.Slice.PartMut.{put_mid}
use Rattle.std.proofs.lemmas.List.{take-append-drop, take-take, take-append-le, drop_at, drop-drop, length-take-le, length-map}
use Rattle.tree.specs.Parts.{part}
use Rattle.tree.specs.Ways.{sibling, hanging}
use Rattle.tree.proofs.Up.{up, up_add, up_div, half_last}
use Rattle.tree.proofs.Hanging.{sibling_half, hanging_count}
use Rattle.secrecy.specs.Terms.{Start, label, side}
use Rattle.secrecy.specs.Held.{held_label}
use Rattle.secrecy.specs.Worlds.{World, bytes, seen}
use Rattle.secrecy.proofs.Labels.{label_self, label_step}
use Rattle.secrecy.proofs.Way.{up_pos}
use Rattle.wire.specs.Entries.{Wide, entry_bytes, placed}
use Rattle.wire.proofs.Entries.{length_placed}
use Rattle.issuing.specs.Issued.{held_entries, Wrote}

-- an entry is written in front of those that stand behind it
write_before : (before out entry behind rest : List ℕ) (m : ℕ) → out ≡ take (40 * suc m) before ++ (behind ++ rest) → 40 * suc m ≤ length before →
    put_mid (40 * m) (40 * m + 40 - 40 * m) out entry ≡ take (40 * m) before ++ ((entry ++ behind) ++ rest)
write_before before out entry behind rest m e room =
    let front = length-take-le (40 * suc m) before room in
    let less : 40 * m ≤ length (take (40 * suc m) before) = omega (arith, front) in
    let kept : take (40 * m) out ≡ take (40 * m) before =
    ap (take (40 * m)) e ∙ take-append-le (40 * m) (take (40 * suc m) before) (behind ++ rest) less ∙ take-take (40 * m) (40 * suc m) before (omega arith) in
    let end : 40 * m + (40 * m + 40 - 40 * m) ≡ 40 * suc m = omega arith in
    let after : drop (40 * m + 40 - 40 * m) (drop (40 * m) out) ≡ behind ++ rest =
    drop-drop (40 * m + 40 - 40 * m) (40 * m) out ∙ rw (end, e) (drop_at (take (40 * suc m) before) (behind ++ rest) (40 * suc m) front) in
    rw (kept, after) (ap (λ (l : List ℕ). take (40 * m) before ++ l) (sym (append_assoc entry behind rest)))

module _ (w : World) (g h steps x : ℕ) (before : List ℕ) where
  abbrev first : ℕ
  first = x / 2 ^ steps

  abbrev labels : ℕ → List (List ℕ)
  labels n = seen w (map (held_label g h) (hanging (steps - n) first (x / 2 ^ n)))

  abbrev entries : ℕ → List ℕ
  entries n = held_entries w g h (hanging (steps - n) first (x / 2 ^ n))

  -- with n nodes ahead on the way down to leaf x, the label at hand is the one above the next of them, and the entries behind are written
  pub record Ahead (n : ℕ) (here out : List ℕ) : Type 0 where
    pub at : here ≡ bytes w (label g h first (x / 2 ^ n))
    pub wide : Wide 32 (labels n)
    pub written : out ≡ take (40 * n) before ++ (entries n ++ drop (40 * steps) before)

  pub ahead_all : (start : List ℕ) → start ≡ bytes w (Start g first) → Ahead steps start before
  unfolding hanging placed
  ahead_all start e =
      let none : steps - steps ≡ 0 = omega arith in
      record {
        at = e ∙ sym (ap (bytes w) (label_self g h first first refl));
        wide = rw none tt;
        written = rw none (sym (take-append-drop (40 * steps) before));
      }

  module _ (high : steps ≤ h) (far : 2 ^ steps ≤ x) (room : 40 * steps ≤ length before) where
    node : 1 ≤ first
    node = omega (arith, up_pos steps x far, up_div steps x)

    -- one step further down, to the next node or to its sibling
    down_to : (m j : ℕ) → m < steps → j / 2 ≡ x / 2 ^ m / 2 → label g h first j ≡ side j (label g h first (x / 2 ^ suc m))
    down_to m j l e =
        let half = half_last m x in
        let k : suc m + (steps - suc m) ≡ steps = omega arith in
        let top : up (steps - suc m) (j / 2) ≡ first =
        ap (up (steps - suc m)) (e ∙ sym half ∙ sym (up_div (suc m) x)) ∙ up_add (suc m) (steps - suc m) x ∙ ap (λ (n : ℕ). up n x) k ∙ up_div steps x in
        label_step g h (steps - suc m) first j node (omega arith) top ∙ ap (λ (n : ℕ). side j (label g h first n)) (e ∙ sym half)

    pub ahead_more : (m : ℕ) (here out own beside : List ℕ) → m < steps → Ahead (suc m) here out → length beside ≡ 32 →
        own ≡ bytes w (side (x / 2 ^ m) (label g h first (x / 2 ^ suc m))) →
        beside ≡ bytes w (side (sibling (x / 2 ^ m)) (label g h first (x / 2 ^ suc m))) →
        Ahead m own (put_mid (40 * m) (40 * m + 40 - 40 * m) out (entry_bytes (part first (sibling (x / 2 ^ m))) beside))
    unfolding hanging placed
    ahead_more m here out own beside l a full eo eb =
        let y = x / 2 ^ m in
        let half = half_last m x in
        let count : steps - m ≡ suc (steps - suc m) = omega arith in
        let held : beside ≡ bytes w (label g h first (sibling y)) = eb ∙ sym (ap (bytes w) (down_to m (sibling y) l (sibling_half y))) in
        record {
          at = eo ∙ sym (ap (bytes w) (down_to m y l refl));
          wide = rw (count, ← half, ← held) (full, a.wide);
          written = rw (count, ← half, ← held) (write_before before out (entry_bytes (part first (sibling y)) beside) (entries (suc m)) (drop (40 * steps) before) m a.written (omega arith));
        }

  pub ahead_none : (here out : List ℕ) → Ahead 0 here out → Wrote w g h (hanging steps first x) before out
  ahead_none here out a =
      let all : steps - 0 ≡ steps = omega arith in
      let leaf = div-one x in
      let wide = rw (all, leaf) at a.wide in
      let ps = hanging steps first x in
      let size : length (held_entries w g h ps) ≡ 40 * steps =
      length_placed 32 ps _ (length-map _ (bytes w) ∙ length-map ps (held_label g h)) wide ∙ ap (λ (n : ℕ). 40 * n) (hanging_count steps first x) in
      (wide, (rw (all, leaf) at a.written) ∙ rw size)
