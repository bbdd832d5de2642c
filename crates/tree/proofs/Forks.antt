-- A node with revoked receivers on both sides: what is written for it into lent memory, step by step. Assumes nothing.
use Rattle.std.proofs.Common.{◌≡◌, ℕ, ◌+◌, ◌-◌, ◌*◌, ◌<◌, ◌≤◌, List, [], ◌++◌, length, take, drop, sym, ap, ◌∙◌, append_assoc, arith, length-append}
use borrow.Rule.Slice.PartMut.{put_mid}
use Rattle.std.proofs.lemmas.List.{length-take-le, length-drop}
use Rattle.tree.specs.declared.parts.Part.{Part}
use Rattle.tree.specs.Nodes.{first_below}
use Rattle.tree.specs.Receivers.{Cut}
use Rattle.tree.specs.Cover.{Work, close, work}
use Rattle.fault.specs.Memory.{over}
use Rattle.tree.specs.Written.{closed}
use Rattle.tree.proofs.Few.{close_few}
use Rattle.tree.proofs.Memory.{over_on, room_on, length_over}
use Rattle.tree.proofs.Sides.{Beneath}
use Rattle.tree.proofs.Branches.{on_left, on_right, closed_few, parts}

-- receivers on both sides of a node, and memory into whose front the part that closes `side` was written
pub record Fork (h k i : ℕ) (xs : List ℕ) (n side : ℕ) (free : List Part) (closing : ℕ) (first : List Part) : Type 0 where
  pub beneath : Beneath h k i xs
  pub inner : 0 < k
  pub cut : Cut xs n (first_below h (k - 1) (2 * i + 1))
  pub some : 0 < n
  pub others : n < length xs
  pub room : 2 * length xs ≤ length free + 1
  pub closing_is : closing ≡ length (close side i [])
  pub first_is : first ≡ over (close side i []) free

module _ {h k i : ℕ} {xs : List ℕ} {n side : ℕ} {free : List Part} {closing : ℕ} {first : List Part} (f : Fork h k i xs n side free closing first) where
  abbrev left : Work
  left = work h (take n xs) (k - 1) (2 * i)

  abbrev right : Work
  right = work h (drop n xs) (k - 1) (2 * i + 1)

  closing_le : closing ≤ 1
  closing_le = omega (arith, f.closing_is, close_few side i [])

  pub room_left : 2 * length (take n xs) ≤ length (take (length first - closing) (drop closing first)) + 1
  room_left =
      omega (arith, f.room, f.others, closing_le, length-take-le n xs (omega (arith, f.others)), room_on (close side i []) free first closing f.closing_is f.first_is)

  left_few : length (closed (2 * i) left) + 1 ≤ 2 * n
  left_few =
      let e = length-take-le n xs (omega (arith, f.others)) in
      omega (arith, e, closed_few (on_left f.beneath f.inner f.cut) (2 * i) (omega (arith, e, f.some)))

  right_few : length (closed (2 * i + 1) right) + 1 ≤ 2 * (length xs - n)
  right_few =
      let e = length-drop n xs in
      omega (arith, e, closed_few (on_right f.beneath f.inner f.cut) (2 * i + 1) (omega (arith, e, f.others)))

  module _
      {count : ℕ} (count_is : count ≡ length (closed (2 * i) left)) {end : List Part}
      (end_is : end ≡ over (closed (2 * i) left) (take (length first - closing) (drop closing first)))
    where
      abbrev second : List Part
      second = put_mid closing (length first - closing) first end

      second_is : second ≡ over (close side i [] ++ closed (2 * i) left) free
      second_is = over_on (close side i []) (closed (2 * i) left) free first end closing f.closing_is f.first_is end_is

      used_is : closing + count ≡ length (close side i [] ++ closed (2 * i) left)
      used_is = omega (arith, f.closing_is, count_is, length-append (close side i []) (closed (2 * i) left))

      pub used_le : closing + count ≤ 2 * n
      used_le = omega (arith, closing_le, left_few, count_is)

      pub length_second : length second ≡ length free
      length_second = ap length second_is ∙ length_over (close side i [] ++ closed (2 * i) left) free (omega (arith, used_is, used_le, f.room, f.others))

      pub room_right : 2 * length (drop n xs) ≤ length (take (length second - (closing + count)) (drop (closing + count) second)) + 1
      room_right =
          omega (arith, f.room, f.others, used_le, length-drop n xs, room_on (close side i [] ++ closed (2 * i) left) free second (closing + count) used_is second_is)

      module _ {more : ℕ} (more-is : more ≡ length (closed (2 * i + 1) right)) where
        all_parts : closed side (work h xs k i) ≡ (close side i [] ++ closed (2 * i) left) ++ closed (2 * i + 1) right
        all_parts =
            parts f.beneath f.inner f.cut f.some f.others side
            ∙ sym (append_assoc (close side i []) (closed (2 * i) left) (closed (2 * i + 1) right))

        pub total : closing + count + more ≡ length (closed side (work h xs k i))
        total =
            omega (arith, used_is, more-is, length-append (close side i [] ++ closed (2 * i) left) (closed (2 * i + 1) right), ap length all_parts)

        pub total_le : closing + count + more + 1 ≤ 2 * length xs
        total_le = omega (arith, f.others, used_le, right_few, more-is)

        pub written : {tail : List Part} → tail ≡ over (closed (2 * i + 1) right) (take (length second - (closing + count)) (drop (closing + count) second)) →
            put_mid (closing + count) (length second - (closing + count)) second tail ≡ over (closed side (work h xs k i)) free
        written {tail} tail-is =
            over_on (close side i [] ++ closed (2 * i) left) (closed (2 * i + 1) right) free second tail (closing + count) used_is second_is tail-is
            ∙ ap (λ (ps : List Part). over ps free) (sym all_parts)
