-- The cover of a whole tree: node 1 closed, or the part of all. Assumes nothing.
use Rattle.std.proofs.Common.{◌≡◌, ℕ, zero, suc, ◌+◌, ◌-◌, ◌*◌, ◌<◌, ◌≤◌, true, leb, List, [], ◌∷◌, length, take, drop, set, None, Ok, sym, refl, ap, ◌∙◌, subst, one-mul, zero-add, arith, length-append}
use Rattle.std.proofs.lemmas.List.{nil_from_length, take_at}
use Rattle.std.proofs.lemmas.Bool.{leb-true}
use Rattle.fault.specs.Lowest.{lowest}
use Rattle.tree.specs.declared.parts.Part.{Part}
use Rattle.tree.specs.Nodes.{first_below}
use Rattle.tree.specs.Receivers.{list_faults}
use Rattle.tree.specs.Parts.{part}
use Rattle.tree.specs.Cover.{Work, clean, named, finish, cover}
use Rattle.tree.specs.Promise.{most, Covers}
use Rattle.fault.specs.Memory.{over}
use Rattle.tree.specs.Written.{closed, cover_answer}
use Rattle.tree.proofs.Judged.{sound}
use Rattle.tree.proofs.Sides.{Beneath, Open, none_clean}
use Rattle.tree.proofs.Few.{most_one}
use Rattle.tree.proofs.Covers.{covers}

-- nobody is revoked, and the one part of all is written
pub top_clean : (h : ℕ) (rs : List ℕ) (memory : List Part) → 0 < length memory → length rs ≡ 0 →
    (1 ≡ length (cover h rs)) × (set memory 0 (part 0 0) ≡ over (cover h rs) memory)
top_clean h rs [] l e = absurd (omega arith)
top_clean h rs (m ∷ ms) l e = rw (nil_from_length rs e, none_clean h h 1) (refl, refl)

-- somebody is, and node 1 is closed
pub top_named : (w : Work) → Open w → closed 1 w ≡ finish w
top_named clean o = absurd o
top_named (named j ps) o = refl

room_most : (r room : ℕ) → most r ≤ room → 2 * r ≤ room + 1
room_most zero room l = omega arith
room_most (suc r) room l = omega arith

-- the list has no fault, and there is room
module _ (h : ℕ) (rs : List ℕ) (memory : List Part) (none : None ≡ lowest (list_faults h rs)) (enough : true ≡ leb (most (length rs)) (length memory)) where
  pub room : 2 * length rs ≤ length memory + 1
  room = room_most (length rs) (length memory) (leb-true (most (length rs)) (length memory) (sym enough))

  pub some_room : 0 < length memory
  some_room = omega (arith, most_one (length rs), leb-true (most (length rs)) (length memory) (sym enough))

  -- all receivers are below node 1
  pub beneath_top : Beneath h h 1 rs
  beneath_top =
      let s = sound h rs none in
      let first : first_below h h 1 ≡ 0 = rw one-mul (omega arith) in
      let level : h - h ≡ 0 = omega arith in
      record {
        stands = (omega arith, s.0, rw level (omega arith, omega arith));
        rise = rw first s.2;
        low = rw (first, zero-add) s.1;
      }

  pub answered : (n : ℕ) → n ≡ length (cover h rs) → Ok n ≡ cover_answer h rs (length memory)
  answered n e = rw (← none, ← enough, e)

  pub within : (n : ℕ) (after : List Part) → n ≡ length (cover h rs) → after ≡ over (cover h rs) memory → n ≤ length after
  within n after en ea = omega (arith, en, ap length ea, length-append (cover h rs) (drop (length (cover h rs)) memory))

  pub covered : (n : ℕ) (after : List Part) → n ≡ length (cover h rs) → after ≡ over (cover h rs) memory → Covers h rs (take n after)
  covered n after en ea =
      let e : take n after ≡ cover h rs = ap (take n) ea ∙ take_at (cover h rs) (drop (length (cover h rs)) memory) n (sym en) in
      subst (Covers h rs) (sym e) (covers h rs (sound h rs none).1)
