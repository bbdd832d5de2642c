-- The faults of a sending, as its reader gathers them. Assumes nothing.
use Rattle.std.proofs.Common.{◌≡◌, ℕ, Bool, true, false, not, ◌||◌, eqb, ltb, List, ◌++◌, length, get_or, drop, Ok, Option, sym, refl}
use Rattle.fault.specs.declared.Fault.{Fault}
use Rattle.fault.specs.declared.Fault.TheVariants.{OutOfRange, ImproperPart}
use Rattle.fault.specs.Lowest.{when, lower, lowest, judged}
use Rattle.fault.proofs.Lowest.{lowest_append, judged_ok}
use Rattle.tree.specs.Numbers.{last_number}
use Rattle.wire.specs.Words.{word_at}
use Rattle.wire.specs.Head.{head_faults}
use Rattle.wire.specs.Sending.{parts_in, all_inside, all_descend, sending_size, sending_faults}

-- the lowest fault of parts, by what is right
abbrev pub lowest_of : Bool → Bool → Option Fault
lowest_of inside descending = lowest (when (not inside) OutOfRange ++ when (not descending) ImproperPart)

pub lowest_parts : (inside descending : Bool) → lower (lowest (when (not inside) OutOfRange)) (lowest (when (not descending) ImproperPart)) ≡ lowest_of inside descending
lowest_parts inside descending = sym (lowest_append (when (not inside) OutOfRange) (when (not descending) ImproperPart))

lowest_all : (past inside descending : Bool) →
    lower (lowest (when past OutOfRange)) (lowest_of inside descending) ≡ lowest (when (past || not inside) OutOfRange ++ when (not descending) ImproperPart)
lowest_all false inside descending = refl
lowest_all true true true = refl
lowest_all true true false = refl
lowest_all true false true = refl
lowest_all true false false = refl

-- a file whose head and length are right
module _ (s : List ℕ) (h : ℕ) (head : Ok h ≡ judged (head_faults 3 s) (get_or s 1 0)) (whole : true ≡ eqb (length s) (sending_size (word_at s 6))) where
  pub height_is : h ≡ get_or s 1 0
  height_is = (judged_ok (head_faults 3 s) (get_or s 1 0) h head).1

  pub gathered : lower (lowest (when (ltb last_number (word_at s 2)) OutOfRange)) (lowest_of (all_inside h (parts_in (drop 10 s))) (all_descend h (parts_in (drop 10 s))))
      ≡ lowest (sending_faults s)
  gathered =
      let e = (judged_ok (head_faults 3 s) (get_or s 1 0) h head).0 in
      rw (e, ← whole, height_is) (lowest_all (ltb last_number (word_at s 2)) (all_inside (get_or s 1 0) (parts_in (drop 10 s))) (all_descend (get_or s 1 0) (parts_in (drop 10 s))))
