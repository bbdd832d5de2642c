-- The faults of a label file, as its reader comes to them. Assumes nothing.
use Rattle.std.proofs.Common.{◌≡◌, ℕ, ◌^◌, Bool, true, false, not, ◌||◌, ltb, List, ◌++◌, length, get_or, drop, Some, None, Ok, Option, refl, ap, ◌∙◌}
use Rattle.std.proofs.lemmas.Bool.{eq-eqb}
use Rattle.fault.specs.declared.Fault.{Fault}
use Rattle.fault.specs.declared.Fault.TheVariants.{OutOfRange, WrongLabels}
use Rattle.fault.specs.Lowest.{when, lowest, judged}
use Rattle.fault.proofs.Lowest.{judged_ok}
use Rattle.tree.specs.Ways.{way}
use Rattle.wire.specs.Words.{word_at}
use Rattle.wire.specs.Head.{head_faults}
use Rattle.wire.specs.Labels.{places, all_in_tree, same_places, labels_size, labels_faults}

-- the lowest of the faults that are left, by what is right
abbrev lowest_of : Bool → Bool → Bool → Option Fault
lowest_of there inside along = lowest (when (not there || not inside) OutOfRange ++ when (not along) WrongLabels)

-- a file whose head and length are right
module _ (s : List ℕ) (h : ℕ) (head : Ok h ≡ judged (head_faults 2 s) (get_or s 1 0)) (size : length s ≡ labels_size h) where
  pub height_is : h ≡ get_or s 1 0
  height_is = (judged_ok (head_faults 2 s) (get_or s 1 0) h head).1

  left_faults : lowest (labels_faults s)
      ≡ lowest_of (ltb (word_at s 2) (2 ^ h)) (all_in_tree h (places (drop 38 s))) (same_places (places (drop 38 s)) (way h (word_at s 2)))
  left_faults =
      let e = (judged_ok (head_faults 2 s) (get_or s 1 0) h head).0 in
      let f = eq-eqb (length s) (labels_size (get_or s 1 0)) (size ∙ ap labels_size height_is) in
      rw (e, f, height_is)

  module _ (there : true ≡ ltb (word_at s 2) (2 ^ h)) where
    pub outside : false ≡ all_in_tree h (places (drop 38 s)) → lowest (labels_faults s) ≡ Some OutOfRange
    outside test = left_faults ∙ rw (← there, ← test) (either (same_places (places (drop 38 s)) (way h (word_at s 2))))
      where
        either : (b : Bool) → lowest_of true false b ≡ Some OutOfRange
        either true = refl
        either false = refl

    pub astray : true ≡ all_in_tree h (places (drop 38 s)) → false ≡ same_places (places (drop 38 s)) (way h (word_at s 2)) → lowest (labels_faults s) ≡ Some WrongLabels
    astray test along = left_faults ∙ rw (← there, ← test, ← along)

    pub faultless : true ≡ all_in_tree h (places (drop 38 s)) → true ≡ same_places (places (drop 38 s)) (way h (word_at s 2)) → lowest (labels_faults s) ≡ None
    faultless test along = left_faults ∙ rw (← there, ← test, ← along)
