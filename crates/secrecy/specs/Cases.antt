-- Worked cases, in trees of height 3. Assumes nothing.
use Rattle.std.specs.Prelude.{◌≡◌, ℕ, T, List, [], ◌∷◌}
use Rattle.tree.specs.declared.parts.Part.{Part}
use Rattle.tree.specs.Receivers.{is_in}
use Rattle.tree.specs.Parts.{part}
use Rattle.tree.specs.Cover.{cover}
use Rattle.secrecy.specs.Lists.{◌∈◌}
use Rattle.secrecy.specs.Terms.{Term, Start, Left, Right, label, key, show_key}
use Rattle.secrecy.specs.Held.{held, held_by}
use Rattle.secrecy.specs.Air.{Sending, Trial, signals, view, Once}
use Rattle.secrecy.specs.Gets.{Gets}
use Rattle.secrecy.specs.Promise.{Sound}

-- Receiver 2 holds the start of 0 and, under 5: 11; under 2: 11, 4; under 1: 11, 4, 3.
abbrev pub LabelsOfTwo : Type 0
LabelsOfTwo =
    (g : ℕ) →
    held g 3 2 ≡ Start g 0 ∷ label g 3 5 11 ∷ label g 3 2 11 ∷ label g 3 2 4 ∷ label g 3 1 11 ∷ label g 3 1 4 ∷ label g 3 1 3 ∷ []

-- These labels, step by step from their starts.
abbrev pub StepsOfTwo : Type 0
StepsOfTwo =
    (g : ℕ) →
    held g 3 2 ≡
    Start g 0 ∷ Right (Start g 5) ∷ Right (Right (Start g 2)) ∷ Left (Start g 2) ∷ Right (Right (Left (Start g 1))) ∷
    Left (Left (Start g 1)) ∷ Right (Start g 1) ∷ []

-- what receivers 0 and 5 have together
abbrev pub zero_and_five : ℕ → List Trial → List Term
zero_and_five g log = view (held_by (g ∷ []) 3 (0 ∷ 5 ∷ [])) 3 log

-- Where 0 and 5 are revoked the parts are (2, 8) and (3, 13), and they have the key of neither; where 0 and 1 are, it is (1, 4), and they
-- have its key.
pub record ZeroAndFive (g : ℕ) (log : List Trial) : Type 0 where
  pub two_parts : cover 3 (0 ∷ 5 ∷ []) ≡ part 2 8 ∷ part 3 13 ∷ []
  pub neither : (p : Part) → p ∈ cover 3 (0 ∷ 5 ∷ []) → Gets (zero_and_five g log) (key g 3 p) → ⊥
  pub one_part : cover 3 (0 ∷ 1 ∷ []) ≡ part 1 4 ∷ []
  pub this_one : Gets (zero_and_five g log) (key g 3 (part 1 4))

abbrev pub KeysOfZeroAndFive : Type 0
KeysOfZeroAndFive = (g : ℕ) (log : List Trial) → Once log → ZeroAndFive g log

-- A run over two trees: a show, the same again under another number with fewer revoked, a show in the other tree, and a trial.
abbrev pub show : Sending
show = record { tree = 0; number = 4; session = 0; revoked = 0 ∷ 5 ∷ [] }

abbrev pub repeated : Sending
repeated = record { tree = 0; number = 5; session = 0; revoked = 0 ∷ [] }

abbrev pub run_sendings : List Sending
run_sendings = show ∷ repeated ∷ record { tree = 1; number = 7; session = 2; revoked = [] } ∷ []

abbrev pub run_trials : List Trial
run_trials = record { tree = 0; number = 9; session = 1; parts = part 3 13 ∷ part 2 8 ∷ []; falses = 1 } ∷ []

-- what receiver u has after the run
abbrev pub after_run : ℕ → List Term
after_run u = view (held_by (0 ∷ 1 ∷ []) 3 (u ∷ [])) 3 (signals 3 run_sendings run_trials)

-- The run keeps to the rules, so that the promises speak of it: receiver 5 gets the repeated show, and receiver 0 does not.
pub record RunStands : Type 0 where
  pub sound : Sound (0 ∷ 1 ∷ []) 3 run_sendings run_trials
  pub five_gets : Gets (after_run 5) (show_key 0)
  pub zero_not : Gets (after_run 0) (show_key 0) → ⊥

-- another show under the number of the first
abbrev pub same_number : Sending
same_number = record { tree = 0; number = 4; session = 3; revoked = 1 ∷ 5 ∷ [] }

-- A number used twice: receiver 1, which is revoked in the second sending, gets its show all the same.
pub record NumberTwiceHappens : Type 0 where
  pub one_number : show.number ≡ same_number.number
  pub two_keys : show.session ≡ same_number.session → ⊥
  pub revoked : T (is_in 1 same_number.revoked)
  pub gets : Gets (view (held_by (0 ∷ []) 3 (1 ∷ [])) 3 (signals 3 (show ∷ same_number ∷ []) [])) (show_key same_number.session)
