-- The worked cases. Assumes nothing.
use Rattle.std.proofs.Common.{◌≡◌, ℕ, not, T, List, [], ◌∷◌, refl, ap, ◌∙◌, arith, lit<}
use mathlib.Core.List.Memᴰ
use mathlib.Core.List.Memᴰ.{head as here}
use mathlib.Core.List.Memᴰ.{tail as there}
use Rattle.tree.specs.Nodes.{below}
use Rattle.tree.specs.Receivers.{is_in, all_below}
use Rattle.tree.specs.Parts.{part, holds}
use Rattle.tree.specs.Ways.{hanging, above}
use Rattle.tree.specs.Cover.{cover, work}
use Rattle.tree.proofs.Neat.{neat}
use Rattle.secrecy.specs.Lists.{◌∈◌, different}
use Rattle.secrecy.specs.Terms.{label}
use Rattle.secrecy.specs.Air.{Sending, Trial}
use Rattle.secrecy.specs.Promise.{Sound}
use Rattle.secrecy.specs.Cases.{LabelsOfTwo, StepsOfTwo, KeysOfZeroAndFive, run_sendings, show, repeated, same_number, run_trials, RunStands, NumberTwiceHappens}
use Rattle.secrecy.proofs.Lists.{by_all}
use Rattle.secrecy.proofs.Shown.{key_exact, shows, number_twice}

pub labels_of_two : LabelsOfTwo
unfolding hanging above
labels_of_two g = refl

pub steps_of_two : StepsOfTwo
unfolding label hanging above
steps_of_two g = refl

abbrev who : List ℕ
who = 0 ∷ 5 ∷ []

pub keys_of_zero_and_five : KeysOfZeroAndFive
unfolding work is_in all_below below
keys_of_zero_and_five g log once =
    record {
      two_parts = refl;
      neither = λ p m x.
          let w = (key_exact (g ∷ []) 3 log once who tt g (here refl) p (neat 3 who p m)).0 x in
          by_all (λ p. (u : ℕ) → u ∈ who → T (holds 3 u p) → ⊥) (cover 3 who) (
            by_all (λ u. T (holds 3 u (part 2 8)) → ⊥) who ((λ t. t), ((λ t. t), tt)),
            (by_all (λ u. T (holds 3 u (part 3 13)) → ⊥) who ((λ t. t), ((λ t. t), tt)), tt),
          )
          p m w.0 w.1 w.2;
      one_part = refl;
      this_one = (key_exact (g ∷ []) 3 log once who tt g (here refl) (part 1 4) tt).1 (5, there (here refl), tt);
    }

run_sound : Sound (0 ∷ 1 ∷ []) 3 run_sendings run_trials
unfolding work is_in different
run_sound =
    record {
      once = tt;
      apart = λ m t p q e.
          by_all (λ (m : Sending). m.session ≡ 1 → ⊥) run_sendings ((λ e. omega arith), ((λ e. omega arith), ((λ e. omega arith), tt))) m p
          (e ∙ ap (λ (t : Trial). t.session) (Memᴰ.eq_of_singleton q));
      trees = by_all (λ (m : Sending). m.tree ∈ 0 ∷ 1 ∷ []) run_sendings
          (here refl, (here refl, (there (here refl), tt)));
    }

pub run_stands : RunStands
unfolding all_below is_in
run_stands =
    record {
      sound = run_sound;
      five_gets = (shows (0 ∷ 1 ∷ []) 3 run_sendings run_trials run_sound (5 ∷ []) tt show (here refl)).1
          (repeated, there (here refl), (refl, (5, here refl, tt)));
      zero_not = λ x.
          let w = (shows (0 ∷ 1 ∷ []) 3 run_sendings run_trials run_sound (0 ∷ []) tt show (here refl)).0 x in
          by_all (λ (m : Sending). m.session ≡ 0 → (u : ℕ) → u ∈ 0 ∷ [] → T (not (is_in u m.revoked)) → ⊥) run_sendings (
            (λ e. by_all (λ u. T (not (is_in u (0 ∷ 5 ∷ []))) → ⊥) (0 ∷ []) ((λ t. t), tt)),
            ((λ e. by_all (λ u. T (not (is_in u (0 ∷ []))) → ⊥) (0 ∷ []) ((λ t. t), tt)), ((λ e. absurd (omega arith)), tt)),
          )
          w.0 w.1 w.2.0 w.2.1.0 w.2.1.1 w.2.1.2;
    }

pub number_twice_happens : NumberTwiceHappens
unfolding work is_in
number_twice_happens =
    record {
      one_number = refl;
      two_keys = λ e. omega arith;
      revoked = tt;
      gets = number_twice 3 show same_number refl refl (part 3 13) (there (here refl)) (there (here refl)) 1 (lit< tt) tt;
    }
