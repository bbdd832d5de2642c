-- The places of entries, one after the other. Assumes nothing.
use Rattle.std.proofs.Common.{◌≡◌, ℕ, suc, ◌+◌, ◌/◌, ◌<◌, ◌≤◌, List, [], ◌∷◌, length, get_or, take, drop, sym, ap, ◌∙◌, add-one, arith}
use Rattle.std.proofs.Math.Nat.{div-eq_of_lt, div-eq-sub-div}
use Rattle.std.proofs.lemmas.List.{length-drop, get_or-take}
use Rattle.wire.specs.Words.{word_at}
use Rattle.wire.specs.Entries.{first_place, entry_places, places_in}

module _ (size : ℕ) (s : List ℕ) where
  pub no_place : length s < size → places_in size s ≡ []
  unfolding entry_places
  no_place l = rw (div-eq_of_lt l)

  word_taken : (i : ℕ) → i + 4 ≤ size → word_at (take size s) i ≡ word_at s i
  word_taken i l =
      let at : (j : ℕ) → j < size → get_or (take size s) j 0 ≡ get_or s j 0 = λ j m. get_or-take size s j 0 m in
      rw (at i (omega arith), at (i + 1) (omega arith), at (i + 2) (omega arith), at (i + 3) (omega arith))

  pub next_place : 8 ≤ size → size ≤ length s → places_in size s ≡ first_place (take size s) ∷ places_in size (drop size s)
  unfolding entry_places
  next_place w l =
      let e : length s / size ≡ suc (length (drop size s) / size) =
      div-eq-sub-div (omega arith) l ∙ ap (λ (n : ℕ). n / size + 1) (sym (length-drop size s)) ∙ add-one _ in
      rw (e, word_taken 0 (omega arith), word_taken 4 (omega arith))
