-- Membership in lists, and lists without repetition. Assumes nothing.
use Rattle.std.specs.Prelude.{ℕ, Bool, true, not, ◌&&◌, List, [], ◌∷◌}
use mathlib.Core.List.{Memᴰ}
use Rattle.tree.specs.Receivers.{is_in}

infix 4 ◌∈◌
-- x stands in xs
abbrev pub ◌∈◌ : {A : Type 0} → A → List A → Type 0
x ∈ xs = Memᴰ x xs

-- all of xs stands in ys
abbrev pub Within : {A : Type 0} → List A → List A → Type 0
Within {A} xs ys = (x : A) → x ∈ xs → x ∈ ys

-- no number stands twice
unfoldable pub different : List ℕ → Bool
different [] = true
different (x ∷ xs) = not (is_in x xs) && different xs
