-- Lists of receivers, and what can be wrong with one. Assumes nothing.
use Rattle.std.specs.Prelude.{ℕ, suc, ◌^◌, ◌<◌, ◌≤◌, Bool, true, false, not, ◌&&◌, ◌||◌, List, [], ◌∷◌, ◌++◌, length, ◌==◌, nat_le, nat_lt, slice_index}
use Rattle.fault.specs.declared.Fault.{Fault}
use Rattle.fault.specs.declared.Fault.TheVariants.{OutOfRange, NotRising}
use Rattle.fault.specs.Lowest.{when}
use Rattle.tree.specs.Nodes.{max_height}

unfoldable pub is_in : ℕ → List ℕ → Bool
is_in u [] = false
is_in u (x ∷ xs) = u == x || is_in u xs

-- all of them below n: the receivers of a tree of height h are those below 2^h
unfoldable pub all_below : ℕ → List ℕ → Bool
all_below n [] = true
all_below n (x ∷ xs) = nat_lt x n && all_below n xs

-- the first is at least `least`, and each is above the one before it
unfoldable pub rising_from : ℕ → List ℕ → Bool
rising_from least [] = true
rising_from least (x ∷ xs) = nat_le least x && rising_from (suc x) xs

abbrev pub rising : List ℕ → Bool
rising rs = rising_from 0 rs

-- the first n receivers of a list are below `middle`, and the others are not
pub record Cut (xs : List ℕ) (n middle : ℕ) : Type 0 where
  pub before : (j : ℕ) → j < n → slice_index xs j < middle
  pub after : (j : ℕ) → n ≤ j → j < length xs → middle ≤ slice_index xs j

-- heights that a tree may have
abbrev pub is_height : ℕ → Bool
is_height h = nat_lt 0 h && nat_le h max_height

-- all that is wrong with a list of receivers for a tree of height h
abbrev pub list_faults : ℕ → List ℕ → List Fault
list_faults h rs = when (not (is_height h) || not (all_below (2 ^ h) rs)) OutOfRange ++ when (not (rising rs)) NotRising
