-- What the code that makes a cover answers. Assumes nothing.
use Rattle.std.specs.Prelude.{ℕ, List, [], length, Result}
use Rattle.fault.specs.declared.Refusal.{Refusal}
use Rattle.fault.specs.Lowest.{lowest}
use Rattle.fault.specs.Memory.{fitted}
use Rattle.tree.specs.declared.parts.Part.{Part}
use Rattle.tree.specs.Receivers.{list_faults}
use Rattle.tree.specs.Cover.{Work, clean, named, close, cover}
use Rattle.tree.specs.Promise.{most}

-- the parts of a side, once it is closed
abbrev pub closed : ℕ → Work → List Part
closed side clean = []
closed side (named j ps) = close side j ps

-- how many parts there are, where the list has no fault and there is room for the most that so many can make
abbrev pub cover_answer : ℕ → List ℕ → ℕ → Result ℕ Refusal
cover_answer h rs room = fitted (lowest (list_faults h rs)) (most (length rs)) room (length (cover h rs))
