-- What is left of the places and of the way is the same just if all of both is.
use Rattle.std.proofs.Common.{◌≡◌}
use Rattle.tree.specs.Walks.{left_of}
use Rattle.wire.specs.Entries.{places_in}
use Rattle.wire.specs.Labels.{places, same_places}
use Rattle.wire.proofs.labels.is_along.Given as goal

abbrev pub invariant-loop-place : goal.invariant-loop-place
invariant-loop-place l =
    (goal.iterator-loop-place).can_next l.place-iterator × (goal.iterator-loop-place).is_finite l.place-iterator
    × (same_places (places_in 40 l.place-iterator.entries.now) (left_of l.left) ≡ same_places (places l.fn.entries) (left_of l.fn.way))
