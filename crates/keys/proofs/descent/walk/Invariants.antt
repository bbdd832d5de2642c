-- Of the way to `to`, as many nodes are ahead as the loop has turns left.
use Rattle.std.proofs.Common.{◌≡◌}
use Rattle.secrecy.specs.Terms.{Term}
use Rattle.secrecy.specs.Worlds.{bytes}
use Rattle.keys.specs.Drawn.{Draws, world}
use Rattle.keys.specs.Down.{last_nodes}
use Rattle.keys.proofs.Walks.{Along}
use Rattle.keys.proofs.descent.walk.Given as goal

abbrev pub invariant-loop-left : goal.invariant-loop-left
invariant-loop-left g l =
    (d : Draws) (t : Term) → l.initial.here ≡ bytes (world g.C.Cipher.gives d) t →
    Along g.C.Cipher.steps (world g.C.Cipher.gives d) (last_nodes l.steps l.to) (last_nodes l.left l.to) t l.initial.cipher l.cipher l.here
