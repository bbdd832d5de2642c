-- So many nodes are ahead as the loop has turns left.
use Rattle.std.proofs.Common.{◌≡◌, ℕ, ◌/◌, ◌^◌, ◌≤◌}
use Rattle.secrecy.specs.Terms.{Start}
use Rattle.secrecy.specs.Worlds.{bytes}
use Rattle.keys.specs.Drawn.{Draws, world}
use Rattle.issuing.proofs.Under.{Ahead}
use Rattle.issuing.proofs.entries.write_under.Given as goal

abbrev pub invariant-loop-left : goal.invariant-loop-left
invariant-loop-left g l =
    (d : Draws) (tree h : ℕ) → l.steps ≤ h → l.initial.here ≡ bytes (world g.C.Cipher.gives d) (Start tree (l.leaf / 2 ^ l.steps)) →
    Ahead (world g.C.Cipher.gives d) tree h l.steps l.leaf l.initial.out l.left l.here l.out
