-- As many headers are written as the loop has had turns.
use Rattle.std.proofs.Common.{◌≡◌, ℕ, List}
use Rattle.secrecy.specs.Air.{Trial}
use Rattle.secrecy.specs.Terms.{Session}
use Rattle.secrecy.specs.Worlds.{bytes}
use Rattle.keys.specs.Drawn.{Draws, world}
use Rattle.starts.specs.Drawn.{DrawnIn}
use Rattle.starts.specs.Reading.{HasStarts}
use Rattle.sending.specs.Headers.{AllSendable}
use Rattle.sending.proofs.Filling.{Filled}
use Rattle.sending.proofs.headers.write_headers.Given as goal

abbrev pub invariant-loop-i : goal.invariant-loop-i
invariant-loop-i g l =
    (h : ℕ) (us s : List ℕ) → HasStarts h us s l.starts → AllSendable h us l.parts →
    (d : Draws) (m : Trial) → m.number ≡ l.show.number → DrawnIn s m.tree h d → l.show.session ≡ bytes (world g.C.Cipher.gives d) (Session m.session) →
    Filled (world g.C.Cipher.gives d) h m l.parts l.initial.out l.i l.out
