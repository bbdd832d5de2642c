-- The key of the part covers the session key.
use Rattle.std.proofs.Common.{arith}
use Rattle.secrecy.specs.Terms.{key}
use Rattle.keys.specs.Drawn.{world}
use Rattle.sending.proofs.Covering.{under_terms}
use Rattle.sending.proofs.header.header.Goals as goal

pub returns : goal.returns
returns g c h low proper d m e start session =
    let w = world g.C.Cipher.gives d in
    let k = key m.tree h c.args.part in
    let at_key = (c.in_ok-key.ensures.answer h low).1 d m.tree start in
    let at-pad = c.in_ok-pad.ensures.answer.1 d k at_key in
    rw e (under_terms w k c.args.show.number m.session c.in_ok-pad.pad c.args.show.session c.under.result (omega arith) (omega arith) at-pad session c.under.ensures)
