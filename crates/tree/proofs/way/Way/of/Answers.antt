-- Nothing hangs off the leaf itself, so what is left is all that hangs off above it.
use Rattle.std.proofs.Common.{◌^◌, ◌&&◌, ltb, sym}
use Rattle.tree.specs.Nodes.{leaf}
use Rattle.tree.specs.Receivers.{is_height}
use Rattle.tree.specs.Ways.{hanging}
use Rattle.tree.proofs.Tests.{told}
use Rattle.tree.proofs.way.Way.of.Goals as goal

pub returns : goal.returns
unfolding hanging
returns c =
    let h = c.args.height in
    let u = c.args.receiver in
    let t = told (is_height h && ltb u (2 ^ h)) c.in_ok-leaf.leaf (leaf h u) c.in_ok-leaf.ensures in
    record { there = sym t.0; whole = rw t.1 }
