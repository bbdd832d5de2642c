-- One start more is filled, and the first that is not complete is the last of which there is anything.
use Rattle.std.proofs.Common.{[], arith, length-append}
use Rattle.starts.specs.Window.{nodes_of}
use Rattle.starts.proofs.Filled.{same_nodes, half_more, half_last}
use Rattle.starts.proofs.filling.fill_starts.Goals as goal

pub loop-k-preserved : goal.loop-k-preserved
loop-k-preserved c =
    let starts = c.loop-k.starts in
    let nodes = nodes_of c.args.starts.now in
    let k = c.loop-k.k in
    let new = c.fill_start.new.start in
    record {
      nodes = same_nodes [] [] nodes k starts (omega arith) c.loop-k.invariant.nodes new _ c.fill_start.ensures.node;
      filled = λ s at all.
          let half = c.loop-k.invariant.filled s at all in
          half_more s c.args.piece.bytes.now nodes k starts (omega arith) c.loop-k.invariant.nodes new _ c.fill_start.ensures.node half
          (c.fill_start.ensures.filled s at (half.left k _ (omega arith) (omega arith)))
          (omega (arith, c.start_at.ensures, c.if-start_at-end.false, c.end-end.ensures, length-append s c.args.piece.bytes.now));
    }

pub returns-then-start_at-end-clause-nodes : goal.returns-then-start_at-end-clause-nodes
returns-then-start_at-end-clause-nodes c =
    same_nodes [] [] (nodes_of c.args.starts.now) c.loop-k.k c.loop-k.starts (omega arith) c.loop-k.invariant.nodes c.fill_start.new.start _ c.fill_start.ensures.node

pub returns-then-start_at-end-clause-filled : goal.returns-then-start_at-end-clause-filled
returns-then-start_at-end-clause-filled c s at rise all =
    let half = c.loop-k.invariant.filled s at all in (
      half_last s c.args.piece.bytes.now (nodes_of c.args.starts.now) c.loop-k.k c.loop-k.starts (omega arith) c.loop-k.invariant.nodes c.fill_start.new.start _
          c.fill_start.ensures.node half (c.fill_start.ensures.filled s at (half.left c.loop-k.k _ (omega arith) (omega arith))) rise
          (omega (arith, c.start_at.ensures, c.start_at.type_inv, c.if-start_at-end.true, c.end-end.ensures)),
      half.complete,
    )
