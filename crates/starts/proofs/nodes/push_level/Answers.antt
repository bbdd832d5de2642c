-- One receiver more brings a node that is new, or that of the one before.
use Rattle.starts.specs.Levels.{node_on}
use Rattle.starts.proofs.Pushed.{faultless, below_at, pushed_all, pushed_new, pushed_same}
use Rattle.starts.proofs.nodes.push_level.Goals as goal
use Rattle.starts.proofs.nodes.push_level.Goals.{then-node-last+in_ok-push, else-node-last}

pub node_on-node-requires-clause-receiver : goal.node_on-node-requires-clause-receiver
node_on-node-requires-clause-receiver c =
    let sound = faultless c.args.asked.height.levels c.args.asked.list.now c.args.asked.faultless in
    below_at _ c.args.asked.list.now c.loop-receiver.receiver-index sound.1 c.loop-receiver-test.true

pub loop-receiver-preserved : goal.loop-receiver-preserved
loop-receiver-preserved c =
    elim c.if-node-last.branch [
      | then-node-last+in_ok-push w ↦
          rw (w.nodes-is, w.last-is, w.in_ok-push.ensures.items)
          (pushed_new (node_on c.args.asked.height.levels c.args.level) c.args.asked.list.now _ _ c.loop-receiver.last c.loop-receiver.receiver-index
          c.loop-receiver.invariant c.node_on-node.result c.node_on-node.ensures c.loop-receiver-test.true w.if-node-last.true)
      | else-node-last w ↦
          rw (w.nodes-is, w.last-is)
          (pushed_same (node_on c.args.asked.height.levels c.args.level) c.args.asked.list.now _ _ c.loop-receiver.last c.loop-receiver.receiver-index
          c.loop-receiver.invariant c.node_on-node.result c.node_on-node.ensures c.loop-receiver-test.true w.if-node-last.false)
    ]

pub returns : goal.returns
returns c =
    pushed_all (node_on c.args.asked.height.levels c.args.level) c.args.asked.list.now _ _ c.loop-receiver.last c.loop-receiver.receiver-index
    c.loop-receiver.invariant c.loop-receiver-test.false
