-- The leaves below a node are leaves of the tree, so their numbers fit.
use Rattle.tree.proofs.Stand.{leaves_from, leaves_fit}
use Rattle.tree.proofs.subtree.Subtree.first_receiver.Goals as goal

pub overflow_sub-result : goal.overflow_sub-result
overflow_sub-result c =
    let fit = leaves_fit c.args.self.height.levels c.args.self.levels c.args.self.node c.args.self.stands in
    rw (fit.0, fit.1) (leaves_from c.args.self.height.levels c.args.self.levels c.args.self.node c.args.self.stands)

pub returns : goal.returns
returns c =
    let fit = leaves_fit c.args.self.height.levels c.args.self.levels c.args.self.node c.args.self.stands in
    rw (fit.0, fit.1)
