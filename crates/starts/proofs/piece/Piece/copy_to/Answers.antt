-- What the piece has of the bytes goes where they belong.
use Rattle.std.proofs.Common.{arith}
use Rattle.starts.proofs.Windows.{touched}
use Rattle.starts.proofs.piece.Piece.copy_to.Goals as goal

pub returns-then-from-to : goal.returns-then-from-to
returns-then-from-to c s read is =
    touched c.args.begin _ c.args.self.at s c.args.self.bytes.now c.args.out.now c.requires read is c.max-from.result c.min-to.result
    c.max-from.ensures (omega arith) c.copy_from_slice.new.self c.copy_from_slice.ensures.after c.if-from-to.true
