-- The bytes are filled by the place of the start.
use Rattle.starts.proofs.Windows.{window_filled}
use Rattle.starts.proofs.filling.fill_start.Goals as goal

pub returns-clause-filled : goal.returns-clause-filled
returns-clause-filled c s at is =
    let begin = c.start_at.ensures in
    window_filled _ 32 s c.args.piece.bytes.now c.args.start.now.bytes c.copy_to.new.out is (rw begin at (c.copy_to.ensures s at))
