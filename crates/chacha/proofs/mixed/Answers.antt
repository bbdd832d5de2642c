-- Two shifts and an or of each word are a roll.
use Rattle.chacha.proofs.Rows.{rolled_words}
use Rattle.chacha.proofs.mixed.Goals as goal

pub returns : goal.returns
returns c = rolled_words c.args.n c.requires.0 c.requires.1 c.args.x c.args.y c.fits-x.0 c.fits-y.0
