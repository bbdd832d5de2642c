-- Four bytes are a word.
use Rattle.std.proofs.Common.{sym, refl}
use Rattle.wire.proofs.Bytes.{length_words}
use Rattle.wire.proofs.words.WordsReceiverList.count.Goals as goal

pub returns : goal.returns
returns c = sym (length_words _ c.args.self.now.bytes.now refl)
