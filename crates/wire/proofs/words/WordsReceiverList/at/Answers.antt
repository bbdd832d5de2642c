-- A number with a place among the numbers has four bytes.
use Rattle.std.proofs.Common.{ℕ, ◌+◌, ◌*◌, ◌<◌, ◌≤◌, List, length, sym, refl, ◌∙◌, arith, rules}
use Rattle.wire.specs.Words.{words}
use Rattle.wire.proofs.Bytes.{length_words, get_or_words}
use Rattle.wire.proofs.words.WordsReceiverList.at.Goals as goal

within : (s : List ℕ) (i : ℕ) → i < length (words s) → 4 * i + 4 ≤ length s
within s i l = omega (arith, length_words _ s refl)

pub overflow_mul-index : goal.overflow_mul-index
overflow_mul-index c = let l = within c.args.self.now.bytes.now c.args.index c.requires in search (rules, l)

pub word_at-requires : goal.word_at-requires
word_at-requires c = within c.args.self.now.bytes.now c.args.index c.requires

pub returns : goal.returns
returns c = c.word_at.ensures ∙ sym (get_or_words c.args.index c.args.self.now.bytes.now (within c.args.self.now.bytes.now c.args.index c.requires))
