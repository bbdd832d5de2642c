-- What a file is, by its first byte, and the answer of whoever reads its height. Assumes nothing.
use Rattle.std.specs.Prelude.{ℕ, Ok, Err, Result}
use Rattle.fault.specs.declared.Fault.{Fault}
use Rattle.tree.specs.declared.heights.Height.{Height}
use Rattle.wire.specs.declared.head.Kind.{Kind}
use Rattle.wire.specs.declared.head.Kind.TheVariants.{Revocation, Labels, Sending, Starts}

abbrev pub number_of : Kind → ℕ
number_of Revocation = 1
number_of Labels = 2
number_of Sending = 3
number_of Starts = 4

-- the height as a number
abbrev pub levels_of : Result Height Fault → Result ℕ Fault
levels_of (Ok h) = Ok h.levels
levels_of (Err f) = Err f
