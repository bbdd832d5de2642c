-- The starts before the one at hand have what the piece has of them, and are complete; the others are as they were.
use Rattle.std.proofs.Common.{◌≡◌, ℕ, List}
use Rattle.std.specs.List.{All}
use Rattle.starts.specs.Window.{counted, AsRead, nodes_of}
use Rattle.starts.proofs.Filled.{Half}
use Rattle.starts.proofs.filling.fill_starts.Given as goal

abbrev pub invariant-loop-k : goal.invariant-loop-k
invariant-loop-k l =
    record {
      nodes : nodes_of l.starts ≡ nodes_of l.initial.starts;
      filled : (s : List ℕ) → l.piece.at ≡ counted s → All (AsRead s) l.initial.starts → Half s l.piece.bytes.now (nodes_of l.initial.starts) l.k l.starts;
    }
