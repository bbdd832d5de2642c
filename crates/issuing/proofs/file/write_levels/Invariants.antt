-- So many levels are written as the loop has had turns.
use Rattle.std.proofs.Common.{◌≡◌, ℕ, ◌*◌, length}
use Rattle.keys.specs.Drawn.{Draws, world}
use Rattle.issuing.specs.Issued.{StartsAbove}
use Rattle.issuing.proofs.Levels.{levels, Filled}
use Rattle.issuing.proofs.file.write_levels.Given as goal

abbrev pub invariant-loop-level : goal.invariant-loop-level
invariant-loop-level g l =
    let v = l.sources in
    (l.at ≡ 40 * length (levels l.level v.own)) ×
    ((d : Draws) (tree : ℕ) → StartsAbove (world g.C.Cipher.gives d) tree v.height.levels v.own v.above →
    Filled (world g.C.Cipher.gives d) tree v.height.levels v.own l.initial.out l.level l.out)
