-- The labels are written behind the front of the file.
use Rattle.std.proofs.Common.{◌≡◌, ℕ, List, ◌++◌, length, drop, ap, ◌∙◌, arith}
use Rattle.keys.specs.Drawn.{world}
use Rattle.wire.specs.Labels.{labels_head}
use Rattle.issuing.proofs.Levels.{file_written}
use Rattle.issuing.proofs.file.write_file.Goals as goal

pub returns : goal.returns
returns g c d tree all above =
    let s = c.args.sources.now in
    let before = c.args.out.now in
    let head : c.copy_from_slice.new.self ≡ labels_head s.height.levels s.receiver s.all = c.copy_from_slice.ensures.after ∙ c.head_bytes.ensures in
    let full : length s.all ≡ 32 = omega (arith, ap length head, c.copy_from_slice.ensures.len) in
    file_written (world g.C.Cipher.gives d) tree s.height.levels s.receiver s.all before _ c.write_levels.new.out full all
    (ap (λ (l : List ℕ). l ++ drop 38 before) head) (rw s.stands at (c.write_levels.ensures d tree above))
