-- Without a fault, all that is kept was read to its end.
use Rattle.std.proofs.Common.{vec_items, sym, ◌∙◌}
use Rattle.fault.proofs.Lowest.{lowest_none}
use Rattle.starts.specs.Format.{asked_faults}
use Rattle.starts.proofs.Finished.{file_sound, same_height, asked_sound, starts_are}
use Rattle.starts.proofs.reader.StartsReader.finish.Goals as goal

pub returns-in-None : goal.returns-in-None
returns-in-None c h us s r =
    let none = lowest_none (asked_faults h us s) (sym c.in-None.is ∙ c.fault.ensures h us s r) in
    let kept = r.nodes (asked_sound h us s none) in
    record {
      height = r.height;
      faultless = file_sound h us s none;
      same = same_height h us s none;
      sound = asked_sound h us s none;
      nodes = kept;
      starts = starts_are h us s none (vec_items c.args.self.starts) kept r.starts;
    }
