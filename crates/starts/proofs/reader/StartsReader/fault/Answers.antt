-- The lowest of the three is the lowest of all.
use Rattle.std.proofs.Common.{Option, ap, ◌∙◌}
use Rattle.fault.specs.declared.Fault.{Fault}
use Rattle.fault.specs.Lowest.{lower}
use Rattle.starts.proofs.Finished.{fault_asked}
use Rattle.starts.proofs.reader.StartsReader.fault.Goals as goal

pub returns : goal.returns
returns c h us s r =
    let reader = c.args.self.now in
    c.lower_of-2.ensures.lower ∙ ap (λ (o : Option Fault). lower o reader.asked) c.lower_of.ensures.lower
    ∙ fault_asked h us s reader.head reader.height r.height r.head _ _ _ (c.fault_in_file-in_file.ensures s r.head r.at) c.when-of_height.ensures r.asked
