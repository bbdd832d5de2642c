-- A start that is there was kept, and one that is not there was not.
use Rattle.std.proofs.Common.{◌≡◌, Bool, true, false, cond, Some, None, Option, sym, refl, ◌∙◌, is_some}
use Rattle.starts.specs.Format.{start_in}
use Rattle.starts.specs.Kept.{is_kept}
use Rattle.sending.proofs.headers.has_start.Goals as goal

-- whether an answer is one
told_by : {A : Type 0} (b : Bool) (x : A) (o : Option A) → o ≡ cond b (Some x) None → b ≡ is_some o
told_by true x o e = rw e refl
told_by false x o e = rw e refl

pub returns : goal.returns
returns c h us s has =
    let first = c.args.part.first in
    c.is_some.ensures ∙ sym (told_by (is_kept h us first) (start_in s first) c.of.result (c.of.ensures h us s has))
