-- A list of questions grows by just those that are asked. Assumes nothing.
use Rattle.std.proofs.Common.{[], ◌∷◌, sym, ◌∙◌, append_assoc, arith}
use Rattle.std.proofs.lemmas.List.{append-nil}
use Rattle.keys.specs.Log.{log_of, LogExact}

pub log_exact : LogExact
log_exact s t [] e room = rw e (sym (append-nil (log_of t)))
log_exact s t (p ∷ ps) (u, asked, more) room =
    let (len, log) = asked (omega arith) in
    log_exact u t ps more (omega arith) ∙ rw (log, append_assoc)
