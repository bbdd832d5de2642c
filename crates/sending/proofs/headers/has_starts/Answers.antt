-- Each start is looked up, up to the first that is not there.
use Rattle.std.proofs.Common.{◌≡◌, true, false, Bor, refl, ap, rules}
use Rattle.std.proofs.lemmas.Iterator.{cases_from_all, YieldsList-from_slice}
use Rattle.tree.specs.Parts.{part}
use Rattle.starts.specs.declared.table.Starts.{Starts}
use Rattle.starts.specs.Kept.{is_kept}
use Rattle.wire.proofs.Tested.{by_items}
use Rattle.sending.specs.Headers.{firsts_kept}
use Rattle.sending.proofs.headers.has_starts.Goals as goal

pub returns : goal.returns
unfolding firsts_kept
returns c h us s has =
    let ps = c.args.parts.now in
    by_items (λ p. is_kept h us p.first) (firsts_kept h us) refl (λ p ps. refl) (part 0 0) c.all.result ps
    (cases_from_all c.all.new.self _ c.all.result (λ x. is_kept h us x.first ≡ true) (λ x. is_kept h us x.first ≡ false) c.all.ensures.ran
    (YieldsList-from_slice ps c.iter.ensures.rest) (λ x q k. (ap (λ (r : Bor Starts). record { 0 = r }) k.met.1, search (rules, has))) (λ x q k. search (rules, has)))
