-- Before anything is read there are zeros, for the receivers if they have no fault.
use Rattle.std.proofs.Common.{◌≡◌, ℕ, [], None, Some, refl, sym, ap, ◌∙◌, vec_items, arith}
use Rattle.std.specs.List.{All}
use Rattle.fault.specs.Lowest.{lowest}
use Rattle.tree.specs.Receivers.{list_faults, rising_from}
use Rattle.starts.specs.Kept.{KeptNodes}
use Rattle.starts.specs.Window.{nodes_of, AsRead}
use Rattle.starts.proofs.reader.StartsReader.begin.Goals as goal
use Rattle.starts.proofs.reader.StartsReader.begin.Goals.{in-Ok+in_ok-unread_starts-in-Ok, in-Err}

pub returns : goal.returns
unfolding rising_from
returns c =
    elim c.match-judged.branch [
      | in-Ok+in_ok-unread_starts-in-Ok w ↦
          let none : list_faults c.args.height c.args.receivers.now ≡ [] = rw (w.in-Ok.ensures.0, w.in-Ok.ensures.1) at w.in-Ok.asked.faultless in
          let begun : KeptNodes c.args.height c.args.receivers.now (nodes_of (vec_items w.in_ok-unread_starts-in-Ok.field-0)) × All (AsRead []) (vec_items w.in_ok-unread_starts-in-Ok.field-0) =
          rw (w.in-Ok.ensures.0, w.in-Ok.ensures.1) at w.in_ok-unread_starts-in-Ok.ensures in
          record {
            height = refl;
            asked = rw w.starts-is (sym (ap lowest none));
            nodes = λ _. rw w.starts-is begun.0;
            rises = rw w.starts-is begun.0.rises;
            head = refl;
            starts = rw w.starts-is begun.1;
            at = refl;
            done = λ j l. absurd (omega arith);
          }
      | in-Err w ↦
          record {
            height = refl;
            asked = rw w.starts-is (sym w.in-Err.ensures);
            nodes = λ none. let e : Some w.in-Err.fault ≡ None = sym w.in-Err.ensures ∙ ap lowest none in absurd (let z : ◌≡◌ {A = ℕ} 0 1 = cc in omega arith);
            rises = rw (w.starts-is, w.new.ensures.items) tt;
            head = refl;
            starts = rw (w.starts-is, w.new.ensures.items) (λ k d l. absurd (omega arith));
            at = refl;
            done = λ j l. absurd (omega arith);
          }
    ]
