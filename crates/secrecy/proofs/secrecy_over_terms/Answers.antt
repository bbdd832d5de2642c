-- Each statement by its proof.
use Rattle.secrecy.proofs.Way.{held_count}
use Rattle.secrecy.proofs.Held.{held_labels}
use Rattle.secrecy.proofs.Exact.{key_from_labels, session_from_labels, trials_give_nothing, more_air}
use Rattle.secrecy.proofs.Shown.{key_exact, shows, shows_once, number_twice, more_receivers}
use Rattle.secrecy.proofs.secrecy_over_terms.Goals as goal

pub returns : goal.returns
returns c =
    record {
      shows = shows;
      shows_once = shows_once;
      key = key_exact;
      key_from_labels = key_from_labels;
      session_from_labels = session_from_labels;
      held_count = held_count;
      held_labels = held_labels;
      trials = trials_give_nothing;
      number_twice = number_twice;
      more_receivers = more_receivers;
      more_air = more_air;
    }
