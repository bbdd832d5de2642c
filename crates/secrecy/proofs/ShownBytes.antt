-- Who finds which show: the theorems over bytes on receivers, from those on labels. Assumes nothing.
use Rattle.std.proofs.Common.{⊎_elim}
use Rattle.std.proofs.lemmas.Bool.{both_ways, cases_Bool}
use Rattle.secrecy.specs.Held.{held_by}
use Rattle.secrecy.specs.Air.{signals}
use Rattle.secrecy.specs.Blind.{ShowsBytes, OnlyLeft}
use Rattle.secrecy.proofs.Held.{held_labels}
use Rattle.secrecy.proofs.Hiding.{shown, shown_decides}
use Rattle.secrecy.proofs.Shown.{opened_left, left_opened}
use Rattle.secrecy.proofs.Room.{unfound}
use Rattle.secrecy.proofs.Found.{found}

pub shows_bytes : ShowsBytes
shows_bytes gs h ss ts sound who small m k =
    let own = held_by gs h who in
    let log = signals h ss ts in
    let hidden = unfound h log sound.once own (held_labels gs h who) m.session in (
      (λ left. found h log own m.session (left_opened gs h who small ss ts sound m.session left)),
      λ none. hidden (λ x. none (opened_left gs h who small ss ts sound m k x)),
    )

pub only_left : OnlyLeft
only_left gs h ss ts sound who small m k w real run bounded finds =
    let own = held_by gs h who in
    let log = signals h ss ts in
    let d = shown_decides own h log m.session in
    let hidden = unfound h log sound.once own (held_labels gs h who) m.session in
    ⊎_elim (λ e. opened_left gs h who small ss ts sound m k (d.0 e))
    (λ e. let v = hidden (λ x. both_ways (shown own h log m.session) e (d.1 x)) w real run bounded in
    absurd (v.not_show (finds v.elsewhere v.looks_same.real)))
    (cases_Bool (shown own h log m.session))
