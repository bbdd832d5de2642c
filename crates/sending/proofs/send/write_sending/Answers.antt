-- What is refused is refused before anything is written; else all of the sending is.
use Rattle.std.proofs.Common.{◌≡◌, ℕ, true, false, List, length, Some, None, sym, refl, ap, ◌∙◌, subst}
use Rattle.std.proofs.lemmas.Result.{err_from_is_err_and}
use Rattle.fault.specs.Lowest.{lowest}
use Rattle.fault.specs.Memory.{over}
use Rattle.tree.specs.Cover.{cover}
use Rattle.tree.proofs.Covers.{covers}
use Rattle.secrecy.specs.Air.{Sending}
use Rattle.secrecy.proofs.ShownBytes.{shows_bytes}
use Rattle.keys.specs.Drawn.{Draws, world}
use Rattle.starts.specs.Reading.{HasStarts}
use Rattle.wire.specs.Sending.{sending_size}
use Rattle.sending.specs.Answer.{send_faults}
use Rattle.sending.specs.Headers.{firsts_kept}
use Rattle.sending.proofs.Parts.{own_starts}
use Rattle.sending.specs.Sent.{Ordered, SentIn}
use Rattle.sending.proofs.Whole.{sent_back, file_is_air, sendings_secret}
use Rattle.sending.proofs.send.write_sending.Goals as goal

-- the fault of the number or of the list
pub returns-in_err-order : goal.returns-in_err-order
returns-in_err-order g c =
    let p = err_from_is_err_and c.from_residual.result c.from_residual.ensures.1 in
    let fault : (h : ℕ) (us s : List ℕ) → HasStarts h us s c.args.starts.now → lowest (send_faults h c.args.number c.args.revoked.now) ≡ Some c.in_err-order.field-0.0 =
    λ h us s has. ap (λ (x : ℕ). lowest (send_faults x c.args.number c.args.revoked.now)) (sym (c.height.ensures ∙ has.height)) ∙ sym c.in_err-order.ensures in
    rw (p.1, p.2)
    record {
      answer = λ h us s has. rw (fault h us s has) refl;
      own_starts = own_starts;
      within = tt;
      parts = λ h us s has. rw (fault h us s has) refl;
      memory = λ h us s d m has o. refl;
      refused = λ h us s has. refl;
      read_back = λ h us s d m has o. tt;
      few = covers;
      air = file_is_air;
      secret = sendings_secret;
      over_bytes = shows_bytes;
    }

pub returns-then-not-has_room : goal.returns-then-not-has_room
returns-then-not-has_room g c =
    let none : (h : ℕ) (us s : List ℕ) → HasStarts h us s c.args.starts.now → lowest (send_faults h c.args.number c.args.revoked.now) ≡ None =
    λ h us s has. ap (λ (x : ℕ). lowest (send_faults x c.args.number c.args.revoked.now)) (sym (c.height.ensures ∙ has.height)) ∙ sym c.in_ok-order.ensures.0 in
    let test = rw c.room_for.ensures at c.if-not-has_room.ensures in
    record {
      answer = λ h us s has. rw (none h us s has, ← test) refl;
      own_starts = own_starts;
      within = tt;
      parts = λ h us s has. rw (none h us s has, ← test) refl;
      memory = λ h us s d m has o. refl;
      refused = λ h us s has. refl;
      read_back = λ h us s d m has o. tt;
      few = covers;
      air = file_is_air;
      secret = sendings_secret;
      over_bytes = shows_bytes;
    }

pub returns : goal.returns
returns g c =
    let k = c.height.result in
    let n = c.args.number in
    let rs = c.args.revoked.now in
    let order = c.in_ok-order.ensures in
    let w = rw (order.1, order.2, order.3, order.4) at c.in_ok-count.ensures in
    let same : (h : ℕ) (us s : List ℕ) → HasStarts h us s c.args.starts.now → h ≡ k = λ h us s has. sym (c.height.ensures ∙ has.height) in
    let at-k : (h : ℕ) (us s : List ℕ) → HasStarts h us s c.args.starts.now → HasStarts k us s c.args.starts.now =
    λ h us s has. subst (λ (x : ℕ). HasStarts x us s c.args.starts.now) (same h us s has) has in
    let size : (h : ℕ) (us s : List ℕ) → HasStarts h us s c.args.starts.now → c.size_of_sending.result ≡ sending_size (length (cover h rs)) =
    λ h us s has. c.size_of_sending.ensures ∙ ap sending_size ((w.written us s (at-k h us s has)).1) ∙ ap (λ (x : ℕ). sending_size (length (cover x rs))) (sym (same h us s has)) in
    let none : (h : ℕ) (us s : List ℕ) → HasStarts h us s c.args.starts.now → lowest (send_faults h n rs) ≡ None =
    λ h us s has. ap (λ (x : ℕ). lowest (send_faults x n rs)) (same h us s has) ∙ sym order.0 in
    let kept : (h : ℕ) (us s : List ℕ) → HasStarts h us s c.args.starts.now → firsts_kept h us (cover h rs) ≡ true =
    λ h us s has. ap (λ (x : ℕ). firsts_kept x us (cover x rs)) (same h us s has) ∙ (w.written us s (at-k h us s has)).0 in
    let test = rw c.room_for.ensures at c.if-not-has_room.ensures in
    let sent : (h : ℕ) (us s : List ℕ) (d : Draws) (m : Sending) → HasStarts h us s c.args.starts.now → Ordered g.C.Cipher.gives s h n rs c.args.session d m →
    SentIn (world g.C.Cipher.gives d) h m c.args.out.now c.write_order.new.out =
    λ h us s d m has o.
    let made = c.in_ok-order.order in
    let at = same h us s has ∙ sym order.1 in
    let ordered : Ordered g.C.Cipher.gives s made.revoked.height.levels made.show.number made.revoked.list.now made.show.session d m =
    subst (λ (x : ℕ). Ordered g.C.Cipher.gives s x made.show.number made.revoked.list.now made.show.session d m) at
    (subst (λ (x : ℕ). Ordered g.C.Cipher.gives s h x made.revoked.list.now made.show.session d m) (sym order.3)
    (subst (λ (x : List ℕ). Ordered g.C.Cipher.gives s h n x made.show.session d m) (sym order.2)
    (subst (λ (x : List ℕ). Ordered g.C.Cipher.gives s h n rs x d m) (sym order.4) o))) in
    subst (λ (x : ℕ). SentIn (world g.C.Cipher.gives d) x m c.args.out.now c.write_order.new.out) (sym at)
    ((c.in_ok-count.ensures.written us s (subst (λ (x : ℕ). HasStarts x us s c.args.starts.now) at has)).2 d m ordered) in
    record {
      answer = λ h us s has. rw (none h us s has, ← test, kept h us s has, size h us s has) refl;
      own_starts = own_starts;
      within = rw c.size_of_sending.ensures w.within;
      parts = λ h us s has. rw (none h us s has, ← test) (w.noted ∙ ap (λ (x : ℕ). over (cover x rs) c.args.parts.now) (sym (same h us s has)));
      memory = λ h us s d m has o. (sent h us s d m has o).1;
      refused = λ h us s has. tt;
      read_back =
          λ h us s d m has o.
          let fine : None ≡ lowest (send_faults h m.number m.revoked) =
          sym (none h us s has) ∙ ap (λ (x : ℕ). lowest (send_faults h x rs)) (sym o.number) ∙ ap (λ (r : List ℕ). lowest (send_faults h m.number r)) (sym o.revoked) in
          sent_back (world g.C.Cipher.gives d) h m c.args.out.now c.write_order.new.out fine (sent h us s d m has o) n rs c.size_of_sending.result o.number o.revoked (size h us s has);
      few = covers;
      air = file_is_air;
      secret = sendings_secret;
      over_bytes = shows_bytes;
    }

-- a start is missing
pub returns-in_err-count : goal.returns-in_err-count
returns-in_err-count g c =
    let p = err_from_is_err_and c.from_residual-in_err-count.result c.from_residual-in_err-count.ensures.1 in
    let k = c.height.result in
    let n = c.args.number in
    let rs = c.args.revoked.now in
    let order = c.in_ok-order.ensures in
    let w = rw (order.1, order.2) at c.in_err-count.ensures in
    let same : (h : ℕ) (us s : List ℕ) → HasStarts h us s c.args.starts.now → h ≡ k = λ h us s has. sym (c.height.ensures ∙ has.height) in
    let at-k : (h : ℕ) (us s : List ℕ) → HasStarts h us s c.args.starts.now → HasStarts k us s c.args.starts.now =
    λ h us s has. subst (λ (x : ℕ). HasStarts x us s c.args.starts.now) (same h us s has) has in
    let none : (h : ℕ) (us s : List ℕ) → HasStarts h us s c.args.starts.now → lowest (send_faults h n rs) ≡ None =
    λ h us s has. ap (λ (x : ℕ). lowest (send_faults x n rs)) (same h us s has) ∙ sym order.0 in
    let missing : (h : ℕ) (us s : List ℕ) → HasStarts h us s c.args.starts.now → firsts_kept h us (cover h rs) ≡ false =
    λ h us s has. ap (λ (x : ℕ). firsts_kept x us (cover x rs)) (same h us s has) ∙ (w.written us s (at-k h us s has)).0 in
    let test = rw c.room_for.ensures at c.if-not-has_room.ensures in
    rw (p.1, p.2)
    record {
      answer = λ h us s has. rw (none h us s has, ← test, missing h us s has, (w.written us s (at-k h us s has)).1) refl;
      own_starts = own_starts;
      within = tt;
      parts = λ h us s has. rw (none h us s has, ← test) (w.noted ∙ ap (λ (x : ℕ). over (cover x rs) c.args.parts.now) (sym (same h us s has)));
      memory = λ h us s d m has o. (w.written us s (at-k h us s has)).2;
      refused = λ h us s has. (w.written us s (at-k h us s has)).2;
      read_back = λ h us s d m has o. tt;
      few = covers;
      air = file_is_air;
      secret = sendings_secret;
      over_bytes = shows_bytes;
    }
