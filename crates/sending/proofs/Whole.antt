-- A whole sending: its front, and its headers behind it. Assumes nothing.
use Rattle.std.proofs.Common.{◌≡◌, ℕ, ◌-◌, List, [], ◌∷◌, ◌++◌, map, length, take, drop, None, sym, refl, ap, ◌∙◌, subst, ap₂}
use borrow.Rule.Slice.PartMut.{put_mid}
use Rattle.std.proofs.lemmas.Grind.{flat_map-append}
use Rattle.std.proofs.lemmas.List.{length-map, take_at}
use Rattle.std.specs.List.{flat_map}
use Rattle.fault.specs.Lowest.{lowest}
use Rattle.fault.specs.Memory.{over}
use Rattle.tree.specs.declared.parts.Part.{Part}
use Rattle.tree.specs.Cover.{cover}
use Rattle.tree.proofs.Covers.{covers}
use Rattle.tree.proofs.Judged.{sound, sound_height}
use Rattle.tree.proofs.Memory.{over_on}
use Rattle.secrecy.specs.Air.{Sending, Trial, as_trial, header, noises, sent, air, signals}
use Rattle.secrecy.specs.Worlds.{World, bytes}
use Rattle.secrecy.proofs.Shown.{shows}
use Rattle.wire.specs.Sending.{sending_head, sending_size, sending_bytes, ReadsAsSent}
use Rattle.wire.proofs.Sent.{length_sending, reads_as_sent, proper_inside}
use Rattle.sending.specs.Sent.{covered, headers_of, sent_file, SentIn, FileIsAir}
use Rattle.sending.specs.Answer.{send_faults}
use Rattle.sending.proofs.Counted.{order_sound, few_parts}
use Rattle.sending.specs.Headers.{WroteHeaders}
use Rattle.sending.specs.Secret.{heard, SendingsSecret}

pub front_and_headers : (w : World) (h n : ℕ) (m : Trial) (ps : List Part) (before mid end : List ℕ) → mid ≡ sending_head h n (length ps) ++ drop 10 before →
    WroteHeaders w h m ps (take (length mid - 10) (drop 10 mid)) end →
    put_mid 10 (length mid - 10) mid end ≡ over (sending_bytes h n ps (map (covered w h m) ps)) before
front_and_headers w h n m ps before mid end e (wide, new) = over_on (sending_head h n (length ps)) (headers_of w h m ps) before mid end 10 refl e new

-- the file of a sending
pub sent_in : (w : World) (h : ℕ) (m : Sending) (before mid end : List ℕ) → mid ≡ sending_head h m.number (length (cover h m.revoked)) ++ drop 10 before →
    WroteHeaders w h (as_trial h m) (cover h m.revoked) (take (length mid - 10) (drop 10 mid)) end → SentIn w h m before (put_mid 10 (length mid - 10) mid end)
sent_in w h m before mid end e wrote = (wrote.0, front_and_headers w h m.number (as_trial h m) (cover h m.revoked) before mid end e wrote)

-- the front of what is written is read back
module _ (w : World) (h : ℕ) (m : Sending) (before after : List ℕ) (none : None ≡ lowest (send_faults h m.number m.revoked)) (sent-file : SentIn w h m before after) where
  abbrev ps : List Part
  ps = cover h m.revoked

  abbrev headers : List (List ℕ)
  headers = map (covered w h (as_trial h m)) ps

  sent_front : (size : ℕ) → size ≡ sending_size (length ps) → take size after ≡ sent_file w h m
  sent_front size e =
      let long = length_sending h m.number ps headers (length-map ps (covered w h (as_trial h m))) sent-file.0 in
      ap (take size) sent-file.1 ∙ take_at (sent_file w h m) (drop (length (sent_file w h m)) before) size (long ∙ sym e)

  sent_reads : (size : ℕ) → size ≡ sending_size (length ps) → ReadsAsSent (take size after) h m.number ps headers
  sent_reads size e =
      let (low, sound-list) = order_sound h m.number m.revoked none in
      let (inside, descend) = proper_inside h ps (covers h m.revoked (sound h m.revoked sound-list).1).neat in
      subst (λ (bs : List ℕ). ReadsAsSent bs h m.number ps headers) (sym (sent_front size e))
      (reads_as_sent h m.number ps headers (sound_height h m.revoked sound-list) low (few_parts h m.revoked sound-list) inside descend (length-map ps (covered w h (as_trial h m))) sent-file.0)

  pub sent_back : (n : ℕ) (rs : List ℕ) (size : ℕ) → m.number ≡ n → m.revoked ≡ rs → size ≡ sending_size (length (cover h rs)) →
      ReadsAsSent (take size after) h n (cover h rs) (map (covered w h (as_trial h m)) (cover h rs))
  sent_back n rs size en er e =
      subst (λ (r : List ℕ). ReadsAsSent (take size after) h n (cover h r) (map (covered w h (as_trial h m)) (cover h r))) er
      (subst (λ (x : ℕ). ReadsAsSent (take size after) h x ps headers) en (sent_reads size (e ∙ ap (λ (r : List ℕ). sending_size (length (cover h r))) (sym er))))

-- the bytes of what is made of each, one behind the other
joined_joined : {A B C : Type 0} (f : B → List C) (g : A → List B) (xs : List A) → flat_map (λ x. flat_map f (g x)) xs ≡ flat_map f (flat_map g xs)
joined_joined f g [] = refl
joined_joined f g (x ∷ xs) = ap (λ l. flat_map f (g x) ++ l) (joined_joined f g xs) ∙ sym (flat_map-append f (g x) (flat_map g xs))

pub file_is_air : FileIsAir
unfolding noises
file_is_air w h m = joined_joined (bytes w) (header h (as_trial h m)) (as_trial h m).parts

-- of all sendings
heard_is_air : (w : World) (h : ℕ) (ss : List Sending) → heard w h ss ≡ flat_map (bytes w) (air h (signals h ss []))
unfolding noises
heard_is_air w h [] = refl
heard_is_air w h (m ∷ ss) =
    ap₂ ◌++◌ (file_is_air w h m) (heard_is_air w h ss) ∙ sym (flat_map-append (bytes w) (sent h (as_trial h m)) (air h (signals h ss [])))

pub sendings_secret : SendingsSecret
sendings_secret gs h ss sound = ((λ w. heard_is_air w h ss), λ who fine m mem. shows gs h ss [] sound who fine m mem)
