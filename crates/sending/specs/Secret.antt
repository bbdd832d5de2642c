-- What can be worked out from the files of sendings. Assumes nothing.
use Rattle.std.specs.Prelude.{◌≡◌, ℕ, ◌^◌, T, ◌↔◌, List, []}
use Rattle.std.specs.List.{flat_map}
use Rattle.tree.specs.Receivers.{all_below}
use Rattle.secrecy.specs.Lists.{◌∈◌}
use Rattle.secrecy.specs.Terms.{show_key}
use Rattle.secrecy.specs.Held.{held_by}
use Rattle.secrecy.specs.Air.{Sending, as_trial, air, signals, view}
use Rattle.secrecy.specs.Gets.{Gets}
use Rattle.secrecy.specs.Promise.{Sound, SomeoneLeftOnce}
use Rattle.secrecy.specs.Worlds.{World, bytes}
use Rattle.sending.specs.Sent.{covered}

-- the 48 bytes of all headers in the files of sendings, one behind the other
abbrev pub heard : World → ℕ → List Sending → List ℕ
heard w h ss = flat_map (λ (m : Sending). flat_map (covered w h (as_trial h m)) (as_trial h m).parts) ss

-- Over any sendings with numbers of their own: what is heard of their files are the bytes of the terms on the air, and from these terms and
-- what they hold, receivers put together get the show's key of a sending exactly if one of them was not revoked in a sending with its
-- session key.
abbrev pub SendingsSecret : Type 0
SendingsSecret =
    (gs : List ℕ) (h : ℕ) (ss : List Sending) → Sound gs h ss [] →
    ((w : World) → heard w h ss ≡ flat_map (bytes w) (air h (signals h ss []))) ×
    ((who : List ℕ) → T (all_below (2 ^ h) who) → (m : Sending) → m ∈ ss →
    Gets (view (held_by gs h who) h (signals h ss [])) (show_key m.session) ↔ SomeoneLeftOnce who m.session ss)
