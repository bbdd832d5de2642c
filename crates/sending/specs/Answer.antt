-- What the code that writes a sending answers. Assumes nothing.
use Rattle.std.specs.Prelude.{◌≡◌, Bool, cond, Ok, Err, ℕ, ◌-◌, ◌/◌, min, List, ◌++◌, length, Result, nat_lt}
use Rattle.fault.specs.declared.Fault.{Fault}
use Rattle.fault.specs.declared.Fault.TheVariants.{OutOfRange}
use Rattle.fault.specs.declared.Refusal.{Refusal}
use Rattle.fault.specs.declared.Refusal.TheVariants.{Faulty}
use Rattle.fault.specs.Lowest.{when, lowest}
use Rattle.fault.specs.Memory.{fitted}
use Rattle.tree.specs.Numbers.{last_number}
use Rattle.tree.specs.Receivers.{list_faults}
use Rattle.tree.specs.Cover.{cover}
use Rattle.tree.specs.Promise.{most}
use Rattle.wire.specs.Sending.{sending_size}
use Rattle.sending.specs.Headers.{firsts_kept}

-- all that is wrong with the number and the revoked receivers of a sending
abbrev pub send_faults : ℕ → ℕ → List ℕ → List Fault
send_faults h n rs = when (nat_lt last_number n) OutOfRange ++ list_faults h rs

-- for how many parts there is room, where so many can be noted and so many bytes be written
abbrev pub room_for : ℕ → ℕ → ℕ
room_for noted bytes = min noted ((bytes - 10) / 56)

-- how many bytes the sending has, where nothing is wrong and there is room for the most parts that so many revoked can make
abbrev pub send_answer : ℕ → ℕ → List ℕ → ℕ → ℕ → Result ℕ Refusal
send_answer h n rs noted bytes = fitted (lowest (send_faults h n rs)) (most (length rs)) (room_for noted bytes) (sending_size (length (cover h rs)))

-- an answer, which is a refusal where a start is missing
abbrev pub with_starts : Bool → Result ℕ Refusal → Result ℕ Refusal
with_starts all (Err r) = Err r
with_starts all (Ok n) = cond all (Ok n) (Err (Faulty OutOfRange))

-- the same, where the starts were read for the receivers us; when one is missing that the cover needs, there is no such tree
abbrev pub answer_from : ℕ → List ℕ → ℕ → List ℕ → ℕ → ℕ → Result ℕ Refusal
answer_from h us n rs noted bytes = with_starts (firsts_kept h us (cover h rs)) (send_answer h n rs noted bytes)

-- Of starts that were read for the revoked receivers, none is missing.
abbrev pub OwnStarts : Type 0
OwnStarts = (h n : ℕ) (rs : List ℕ) (noted bytes : ℕ) → answer_from h rs n rs noted bytes ≡ send_answer h n rs noted bytes
