-- A cover has fewer parts than four bytes can count. Assumes nothing.
use Rattle.std.proofs.Common.{◌≡◌, ℕ, zero, suc, ◌-◌, ◌*◌, ◌^◌, ◌<◌, ◌≤◌, Bool, true, false, cond, ltb, leb, List, [], ◌++◌, length, take, drop, Some, None, Ok, Err, Option, sym, refl, ap, ◌∙◌, arith}
use Rattle.std.proofs.lemmas.List.{take_at}
use Rattle.std.proofs.lemmas.Bool.{leb-true, ltb-false}
use Rattle.fault.specs.declared.Refusal.TheVariants.{NoRoom}
use Rattle.fault.specs.declared.Fault.{Fault}
use Rattle.fault.specs.declared.Fault.TheVariants.{OutOfRange}
use Rattle.fault.specs.Lowest.{when, lowest}
use Rattle.fault.specs.Memory.{over, fitted}
use Rattle.fault.proofs.Lowest.{lowest_none}
use Rattle.tree.specs.declared.parts.Part.{Part}
use Rattle.tree.specs.Numbers.{last_number}
use Rattle.tree.specs.Receivers.{list_faults}
use Rattle.tree.specs.Cover.{cover}
use Rattle.tree.specs.Promise.{most}
use Rattle.tree.specs.Written.{cover_answer}
use Rattle.tree.proofs.Covers.{covers}
use Rattle.tree.proofs.Memory.{take_front}
use Rattle.tree.proofs.Judged.{sound, few_receivers}
use Rattle.sending.specs.Answer.{send_faults}

-- an answer means that there was no fault and room enough
pub fitted_ok : (o : Option Fault) (needed room n x : ℕ) → Ok x ≡ fitted o needed room n → (None ≡ o) × (needed ≤ room) × (x ≡ n)
fitted_ok (Some f) needed room n x e = absurd (let z : ◌≡◌ {A = ℕ} 0 1 = cc in omega arith)
fitted_ok None needed room n x e = go (leb needed room) refl e
  where
    go : (b : Bool) → leb needed room ≡ b → Ok x ≡ cond b (Ok n) (Err NoRoom) → (◌≡◌ {A = Option Fault} None None) × (needed ≤ room) × (x ≡ n)
    go true t q = (refl, leb-true needed room t, cc)
    go false t q = absurd (let z : ◌≡◌ {A = ℕ} 0 1 = cc in omega arith)

most_small : (r n : ℕ) → r ≤ n → 1 ≤ n → most r < 2 * n
most_small zero n l one = omega arith
most_small (suc r) n l one = omega arith

pub few_parts : (h : ℕ) (rs : List ℕ) → None ≡ lowest (list_faults h rs) → length (cover h rs) < 2 ^ 32
few_parts h rs none =
    let few = (covers h rs (sound h rs none).1).few in
    omega (arith, few, most_small (length rs) 65536 (few_receivers h rs none) (omega arith))

-- a number and revoked receivers without a fault
pub order_sound : (h n : ℕ) (rs : List ℕ) → None ≡ lowest (send_faults h n rs) → (n ≤ last_number) × (None ≡ lowest (list_faults h rs))
order_sound h n rs e = go (ltb last_number n) refl (lowest_none (send_faults h n rs) e)
  where
    go : (b : Bool) → ltb last_number n ≡ b → when b OutOfRange ++ list_faults h rs ≡ [] → (n ≤ last_number) × (None ≡ lowest (list_faults h rs))
    go true t q = absurd (let z : ◌≡◌ {A = ℕ} 0 1 = cc in omega arith)
    go false t q = (ltb-false last_number n t, sym (ap lowest q))

-- the cover that was noted
module _ (h : ℕ) (rs : List ℕ) (before after : List Part) (count : ℕ) (answer : Ok count ≡ cover_answer h rs (length before)) (noted : after ≡ over (cover h rs) before) where
  pub count_is : count ≡ length (cover h rs)
  count_is = (fitted_ok (lowest (list_faults h rs)) (most (length rs)) (length before) (length (cover h rs)) count answer).2

  pub noted_is : take (count - 0) after ≡ cover h rs
  noted_is = take_front after count ∙ ap (take count) noted ∙ take_at (cover h rs) (drop (length (cover h rs)) before) count (sym count_is)

  pub few_noted : length (cover h rs) ≤ most (length rs)
  few_noted = (covers h rs (sound h rs (fitted_ok (lowest (list_faults h rs)) (most (length rs)) (length before) (length (cover h rs)) count answer).0).1).few
