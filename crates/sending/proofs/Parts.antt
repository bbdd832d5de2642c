-- Headers can be made for the parts of a cover, with the starts that are kept for its revoked receivers. Assumes nothing.
use Rattle.std.proofs.Common.{◌≡◌, ℕ, zero, suc, ◌+◌, ◌^◌, ◌<◌, ◌≤◌, true, not, ◌&&◌, T, eqb, ltb, ◌⊎◌, List, [], ◌∷◌, length, get_or, Some, None, Ok, Err, Option, Result, sym, refl, ap, ◌∙◌, subst, inl, inr, ⊎_elim, pow-suc, arith, pow_pos}
use mathlib.Core.List.{Memᴰ}
use Rattle.std.proofs.lemmas.Bool.{and_parts, or_cases, or_left, or_right, eqb-true, eqb-false, eq-eqb, ltb-true, not-true}
use Rattle.std.proofs.lemmas.List.Recursion.{and_at, and_from_places}
use Rattle.tree.specs.declared.parts.Part.{Part}
use Rattle.tree.specs.Nodes.{leaf, below, in_tree}
use Rattle.tree.specs.Receivers.{is_in, all_below}
use Rattle.tree.specs.Parts.{part, is_all, descends, proper}
use Rattle.tree.specs.Cover.{cover}
use Rattle.tree.specs.Promise.{most, AboveRevoked}
use Rattle.tree.proofs.Tests.{T_true}
use Rattle.tree.proofs.Up.{up, up_add, up_far, below_up}
use Rattle.tree.proofs.Covers.{covers}
use Rattle.tree.proofs.Judged.{below_in, sound}
use Rattle.starts.specs.Kept.{above_some, is_kept}
use Rattle.starts.proofs.Members.{some_above}
use Rattle.fault.specs.declared.Fault.{Fault}
use Rattle.fault.specs.declared.Refusal.{Refusal}
use Rattle.fault.specs.Lowest.{lowest}
use Rattle.fault.specs.Memory.{fitted}
use Rattle.wire.specs.Sending.{sending_size}
use Rattle.sending.specs.Answer.{send_faults, room_for, with_starts, OwnStarts}
use Rattle.sending.proofs.Counted.{order_sound}
use Rattle.sending.specs.Headers.{Sendable, AllSendable, firsts_kept}

mem_at : (ps : List Part) (i : ℕ) → i < length ps → Memᴰ (get_or ps i (part 0 0)) ps
mem_at [] i l = absurd (omega arith)
mem_at (p ∷ ps) zero l = Memᴰ.head refl
mem_at (p ∷ ps) (suc i) l = Memᴰ.tail (mem_at ps i (omega arith))

module _ (h : ℕ) (p : Part) where
  -- all receivers, or two nodes of the tree of which the second is strictly below the first
  either : T (proper h p) → ((p.first ≡ 0) × (p.second ≡ 0)) ⊎ ((1 ≤ p.first) × (p.first < 2 ^ suc h) × (p.second < 2 ^ suc h) × (below h p.first p.second ≡ true) × (p.first ≡ p.second → ⊥))
  either t =
      ⊎_elim (λ e. let w = and_parts (eqb p.first 0) (eqb p.second 0) e in inl (eqb-true p.first 0 w.0, eqb-true p.second 0 w.1))
      (λ e.
      let a = and_parts (in_tree h p.first && in_tree h p.second) (descends h p) e in
      let b = and_parts (in_tree h p.first) (in_tree h p.second) a.0 in
      let i = and_parts (ltb 0 p.first) (ltb p.first (2 ^ suc h)) b.0 in
      let j = and_parts (ltb 0 p.second) (ltb p.second (2 ^ suc h)) b.1 in
      let d = and_parts (below h p.first p.second) (not (eqb p.first p.second)) a.1 in
      inr (ltb-true 0 p.first i.0, ltb-true p.first (2 ^ suc h) i.1, ltb-true p.second (2 ^ suc h) j.1, d.0, eqb-false p.first p.second (not-true (eqb p.first p.second) d.1)))
      (or_cases (is_all p) (in_tree h p.first && in_tree h p.second && descends h p) (T_true (proper h p) t))

  -- strictly above what is at or above a revoked receiver
  kept_first : (rs : List ℕ) → T (all_below (2 ^ h) rs) → 1 ≤ p.first → below h p.first p.second ≡ true → (p.first ≡ p.second → ⊥) → AboveRevoked h rs p.second →
      is_kept h rs p.first ≡ true
  unfolding up
  kept_first rs fine pos above differ (u, asked, b) =
      let i = p.first in
      let x = leaf h u in
      let low = ltb-true u (2 ^ h) (below_in (2 ^ h) rs u fine (T_true (is_in u rs) asked)) in
      go (below_up h i p.second above) (below_up h p.second x (T_true (below h p.second x) b)) low
    where
      go : (d : ℕ) × (up d p.second ≡ p.first) → (e : ℕ) × (up e (leaf h u) ≡ p.second) → u < 2 ^ h → is_kept h rs p.first ≡ true
      go (zero, q) (e, r) low = absurd (differ (sym q))
      go (suc d, q) (e, r) low =
          let all : up (e + suc d) (leaf h u) ≡ p.first = sym (up_add e (suc d) (leaf h u)) ∙ ap (up (suc d)) r ∙ q in
          let few : e + suc d ≤ h = up_far h (e + suc d) (leaf h u) (omega (arith, pow-suc 2 h)) (omega (arith, all)) in
          let one : e + suc d ≡ suc (e + d) = omega arith in
          or_right (eqb p.first 0) (above_some h rs p.first)
          (some_above h rs p.first u (e + d) pos (T_true (is_in u rs) asked) (omega arith) (rw one at all))

  sendable : (rs : List ℕ) → T (all_below (2 ^ h) rs) → T (proper h p) → T (is_all p) ⊎ AboveRevoked h rs p.second → Sendable h rs p
  sendable rs fine t need = go (either t) need
    where
      none : (p.first ≡ 0) × (p.second ≡ 0) → Sendable h rs p
      none (a, b) =
          let pos = pow_pos (suc h) in
          record { is_proper = t; low = omega arith; first_low = omega arith; kept = or_left (eqb p.first 0) (above_some h rs p.first) (eq-eqb p.first 0 a) }

      go : ((p.first ≡ 0) × (p.second ≡ 0)) ⊎ ((1 ≤ p.first) × (p.first < 2 ^ suc h) × (p.second < 2 ^ suc h) × (below h p.first p.second ≡ true) × (p.first ≡ p.second → ⊥)) →
          T (is_all p) ⊎ AboveRevoked h rs p.second → Sendable h rs p
      go (inl z) n = none z
      go (inr (pos, i, j, b, ne)) (inl a) =
          let w = and_parts (eqb p.first 0) (eqb p.second 0) (T_true (is_all p) a) in
          none (eqb-true p.first 0 w.0, eqb-true p.second 0 w.1)
      go (inr (pos, i, j, b, ne)) (inr a) = record { is_proper = t; low = j; first_low = i; kept = kept_first rs fine pos b ne a }

pub all_sendable : (h : ℕ) (rs : List ℕ) → T (all_below (2 ^ h) rs) → AllSendable h rs (cover h rs)
all_sendable h rs fine i l =
    let c = covers h rs fine in
    let m = mem_at (cover h rs) i l in
    sendable h (get_or (cover h rs) i (part 0 0)) rs fine (c.neat _ m) (c.needed _ m)

-- the same with starts that were read for others, if those that the parts need were kept
sendable_from : (h : ℕ) (rs us : List ℕ) (ps : List Part) → AllSendable h rs ps → firsts_kept h us ps ≡ true → AllSendable h us ps
unfolding firsts_kept
sendable_from h rs us ps own all i l =
    let one = own i l in
    record {
      is_proper = one.is_proper;
      low = one.low;
      first_low = one.first_low;
      kept = and_at (firsts_kept h us) (λ p. is_kept h us p.first) refl (λ p qs. refl) ps i (part 0 0) l all;
    }

-- for the cover as it was noted
pub noted_sendable : (h : ℕ) (rs us : List ℕ) (ps : List Part) → ps ≡ cover h rs → T (all_below (2 ^ h) rs) → true ≡ firsts_kept h us ps → AllSendable h us ps
noted_sendable h rs us ps noted fine kept = sendable_from h rs us ps (subst (AllSendable h rs) (sym noted) (all_sendable h rs fine)) (sym kept)

-- those that were read for the revoked receivers are enough
pub own_kept : (h : ℕ) (rs : List ℕ) → T (all_below (2 ^ h) rs) → firsts_kept h rs (cover h rs) ≡ true
unfolding firsts_kept
own_kept h rs fine =
    and_from_places (firsts_kept h rs) (λ p. is_kept h rs p.first) refl (λ p qs. refl) (cover h rs) (part 0 0) (λ i l. (all_sendable h rs fine i l).kept)

pub own_starts : OwnStarts
own_starts h n rs noted bytes = go (lowest (send_faults h n rs)) refl
  where
    there : (r : Result ℕ Refusal) → with_starts true r ≡ r
    there (Ok k) = refl
    there (Err e) = refl

    go : (o : Option Fault) → lowest (send_faults h n rs) ≡ o →
        with_starts (firsts_kept h rs (cover h rs)) (fitted o (most (length rs)) (room_for noted bytes) (sending_size (length (cover h rs))))
        ≡ fitted o (most (length rs)) (room_for noted bytes) (sending_size (length (cover h rs)))
    go (Some f) e = refl
    go None e =
        rw (own_kept h rs (sound h rs (order_sound h n rs (sym e)).1).1) (there (fitted None (most (length rs)) (room_for noted bytes) (sending_size (length (cover h rs)))))
