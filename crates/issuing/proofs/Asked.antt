-- For each receiver that was asked for, all starts above it are kept. Assumes nothing.
use Rattle.std.proofs.Common.{◌≡◌, ℕ, zero, suc, ◌/◌, ◌^◌, ◌<◌, ◌≤◌, true, eqb, ltb, List, sym, refl, ap, ◌∙◌, subst, pow-suc, arith, pow_mono}
use Rattle.std.proofs.lemmas.Bool.{and_from, or_right}
use Rattle.fault.specs.Lowest.{lowest}
use Rattle.tree.specs.Nodes.{leaf}
use Rattle.tree.specs.Receivers.{is_in}
use Rattle.tree.proofs.Tests.{T_true}
use Rattle.tree.proofs.Up.{up, up_div, half_first}
use Rattle.tree.proofs.Judged.{sound, below_in}
use Rattle.secrecy.proofs.Way.{up_pos}
use Rattle.starts.proofs.Members.{some_above}
use Rattle.starts.specs.Kept.{above_some, is_kept}
use Rattle.issuing.specs.Served.{all_kept, AskedServed}

module _ (h : ℕ) where
  module _ (us : List ℕ) (u : ℕ) (asked : is_in u us ≡ true) where
    kept_above : (k : ℕ) → k < h → is_kept h us (leaf h u / 2 ^ suc k) ≡ true
    kept_above k l =
        let x = leaf h u in
        let i = x / 2 ^ suc k in
        let at : up k (x / 2) ≡ i = up_div k (x / 2) ∙ sym (half_first k x) in
        let far : 2 ^ suc k ≤ 2 ^ h = pow_mono {i = suc k} {j = h} l in
        let pos : 1 ≤ i = subst (λ (n : ℕ). 1 ≤ n) at (up_pos k (x / 2) (omega (arith, pow-suc 2 k))) in
        or_right (eqb i 0) (above_some h us i) (some_above h us i u k pos asked l at)

    all_kept_lem : (n : ℕ) → n ≤ h → all_kept h us (leaf h u) n ≡ true
    unfolding all_kept
    all_kept_lem zero l = refl
    all_kept_lem (suc n) l = and_from (all_kept h us (leaf h u) n) (is_kept h us (leaf h u / 2 ^ suc n)) (all_kept_lem n (omega arith)) (kept_above n l)

pub asked_served : AskedServed
asked_served h us u none t =
    let asked = T_true (is_in u us) t in
    and_from (ltb u (2 ^ h)) (all_kept h us (leaf h u) h) (below_in (2 ^ h) us u (sound h us (sym (ap lowest none))).1 asked) (all_kept_lem h us u asked h (omega arith))
