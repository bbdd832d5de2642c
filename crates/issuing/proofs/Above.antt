-- The starts of the nodes above a leaf, one after the other. Assumes nothing.
use Rattle.std.proofs.Common.{◌≡◌, ℕ, zero, suc, ◌+◌, ◌/◌, ◌^◌, ◌<◌, true, false, ◌&&◌, ltb, ◌⊎◌, List, [], length, get_or, set, refl, ◌∙◌, inl, inr, add-one, arith}
use Rattle.std.proofs.lemmas.List.{get_or-set_same, get_or-set_other}
use Rattle.std.proofs.lemmas.Bool.{and_from, and_left, and_right, cases_eq}
use Rattle.tree.specs.Nodes.{leaf}
use Rattle.starts.specs.Format.{start_in}
use Rattle.starts.specs.Kept.{is_kept}
use Rattle.issuing.specs.declared.file.Sources.{Sources}
use Rattle.issuing.specs.Gathered.{GatheredFor}
use Rattle.issuing.specs.Served.{all_kept, AllAbove}

pub none_above : (h : ℕ) (us s : List ℕ) (x : ℕ) (starts : List (List ℕ)) → AllAbove h us s x 0 starts
unfolding all_kept
none_above h us s x starts = (refl, λ k l. absurd (omega arith))

pub more_above : (h : ℕ) (us s : List ℕ) (x n : ℕ) (starts : List (List ℕ)) (start : List ℕ) → n < length starts → AllAbove h us s x n starts →
    is_kept h us (x / 2 ^ suc n) ≡ true → start ≡ start_in s (x / 2 ^ suc n) → AllAbove h us s x (n + 1) (set starts n start)
unfolding all_kept
more_above h us s x n starts start l (all, each) kept e =
    (rw (add-one n) (and_from (all_kept h us x n) (is_kept h us (x / 2 ^ suc n)) all kept), λ k less. go k less (cases_eq k n))
  where
    go : (k : ℕ) → k < n + 1 → (k ≡ n) ⊎ (k ≡ n → ⊥) → get_or (set starts n start) k [] ≡ start_in s (x / 2 ^ suc k)
    go k less (inl q) = rw q (get_or-set_same starts n start [] l ∙ e)
    go k less (inr ne) = get_or-set_other starts n k start [] ne ∙ each k (omega (arith, ne))

-- where one was not kept, not all were
pub missing_above : (h : ℕ) (us : List ℕ) (x n m : ℕ) → n < m → is_kept h us (x / 2 ^ suc n) ≡ false → all_kept h us x m ≡ false
unfolding all_kept
missing_above h us x n zero l e = absurd (omega arith)
missing_above h us x n (suc m) l e = go (cases_eq n m) (λ k. missing_above h us x n m k e)
  where
    go : (n ≡ m) ⊎ (n ≡ m → ⊥) → (n < m → all_kept h us x m ≡ false) → (all_kept h us x m && is_kept h us (x / 2 ^ suc m)) ≡ false
    go (inl q) f = and_right (all_kept h us x m) (is_kept h us (x / 2 ^ suc m)) (rw (← q) e)
    go (inr ne) f = and_left (all_kept h us x m) (is_kept h us (x / 2 ^ suc m)) (f (omega (arith, ne)))

pub gathered : (h : ℕ) (us s : List ℕ) (u : ℕ) (v : Sources) → v.height.levels ≡ h → v.receiver ≡ u → v.own ≡ leaf h u → ltb u (2 ^ h) ≡ true → v.all ≡ start_in s 0 →
    AllAbove h us s v.own v.height.levels v.above → GatheredFor h us s u v
gathered h us s u v eh eu eo there all above =
    let (kept, each) = rw (eh, eo) at above in
    record { served = and_from (ltb u (2 ^ h)) (all_kept h us (leaf h u) h) there kept; height = eh; receiver = eu; all = all; above = each }
