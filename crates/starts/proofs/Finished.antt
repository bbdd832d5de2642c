-- A file that was read to its end without a fault, and the starts that are kept of it. Assumes nothing.
use Rattle.std.proofs.Common.{◌≡◌, ℕ, zero, suc, ◌^◌, ◌<◌, ◌≤◌, Bool, true, false, not, T, eqb, List, [], ◌∷◌, ◌++◌, length, get_or, drop, replicate, Option, sym, refl, ap, ◌∙◌, ⊎_elim, pow-suc, arith, pow_pos}
use Rattle.std.proofs.lemmas.List.{append-nil, drop_all, length-drop, length-map, length-replicate, length-take}
use Rattle.std.proofs.lemmas.Bool.{eq-eqb, eqb-true, ltb-true, not-false, or_cases, or_left, or_right}
use Rattle.std.specs.List.{All}
use Rattle.fault.specs.declared.Fault.{Fault}
use Rattle.fault.specs.declared.Fault.TheVariants.{Malformed, OutOfRange}
use Rattle.fault.specs.Lowest.{when, lower, lowest}
use Rattle.fault.proofs.Lowest.{lowest_append}
use Rattle.tree.specs.Nodes.{leaf}
use Rattle.tree.specs.Receivers.{all_below, is_in, list_faults}
use Rattle.tree.proofs.Judged.{below_in}
use Rattle.tree.proofs.Up.{up_le}
use Rattle.wire.specs.Head.{or_else, head_faults}
use Rattle.starts.specs.Format.{start_at, start_in, starts_size, starts_faults, asked_faults}
use Rattle.starts.specs.Kept.{above_some, KeptNodes}
use Rattle.starts.specs.declared.start.Start.{Start}
use Rattle.starts.specs.Window.{window, AsRead, nodes_of}
use Rattle.starts.proofs.Filled.{node_at}
use Rattle.starts.proofs.Members.{above_some_lem}
use Rattle.starts.proofs.Pushed.{faultless}
use Rattle.starts.proofs.Windows.{window_at}

-- the lowest fault, as the code comes to it
lowest_asked : (h : ℕ) (us s : List ℕ) →
    lower (lower (lowest (starts_faults s)) (lowest (when (not (eqb (get_or s 1 0) h)) OutOfRange))) (lowest (list_faults h us)) ≡ lowest (asked_faults h us s)
lowest_asked h us s =
    let other = when (not (eqb (get_or s 1 0) h)) OutOfRange in
    sym (lowest_append (starts_faults s ++ other) (list_faults h us) ∙ ap (λ (o : Option Fault). lower o (lowest (list_faults h us))) (lowest_append (starts_faults s) other))

-- the second byte that is kept is that of the file
module _ (h : ℕ) (us s head : List ℕ) (height : ℕ) (same : height ≡ h) (is : head ≡ window 0 2 s) where
  pub fault_asked : (file other asked : Option Fault) → file ≡ lowest (starts_faults s) →
      other ≡ lowest (when (not (eqb (get_or head 1 0) height)) OutOfRange) → asked ≡ lowest (list_faults h us) → lower (lower file other) asked ≡ lowest (asked_faults h us s)
  fault_asked file other asked ef eo ea =
      let second : get_or head 1 0 ≡ get_or s 1 0 = ap (λ (b : List ℕ). get_or b 1 0) is ∙ window_at 0 2 s 1 (omega arith) in
      rw (ef, eo, ea, same, second) (lowest_asked h us s)

append_none : (xs ys : List Fault) → xs ++ ys ≡ [] → (xs ≡ []) × (ys ≡ [])
append_none [] ys e = (refl, e)
append_none (x ∷ xs) ys e = absurd cc

when_none : (b : Bool) (f : Fault) → when b f ≡ [] → b ≡ false
when_none true f e = absurd cc
when_none false f e = refl

or_else_none : (fs more : List Fault) → or_else fs more ≡ [] → more ≡ []
or_else_none [] more e = e
or_else_none (f ∷ fs) more e = absurd cc

-- no fault where two numbers must be the same
same_number_lem : (a b : ℕ) (f : Fault) → when (not (eqb a b)) f ≡ [] → a ≡ b
same_number_lem a b f e = eqb-true a b (not-false (eqb a b) (when_none (not (eqb a b)) f e))

pub is_in_at : (xs : List ℕ) (j : ℕ) → j < length xs → is_in (get_or xs j 0) xs ≡ true
unfolding is_in
is_in_at [] j l = absurd (omega arith)
is_in_at (x ∷ xs) zero l = or_left (eqb x x) (is_in x xs) (eq-eqb x x refl)
is_in_at (x ∷ xs) (suc j) l = or_right (eqb (get_or xs j 0) x) (is_in (get_or xs j 0) xs) (is_in_at xs j (omega arith))

length_start : (i : ℕ) (s : List ℕ) → start_at (suc i) ≤ length s → length (start_in s i) ≡ 32
length_start i s l = rw (length-take, length-drop) (omega arith)

whole : (i : ℕ) (s : List ℕ) → start_at (suc i) ≤ length s → window (start_at i) 32 s ≡ start_in s i
whole i s l =
    let none : drop (length (start_in s i)) (replicate 32 0) ≡ [] =
    drop_all (length (start_in s i)) (replicate 32 0) (omega (arith, length_start i s l, length-replicate {A = ℕ} 32 0)) in
    ap (λ (rest : List ℕ). start_in s i ++ rest) none ∙ append-nil (start_in s i)

module _ (h : ℕ) (us s : List ℕ) (none : asked_faults h us s ≡ []) where
  all_three : (starts_faults s ≡ []) × (get_or s 1 0 ≡ h) × (list_faults h us ≡ [])
  all_three =
      let a = append_none (starts_faults s ++ when (not (eqb (get_or s 1 0) h)) OutOfRange) (list_faults h us) none in
      let b = append_none (starts_faults s) (when (not (eqb (get_or s 1 0) h)) OutOfRange) a.0 in
      (b.0, same_number_lem (get_or s 1 0) h OutOfRange b.1, a.1)

  pub file_sound : starts_faults s ≡ []
  file_sound = all_three.0

  pub same_height : get_or s 1 0 ≡ h
  same_height = all_three.1

  pub asked_sound : list_faults h us ≡ []
  asked_sound = all_three.2

  size : length s ≡ starts_size h
  size =
      same_number_lem (length s) (starts_size (get_or s 1 0)) Malformed (or_else_none (head_faults 4 s) _ file_sound) ∙ ap starts_size same_height

  module _ (starts : List Start) (kept : KeptNodes h us (nodes_of starts)) where
    inside : T (all_below (2 ^ h) us)
    inside = (faultless h us asked_sound).1

    low : (j : ℕ) → j < length (nodes_of starts) → get_or (nodes_of starts) j 0 < 2 ^ suc h
    low j l =
        let i = get_or (nodes_of starts) j 0 in
        ⊎_elim (λ z. omega (arith, eqb-true i 0 z, pow_pos (suc h)))
        (λ a. let w = above_some_lem h us i inside a in omega (arith, w.5, up_le w.1 (leaf h w.0), ltb-true w.0 (2 ^ h) (below_in (2 ^ h) us w.0 inside w.2), pow-suc 2 h))
        (or_cases (eqb i 0) (above_some h us i) (sym (kept.exact i) ∙ is_in_at (nodes_of starts) j l))

    pub starts_are : All (AsRead s) starts → All (λ (start : Start). start.bytes ≡ start_in s start.node) starts
    starts_are all j d l =
        let m : j < length (nodes_of starts) = omega (arith, length-map starts (λ (start : Start). start.node)) in
        all j d l ∙ whole (get_or starts j d).node s (omega (arith, size, low j m, node_at starts j d l))
