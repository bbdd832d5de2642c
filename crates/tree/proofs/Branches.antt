-- The cover below one node, from what its sides make of their own receivers. Assumes nothing.
use Rattle.std.proofs.Common.{◌≡◌, ℕ, suc, ◌+◌, ◌-◌, ◌*◌, ◌^◌, ◌<◌, ◌≤◌, cond, T, eqb, List, [], ◌∷◌, ◌++◌, length, take, drop, refl, ap, ◌∙◌, subst, add-mul, pow-suc, arith}
use Rattle.std.proofs.lemmas.List.{take_all, drop_all, length-take, length-drop}
use Rattle.std.proofs.lemmas.Bool.{cond_both}
use Rattle.tree.specs.declared.parts.Part.{Part}
use Rattle.tree.specs.declared.subtree.Subtree.{Subtree}
use Rattle.tree.specs.Nodes.{first_below}
use Rattle.tree.specs.Receivers.{Cut, all_below, rising_from}
use Rattle.tree.specs.Parts.{part}
use Rattle.tree.specs.Cover.{Work, clean, named, close, join, work}
use Rattle.fault.specs.Memory.{over}
use Rattle.tree.specs.Written.{closed}
use Rattle.tree.proofs.Few.{Paid, close_few, work_paid}
use Rattle.tree.proofs.Slices.{rising_take, rising_drop, below_take, below_drop, below_weaker}
use Rattle.tree.proofs.Sides.{halves, work_cut, Beneath, Open, some_open, none_clean}
use Rattle.tree.proofs.Stand.{leaves_from, leaves_to, stands_left, stands_right}

close_append : (side i : ℕ) (ps : List Part) → close side i ps ≡ close side i [] ++ ps
close_append side i ps =
    cond_both (eqb side i) ps (part side i ∷ ps) (λ (l : List Part). l ≡ cond (eqb side i) [] (part side i ∷ []) ++ ps) (λ e. rw e) (λ e. rw e)

-- two sides that are not clean are closed one after the other, behind the part that closes what they are below
pub fork_parts : (side i : ℕ) (a b : Work) → Open a → Open b → closed side (join i a b) ≡ close side i [] ++ (closed (2 * i) a ++ closed (2 * i + 1) b)
fork_parts side i (named j ps) (named k qs) o p = close_append side i (close (2 * i) j ps ++ close (2 * i + 1) k qs)
fork_parts side i clean b o p = absurd o
fork_parts side i (named j ps) clean o p = absurd p

join_clean : (i : ℕ) (a : Work) → join i a clean ≡ a
join_clean i clean = refl
join_clean i (named j ps) = refl

paid_closed : (side n : ℕ) (w : Work) → 0 < n → Paid n w → length (closed side w) + 1 ≤ 2 * n
paid_closed side n clean pos p = omega arith
paid_closed side n (named j ps) pos p = omega (arith, close_few side j ps)

-- a node, and rising receivers that are all below it
module _ {h k i : ℕ} {xs : List ℕ} (b : Beneath h k i xs) where
  -- with closing, they are paid for by the receivers
  pub closed_few : (side : ℕ) → 0 < length xs → length (closed side (work h xs k i)) + 1 ≤ 2 * length xs
  closed_few side pos =
      let all_in : first_below h k i + 2 ^ k ≤ 2 ^ h =
      omega (arith, leaves_from h k i b.stands, leaves_to h k i b.stands, add-mul i 1 (2 ^ k), pow-suc 2 h) in
      paid_closed side (length xs) (work h xs k i) pos
      (work_paid h xs (below_weaker (first_below h k i + 2 ^ k) (2 ^ h) xs all_in b.low) (h - k) k i (omega (arith, b.stands.0)) b.stands.2)

  -- cut at the first receiver of the right side
  module _ (inner : 0 < k) {n : ℕ} (cut : Cut xs n (first_below h (k - 1) (2 * i + 1))) where
    level : k ≡ suc (k - 1)
    level = omega arith

    from : 2 ^ h ≤ i * 2 ^ suc (k - 1)
    from = subst (λ (m : ℕ). 2 ^ h ≤ i * 2 ^ m) level (leaves_from h k i b.stands)

    first_left : first_below h k i ≡ first_below h (k - 1) (2 * i)
    first_left = ap (λ (m : ℕ). first_below h m i) level ∙ ap (λ (m : ℕ). m - 2 ^ h) (halves i (k - 1)).begin

    middle : first_below h (k - 1) (2 * i + 1) ≡ first_below h (k - 1) (2 * i) + 2 ^ (k - 1)
    middle = let v = halves i (k - 1) in omega (arith, from)

    end : first_below h k i + 2 ^ k ≡ first_below h (k - 1) (2 * i + 1) + 2 ^ (k - 1)
    end = omega (arith, first_left, middle, ap (λ (m : ℕ). 2 ^ m) level, pow-suc 2 (k - 1))

    pub on_left : Beneath h (k - 1) (2 * i) (take n xs)
    on_left =
        record {
          stands = stands_left h k i b.stands inner;
          rise = rising_take (first_below h (k - 1) (2 * i)) xs n (subst (λ (l : ℕ). T (rising_from l xs)) first_left b.rise);
          low = subst (λ (m : ℕ). T (all_below m (take n xs))) middle (below_take (first_below h (k - 1) (2 * i + 1)) xs n cut.before);
        }

    pub on_right : Beneath h (k - 1) (2 * i + 1) (drop n xs)
    on_right =
        record {
          stands = stands_right h k i b.stands inner;
          rise = rising_drop (first_below h (k - 1) (2 * i + 1)) (first_below h k i) xs n b.rise cut.after;
          low = subst (λ (m : ℕ). T (all_below m (drop n xs))) end (below_drop (first_below h k i + 2 ^ k) xs n b.low);
        }

    cut_work : work h xs k i ≡ join i (work h (take n xs) (k - 1) (2 * i)) (work h (drop n xs) (k - 1) (2 * i + 1))
    cut_work = ap (λ (m : ℕ). work h xs m i) level ∙ work_cut h (k - 1) i from xs n cut

    pub all_right : n ≡ 0 → work h xs k i ≡ work h xs (k - 1) (2 * i + 1)
    all_right e =
        cut_work ∙ rw (e, none_clean h (k - 1) (2 * i))

    pub all_left : n ≡ length xs → work h xs k i ≡ work h xs (k - 1) (2 * i)
    all_left e =
        let t = take_all n xs (omega arith) in
        let d = drop_all n xs (omega arith) in
        cut_work ∙ rw (t, d, none_clean h (k - 1) (2 * i + 1)) (join_clean i (work h xs (k - 1) (2 * i)))

    module _ (some : 0 < n) (others : n < length xs) where
      open_left : Open (work h (take n xs) (k - 1) (2 * i))
      open_left =
          some_open (take n xs) on_left (rw length-take (omega arith))

      open_right : Open (work h (drop n xs) (k - 1) (2 * i + 1))
      open_right =
          some_open (drop n xs) on_right (rw length-drop (omega arith))

      pub parts : (side : ℕ) →
          closed side (work h xs k i)
          ≡ close side i [] ++ (closed (2 * i) (work h (take n xs) (k - 1) (2 * i)) ++ closed (2 * i + 1) (work h (drop n xs) (k - 1) (2 * i + 1)))
      parts side = ap (closed side) cut_work ∙ fork_parts side i _ _ open_left open_right

-- a side of a node is told by three numbers, which the code hands on
module _ {h k i h' k' i' : ℕ} (eh : h' ≡ h) (ek : k' ≡ k) (ei : i' ≡ i) where
  pub same_first : first_below h' k' i' ≡ first_below h k i
  same_first = rw (eh, ek, ei)

  pub same_work : (xs : List ℕ) → work h' xs k' i' ≡ work h xs k i
  same_work xs = rw (eh, ek, ei)

  pub same_rise : {xs : List ℕ} → Beneath h k i xs → T (rising_from (first_below h' k' i') xs)
  same_rise b = rw (eh, ek, ei) b.rise

  pub same_low : {xs : List ℕ} → Beneath h k i xs → T (all_below (first_below h' k' i' + 2 ^ k') xs)
  same_low b = rw (eh, ek, ei) b.low

  same_closed : {xs xs' : List ℕ} → xs' ≡ xs → closed i' (work h' xs' k' i') ≡ closed i (work h xs k i)
  same_closed ex = rw (ex, eh, ek, ei)

  pub same_written : {xs xs' : List ℕ} (memory : List Part) {after : List Part} → xs' ≡ xs → after ≡ over (closed i' (work h' xs' k' i')) memory →
      after ≡ over (closed i (work h xs k i)) memory
  same_written memory ex e = e ∙ ap (λ (ps : List Part). over ps memory) (same_closed ex)

  pub same_count : {xs xs' : List ℕ} {count : ℕ} → xs' ≡ xs → count ≡ length (closed i' (work h' xs' k' i')) → count ≡ length (closed i (work h xs k i))
  same_count ex e = e ∙ ap length (same_closed ex)

pub beneath : (a : Subtree) (xs : List ℕ) → T (rising_from (first_below a.height.levels a.levels a.node) xs) →
    T (all_below (first_below a.height.levels a.levels a.node + 2 ^ a.levels) xs) → Beneath a.height.levels a.levels a.node xs
beneath a xs r l = record { stands = a.stands; rise = r; low = l }
