-- What a search among the starts that are kept says. Assumes nothing.
use Rattle.std.proofs.Common.{◌≡◌, ℕ, suc, ◌<◌, ◌≤◌, true, false, eqb, ◌⊎◌, List, [], ◌∷◌, length, get_or, Result, Ok, Err, sym, refl, ap, ◌∙◌, inl, inr, subst, arith}
use Rattle.std.specs.List.{All}
use Rattle.std.specs.List.Sorted.{IsSearchInRange, IsBinarySearchResult, IsNonDecreasingBy}
use Rattle.std.specs.Ordering.{nat_cmp, ordering_index}
use Rattle.std.specs.Option.{MatchOption}
use Rattle.std.specs.Result.{result_ok}
use Rattle.std.proofs.lemmas.Bool.{cases_lt, ne_eqb, or_from}
use Rattle.std.proofs.lemmas.Bool.Decides.{nat_tests}
use Rattle.std.proofs.lemmas.Cmp.{ranked}
use Rattle.std.proofs.lemmas.List.{length-map}
use Rattle.tree.specs.Receivers.{is_in}
use Rattle.tree.proofs.Slices.{in_order}
use Rattle.starts.specs.declared.start.Start.{Start}
use Rattle.starts.specs.Format.{start_in}
use Rattle.starts.specs.Kept.{is_kept, KeptNodes}
use Rattle.starts.specs.Window.{nodes_of}
use Rattle.starts.proofs.Begun.{unread}
use Rattle.starts.proofs.Filled.{node_at}
use Rattle.starts.proofs.Finished.{is_in_at}

not_in : (x : ℕ) (xs : List ℕ) → ((j : ℕ) → j < length xs → get_or xs j 0 ≡ x → ⊥) → is_in x xs ≡ false
unfolding is_in
not_in x [] f = refl
not_in x (y ∷ ys) f = or_from (eqb x y) (is_in x ys) (ne_eqb x y (λ e. f 0 (omega arith) (sym e))) (not_in x ys (λ j l. f (suc j) (omega arith)))

module _ (h : ℕ) (us s : List ℕ) (starts : List Start) (kept : KeptNodes h us (nodes_of starts))
    (whole : All (λ (start : Start). start.bytes ≡ start_in s start.node) starts) (node : ℕ) where
  long : length (nodes_of starts) ≡ length starts
  long = length-map starts (λ (start : Start). start.node)

  rise : IsNonDecreasingBy (λ (start : Start). ordering_index (nat_cmp start.node node)) starts
  rise i j d le l =
      let up = in_order (nodes_of starts) i j kept.rises le (omega (arith, long)) in
      let at_i = node_at starts i d (omega arith) in
      let at_j = node_at starts j d l in
      let less : (get_or starts i d).node ≤ (get_or starts j d).node = omega arith in
      grind (arith, nat_tests)

  pub looked : (r : Result ℕ ℕ) → IsSearchInRange r (length starts) → IsBinarySearchResult (λ (start : Start). nat_cmp start.node node) starts r →
      MatchOption (result_ok r) (is_kept h us node ≡ false) (λ k. (is_kept h us node ≡ true) × ((d : Start) → (get_or starts k d).bytes ≡ start_in s node))
  looked (Ok k) l equal = (
    sym (kept.exact node) ∙ subst (λ (i : ℕ). is_in i (nodes_of starts) ≡ true) (node_at starts k (unread 0) l ∙ is (unread 0)) (is_in_at (nodes_of starts) k (omega (arith, long))),
    λ d. whole k d l ∙ ap (start_in s) (is d),
  )
    where
      is : (d : Start) → (get_or starts k d).node ≡ node
      is d = ranked _ node _ (sym (equal d))
  looked (Err k) l parted = sym (kept.exact node) ∙ not_in node (nodes_of starts) (λ j m e. other j m (node_at starts j (unread 0) (omega (arith, long))) e)
    where
      other : (j : ℕ) → j < length (nodes_of starts) → get_or (nodes_of starts) j 0 ≡ (get_or starts j (unread 0)).node → get_or (nodes_of starts) j 0 ≡ node → ⊥
      other j m at e = go (cases_lt j k)
        where
          go : (j < k) ⊎ (k ≤ j) → ⊥
          go (inl a) = omega (arith, ranked (get_or starts j (unread 0)).node node _ (sym ((parted rise).0 j (unread 0) (omega arith) a)))
          go (inr a) = omega (arith, ranked (get_or starts j (unread 0)).node node _ (sym ((parted rise).1 j (unread 0) a (omega (arith, long)))))
