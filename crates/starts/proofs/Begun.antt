-- Starts before anything is read. Assumes nothing.
use Rattle.std.proofs.Common.{◌≡◌, ℕ, List, [], ◌∷◌, get_or, map, replicate, ap, refl, arith}
use Rattle.std.specs.List.{All}
use Rattle.std.proofs.lemmas.List.{drop_all}
use Rattle.std.proofs.lemmas.List.Elements.{All-map}
use Rattle.starts.specs.declared.start.Start.{Start}
use Rattle.starts.specs.Format.{start_at}
use Rattle.starts.specs.Kept.{KeptNodes}
use Rattle.starts.specs.Window.{nodes_of, AsRead}

-- nothing but zeros
abbrev pub unread : ℕ → Start
unread i = record { node = i; bytes = replicate 32 0 }

same_nodes : (nodes : List ℕ) → nodes_of (map unread nodes) ≡ nodes
same_nodes [] = refl
same_nodes (i ∷ nodes) = ap (λ (xs : List ℕ). i ∷ xs) (same_nodes nodes)

unread_is : (i : ℕ) → AsRead [] (unread i)
unread_is i = rw (drop_all {X = ℕ} (start_at i) [] (omega arith)) refl

pub begun : (h : ℕ) (us nodes : List ℕ) (starts : List Start) → KeptNodes h us nodes → starts ≡ map unread nodes → KeptNodes h us (nodes_of starts) × All (AsRead []) starts
begun h us nodes starts kept e =
    rw e (
      rw (same_nodes nodes) kept,
      All-map (AsRead []) unread nodes (λ k d l. unread_is (get_or nodes k d)),
    )
