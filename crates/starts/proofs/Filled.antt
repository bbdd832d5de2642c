-- Starts of nodes, and what a piece more of the file makes of them. Assumes nothing.
use Rattle.std.proofs.Common.{◌≡◌, ℕ, suc, ◌+◌, ◌-◌, ◌<◌, ◌≤◌, ◌⊎◌, T, List, ◌++◌, length, get_or, take, drop, set, sym, refl, ap, ◌∙◌, inl, inr, arith, below_more, get_or-set_other}
use Rattle.std.proofs.Math.Seq.{map-set_same}
use Rattle.std.proofs.lemmas.List.{drop_all, drop-append-le, drop-map, get_or-drop, get_or-map, get_or-take, length-append, length-drop, length-map, length-set, length-take-le, map-append, take-append-drop, take-append-le}
use Rattle.std.proofs.lemmas.List.Elements.{All-append, AllWithin-more_set}
use Rattle.std.proofs.lemmas.Bool.{cases_lt}
use Rattle.std.specs.List.{All, AllWithin}
use Rattle.tree.specs.Receivers.{rising}
use Rattle.tree.proofs.Slices.{ascends, rising_drop}
use Rattle.starts.specs.declared.start.Start.{Start}
use Rattle.starts.specs.Format.{start_at}
use Rattle.starts.specs.Window.{window, AsRead, nodes_of, Complete}

-- of the starts, the first k have what a piece more has of them, and the others are as they were
pub record Half (s p nodes : List ℕ) (k : ℕ) (starts : List Start) : Type 0 where
  pub filled : AllWithin (AsRead (s ++ p)) starts 0 k
  pub left : AllWithin (AsRead s) starts k (length starts)
  pub complete : Complete k nodes (s ++ p)

pub node_at : (starts : List Start) (k : ℕ) (d : Start) → k < length starts → get_or (nodes_of starts) k 0 ≡ (get_or starts k d).node
node_at starts k d l = get_or-map (λ (start : Start). start.node) starts k d 0 l

-- a start that was read to its end, or of which nothing was read or is, stays as it is
stays : (i : ℕ) (s p : List ℕ) → start_at (suc i) ≤ length s → window (start_at i) 32 s ≡ window (start_at i) 32 (s ++ p)
stays i s p end =
    let begin : start_at i ≤ length s = omega arith in
    let room : 32 ≤ length (drop (start_at i) s) = omega (arith, length-drop (start_at i) s) in
    rw (drop-append-le (start_at i) s p begin, take-append-le 32 (drop (start_at i) s) p room) refl

waits : (i : ℕ) (s p : List ℕ) → length s + length p ≤ start_at i → window (start_at i) 32 s ≡ window (start_at i) 32 (s ++ p)
waits i s p begin = rw (drop_all (start_at i) s (omega arith), drop_all (start_at i) (s ++ p) (omega (arith, length-append s p))) refl

complete_on : (n : ℕ) (nodes s p : List ℕ) → Complete n nodes s → Complete n nodes (s ++ p)
complete_on n nodes s p done j l = omega (arith, length-append s p, done j l)

-- the start at hand is filled
module _ (s p nodes : List ℕ) (k : ℕ) (starts : List Start) (l : k < length starts) (same : nodes_of starts ≡ nodes) (new d : Start) (is : new.node ≡ (get_or starts k d).node) where
  pub same_nodes : nodes_of (set starts k new) ≡ nodes
  same_nodes = map-set_same (λ (start : Start). start.node) starts k new d is ∙ same

  here : get_or nodes k 0 ≡ new.node
  here = rw same at (node_at starts k d l) ∙ sym is

  module _ (half : Half s p nodes k starts) (filled : AsRead (s ++ p) new) where
    left : (j : ℕ) (d : Start) → k + 1 ≤ j → j < length starts → AsRead s (get_or (set starts k new) j d)
    left j d a b = rw (get_or-set_other starts k j new d (omega arith)) (half.left j d (omega arith) b)

    pub half_more : start_at (suc new.node) ≤ length (s ++ p) → Half s p nodes (k + 1) (set starts k new)
    half_more end =
        record {
          filled = AllWithin-more_set starts k new l (AsRead (s ++ p)) half.filled filled;
          left = λ j d a b. left j d a (omega (arith, length-set starts k new));
          complete = below_more _ _ half.complete (rw here end);
        }

    -- behind the end of what was read nothing is to be filled
    pub half_last : T (rising nodes) → length s + length p < start_at (suc new.node) → All (AsRead (s ++ p)) (set starts k new)
    half_last rise end j d m = go (cases_lt j (k + 1))
      where
        within : j < length starts
        within = omega (arith, length-set starts k new)

        go : (j < k + 1) ⊎ (k + 1 ≤ j) → AsRead (s ++ p) (get_or (set starts k new) j d)
        go (inl a) = AllWithin-more_set starts k new l (AsRead (s ++ p)) half.filled filled j d (omega arith) a
        go (inr a) =
            let old : get_or (set starts k new) j d ≡ get_or starts j d = get_or-set_other starts k j new d (omega arith) in
            let node : get_or nodes j 0 ≡ (get_or starts j d).node = rw same at (node_at starts j d within) in
            let above = ascends 0 nodes k j rise (omega arith) (omega (arith, within, ap length same, length-map starts (λ (start : Start). start.node))) in
            rw old (half.left j d (omega arith) within ∙ waits (get_or starts j d).node s p (omega (arith, node, here)))

pub rising_rest : (starts : List Start) (done : ℕ) → T (rising (nodes_of starts)) → T (rising (nodes_of (drop done starts)))
rising_rest starts done rise =
    rw (drop-map (λ (start : Start). start.node) done starts) at (rising_drop 0 0 (nodes_of starts) done rise (λ j l m. omega arith))

-- the starts that were complete, and then those that were filled
module _ (s p : List ℕ) (starts new : List Start) (done : ℕ) (within : done ≤ length starts) (same : nodes_of new ≡ nodes_of (drop done starts)) where
  pub nodes_joined : nodes_of (take done starts ++ new) ≡ nodes_of starts
  nodes_joined =
      map-append (λ (start : Start). start.node) (take done starts) new
      ∙ ap (λ (xs : List ℕ). nodes_of (take done starts) ++ xs) same
      ∙ sym (map-append (λ (start : Start). start.node) (take done starts) (drop done starts))
      ∙ ap nodes_of (take-append-drop done starts)

  module _ (complete : Complete done (nodes_of starts) s) where
    pub all_joined : All (AsRead s) starts → All (AsRead (s ++ p)) new → All (AsRead (s ++ p)) (take done starts ++ new)
    all_joined old now = All-append (AsRead (s ++ p)) (take done starts) new front now
      where
        front : All (AsRead (s ++ p)) (take done starts)
        front j d m =
            let l : j < done = omega (arith, length-take-le done starts within) in
            rw (get_or-take done starts j d l)
            (old j d (omega arith) ∙ stays (get_or starts j d).node s p (rw (node_at starts j d (omega arith)) at (complete j l)))

    pub complete_joined : (count : ℕ) → Complete count (nodes_of (drop done starts)) (s ++ p) → Complete (done + count) (nodes_of starts) (s ++ p)
    complete_joined count more j l = go (cases_lt j done)
      where
        go : (j < done) ⊎ (done ≤ j) → start_at (suc (get_or (nodes_of starts) j 0)) ≤ length (s ++ p)
        go (inl a) = complete_on done (nodes_of starts) s p complete j a
        go (inr a) =
            let e : get_or (nodes_of (drop done starts)) (j - done) 0 ≡ get_or (nodes_of starts) j 0 =
            ap (λ (xs : List ℕ). get_or xs (j - done) 0) (sym (drop-map (λ (start : Start). start.node) done starts)) ∙ get_or-drop done (nodes_of starts) (j - done) 0
            ∙ ap (λ (i : ℕ). get_or (nodes_of starts) i 0) {x = done + (j - done)} {y = j} (omega arith) in
            rw e at (more (j - done) (omega arith))
