-- A label file is read back as it was written. Assumes nothing.
use Rattle.std.proofs.Common.{◌≡◌, ℕ, zero, suc, ◌+◌, ◌*◌, ◌/◌, ◌^◌, ◌<◌, ◌≤◌, true, ◌&&◌, ltb, leb, List, [], ◌∷◌, ◌++◌, length, drop, refl, ap, subst, pow-suc, arith, length-append, pow_pos, pow_mono}
use Rattle.std.proofs.lemmas.List.{take_at, drop_at}
use Rattle.std.proofs.lemmas.Bool.{and_from, and_parts, eq-eqb, lt-ltb, le-ltb, leb-true}
use Rattle.tree.specs.declared.parts.Part.{Part}
use Rattle.tree.specs.Nodes.{leaf, max_height, in_tree}
use Rattle.tree.specs.Receivers.{is_height}
use Rattle.tree.specs.Ways.{sibling, hanging, above, way}
use Rattle.tree.proofs.Hanging.{sibling_half, way_count}
use Rattle.wire.specs.Words.{word_at}
use Rattle.wire.specs.Entries.{Wide, placed}
use Rattle.wire.specs.Labels.{all_in_tree, same_places, labels_size, labels_bytes, ReadsAsHeld}
use Rattle.wire.proofs.Bytes.{word_of_bytes}
use Rattle.wire.proofs.Entries.{Narrow, narrow_in, length_placed, bodies_placed, places_placed}

same_places_lem : (ps : List Part) → same_places ps ps ≡ true
unfolding same_places
same_places_lem [] = refl
same_places_lem (p ∷ ps) = rw (eq-eqb p.first p.first refl, eq-eqb p.second p.second refl, same_places_lem ps)

-- all that hangs off a way is in the tree

sibling_in : (h x : ℕ) → 2 ≤ x → x < 2 ^ suc h → in_tree h (sibling x) ≡ true
sibling_in h x two high =
    let e = sibling_half x in
    let p = pow-suc 2 h in
    and_from (ltb 0 (sibling x)) (ltb (sibling x) (2 ^ suc h)) (lt-ltb 0 (sibling x) (omega arith)) (lt-ltb (sibling x) (2 ^ suc h) (omega arith))

append_in : (h : ℕ) (ps qs : List Part) → all_in_tree h ps ≡ true → all_in_tree h qs ≡ true → all_in_tree h (ps ++ qs) ≡ true
unfolding all_in_tree
append_in h [] qs a b = b
append_in h (p ∷ ps) qs a b =
    let w = and_parts (in_tree h p.first && in_tree h p.second) (all_in_tree h ps) a in
    and_from (in_tree h p.first && in_tree h p.second) (all_in_tree h (ps ++ qs)) w.0 (append_in h ps qs w.1 b)

hanging_in : (h d i x : ℕ) → in_tree h i ≡ true → 2 ^ d ≤ x → x < 2 ^ suc h → all_in_tree h (hanging d i x) ≡ true
unfolding all_in_tree hanging
hanging_in h zero i x t low high = refl
hanging_in h (suc d) i x t low high =
    let p = pow-suc 2 d in
    let q = pow_pos d in
    rw (t, sibling_in h x (omega arith) high) (hanging_in h d i (x / 2) t (omega arith) (omega arith))

above_in : (h k d i x : ℕ) → 2 ^ k ≤ 2 * i + 1 → i < 2 ^ suc h → 2 ^ (k + d) ≤ 2 * x → x < 2 ^ suc h → all_in_tree h (above k d i x) ≡ true
unfolding all_in_tree above
above_in h zero d i x a b c e = refl
above_in h (suc k) d i x a b c e =
    let p = pow-suc 2 k in
    let q = pow-suc 2 (k + d) in
    let r = pow_pos k in
    let m : 2 ^ d ≤ 2 ^ (k + d) = pow_mono {i = d} {j = k + d} (omega arith) in
    let same : 2 ^ (suc k + d) ≡ 2 ^ suc (k + d) = ap (λ (n : ℕ). 2 ^ n) {x = suc k + d} {y = suc (k + d)} (omega arith) in
    let there = and_from (ltb 0 i) (ltb i (2 ^ suc h)) (lt-ltb 0 i (omega arith)) (lt-ltb i (2 ^ suc h) b) in
    append_in h (hanging d i x) (above k (suc d) (i / 2) x) (hanging_in h d i x there (omega arith) e)
    (above_in h k (suc d) (i / 2) x (omega arith) (omega arith) (subst (λ (n : ℕ). 2 ^ n ≤ 2 * x) {x = suc (k + d)} {y = k + suc d} (omega arith) (omega arith)) e)

way_in : (h u : ℕ) → u < 2 ^ h → all_in_tree h (way h u) ≡ true
way_in h u low =
    let p = pow-suc 2 h in
    let q = pow-suc 2 (suc h) in
    above_in h h 1 (leaf h u / 2) (leaf h u) (omega arith) (omega arith) (subst (λ (n : ℕ). 2 ^ n ≤ 2 * leaf h u) {x = suc h} {y = h + 1} (omega arith) (omega arith)) (omega arith)

narrow : (h : ℕ) (ps : List Part) → h ≤ max_height → all_in_tree h ps ≡ true → Narrow ps
unfolding all_in_tree
narrow h [] low t = tt
narrow h (p ∷ ps) low t =
    let w = and_parts (in_tree h p.first && in_tree h p.second) (all_in_tree h ps) t in
    (narrow_in h p low w.0, narrow h ps low w.1)

pub is_height_low : (h : ℕ) → is_height h ≡ true → h ≤ max_height
is_height_low h t = leb-true h max_height (and_parts (ltb 0 h) (leb h max_height) t).1

-- what is written for a receiver is read again
module _ (h u : ℕ) (start : List ℕ) (labels : List (List ℕ)) (height : is_height h ≡ true) (low : u < 2 ^ h)
    (full : length start ≡ 32) (all : length labels ≡ length (way h u)) (wide : Wide 32 labels) where
  abbrev file : List ℕ
  file = labels_bytes h u (start ∷ labels)

  pub length_file : length file ≡ labels_size h
  length_file = omega (arith, length-append start (placed (way h u) labels), length_placed 32 (way h u) labels all wide, way_count h u)

  entries_file : drop 38 file ≡ placed (way h u) labels
  entries_file = drop_at start (placed (way h u) labels) 32 full

  pub reads_as_held : ReadsAsHeld file h u (start ∷ labels)
  reads_as_held =
      let way-all = places_placed 32 (way h u) labels all wide (narrow h (way h u) (is_height_low h height) (way_in h u low)) in
      let count : length (placed (way h u) labels) / 40 ≡ length (way h u) = omega (arith, length_placed 32 (way h u) labels all wide) in
      let long = le-ltb (length file) 2 (omega (arith, length_file)) in
      let size = eq-eqb (length file) (labels_size h) length_file in
      let word : word_at file 2 ≡ u = word_of_bytes u (omega (arith, low, pow_mono {i = h} {j = 32} (omega (arith, is_height_low h height)))) in
      let there = lt-ltb u (2 ^ h) low in
      record {
        faultless = rw (long, height, size, word, there, entries_file, count, way-all, way_in h u low, same_places_lem (way h u));
        height = refl;
        receiver = word;
        labels = rw (entries_file, count, bodies_placed 32 (way h u) labels all wide, take_at start (placed (way h u) labels) 32 full);
      }
