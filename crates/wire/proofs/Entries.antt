-- Entries that were written are found again. Assumes nothing.
use Rattle.std.proofs.Common.{◌≡◌, ℕ, suc, ◌+◌, ◌-◌, ◌*◌, ◌^◌, ◌<◌, ◌≤◌, true, ◌&&◌, ltb, List, [], ◌∷◌, ◌++◌, length, take, drop, sym, refl, ap, ◌∙◌, append_assoc, arith, length-append, pow_mono}
use Rattle.std.proofs.lemmas.List.{take_at, drop_at, drop-drop}
use Rattle.std.proofs.lemmas.Bool.{and_parts, ltb-true}
use Rattle.tree.specs.declared.parts.Part.{Part}
use Rattle.tree.specs.Nodes.{max_height, in_tree}
use Rattle.wire.specs.Entries.{entry_places, bodies_of, Wide, entry_bytes, placed}
use Rattle.wire.proofs.Bytes.{word_of_bytes}

-- nodes that four bytes can hold
abbrev pub Narrow : List Part → Type 0
Narrow [] = Unit {0}
Narrow (p ∷ ps) = ((p.first < 2 ^ 32) × (p.second < 2 ^ 32)) × Narrow ps

pub narrow_in : (h : ℕ) (p : Part) → h ≤ max_height → (in_tree h p.first && in_tree h p.second) ≡ true → (p.first < 2 ^ 32) × (p.second < 2 ^ 32)
narrow_in h p low t =
    let w = and_parts (in_tree h p.first) (in_tree h p.second) t in
    let m : 2 ^ suc h ≤ 2 ^ 17 = pow_mono {i = suc h} {j = 17} (omega arith) in
    (omega (arith, below p.first w.0), omega (arith, below p.second w.1))
  where
    below : (i : ℕ) → in_tree h i ≡ true → i < 2 ^ suc h
    below i e = ltb-true i (2 ^ suc h) (and_parts (ltb 0 i) (ltb i (2 ^ suc h)) e).1

pub placed_append : (ps qs : List Part) (cs bs : List (List ℕ)) → length cs ≡ length ps → placed (ps ++ qs) (cs ++ bs) ≡ placed ps cs ++ placed qs bs
unfolding placed
placed_append [] qs [] bs e = refl
placed_append [] qs (a ∷ cs) bs e = absurd (omega arith)
placed_append (p ∷ ps) qs [] bs e = absurd (omega arith)
placed_append (p ∷ ps) qs (a ∷ cs) bs e =
    ap (λ (l : List ℕ). entry_bytes p a ++ l) (placed_append ps qs cs bs (omega arith)) ∙ sym (append_assoc (entry_bytes p a) (placed ps cs) (placed qs bs))

pub wide_append : (w : ℕ) (cs bs : List (List ℕ)) → Wide w cs → Wide w bs → Wide w (cs ++ bs)
wide_append w [] bs f g = g
wide_append w (a ∷ cs) bs (f, fs) g = (f, wide_append w cs bs fs g)

module _ (w : ℕ) where
  pub length_placed : (ps : List Part) (bs : List (List ℕ)) → length bs ≡ length ps → Wide w bs → length (placed ps bs) ≡ (8 + w) * length ps
  unfolding placed
  length_placed [] bs e f = omega arith
  length_placed (p ∷ ps) [] e f = absurd (omega arith)
  length_placed (p ∷ ps) (b ∷ bs) e (f, fs) =
      let k : length bs ≡ length ps = omega arith in
      omega (arith, length-append b (placed ps bs), length_placed ps bs k fs)

  -- one entry in front of others
  module _ (p : Part) (b rest : List ℕ) (f : length b ≡ w) where
    body_first : take (8 + w - 8) (drop 8 (entry_bytes p b ++ rest)) ≡ b
    body_first = take_at b rest (8 + w - 8) (f ∙ omega arith)

    after_first : drop (8 + w) (entry_bytes p b ++ rest) ≡ rest
    after_first = sym (drop-drop w 8 (entry_bytes p b ++ rest)) ∙ drop_at b rest w f

  pub bodies_placed : (ps : List Part) (bs : List (List ℕ)) → length bs ≡ length ps → Wide w bs → bodies_of (8 + w) (length ps) (placed ps bs) ≡ bs
  unfolding placed bodies_of
  bodies_placed [] [] e f = refl
  bodies_placed [] (b ∷ bs) e f = absurd (omega arith)
  bodies_placed (p ∷ ps) [] e f = absurd (omega arith)
  bodies_placed (p ∷ ps) (b ∷ bs) e (f, fs) =
      let k : length bs ≡ length ps = omega arith in
      rw (body_first p b (placed ps bs) f, after_first p b (placed ps bs) f, bodies_placed ps bs k fs)

  pub places_placed : (ps : List Part) (bs : List (List ℕ)) → length bs ≡ length ps → Wide w bs → Narrow ps → entry_places (8 + w) (length ps) (placed ps bs) ≡ ps
  unfolding placed entry_places
  places_placed [] bs e f n = refl
  places_placed (p ∷ ps) [] e f n = absurd (omega arith)
  places_placed (p ∷ ps) (b ∷ bs) e (f, fs) ((i, j), n) =
      let k : length bs ≡ length ps = omega arith in
      rw (after_first p b (placed ps bs) f, places_placed ps bs k fs n, word_of_bytes p.first i, word_of_bytes p.second j)
