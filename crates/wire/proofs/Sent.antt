-- A sending is read back as it was written, and the parts of a cover can be written. Assumes nothing.
use Rattle.std.proofs.Common.{◌≡◌, ℕ, ◌/◌, ◌^◌, ◌<◌, ◌≤◌, Bool, true, false, ◌&&◌, ◌||◌, T, eqb, ◌⊎◌, List, [], ◌∷◌, length, refl, inl, inr, arith}
use mathlib.Core.List.{Memᴰ}
use Rattle.std.proofs.lemmas.Bool.{and_parts, or_cases, eqb-true, eq-eqb, le-ltb}
use Rattle.tree.specs.declared.parts.Part.{Part}
use Rattle.tree.specs.Nodes.{max_height, in_tree}
use Rattle.tree.specs.Numbers.{last_number}
use Rattle.tree.specs.Receivers.{is_height}
use Rattle.tree.specs.Parts.{is_all, descends, proper}
use Rattle.wire.specs.Words.{word_at}
use Rattle.wire.specs.Entries.{Wide, placed}
use Rattle.wire.specs.Sending.{all_inside, all_descend, sending_bytes, sending_size, ReadsAsSent}
use Rattle.wire.proofs.Bytes.{word_of_bytes}
use Rattle.wire.proofs.Entries.{Narrow, narrow_in, length_placed, bodies_placed, places_placed}
use Rattle.wire.proofs.Held.{is_height_low}

narrow : (h : ℕ) (ps : List Part) → h ≤ max_height → all_inside h ps ≡ true → Narrow ps
unfolding all_inside
narrow h [] low t = tt
narrow h (p ∷ ps) low t =
    let w = and_parts (is_all p || (in_tree h p.first && in_tree h p.second)) (all_inside h ps) t in
    (either (or_cases (is_all p) (in_tree h p.first && in_tree h p.second) w.0), narrow h ps low w.1)
  where
    either : (is_all p ≡ true) ⊎ ((in_tree h p.first && in_tree h p.second) ≡ true) → (p.first < 2 ^ 32) × (p.second < 2 ^ 32)
    either (inl e) =
        let w = and_parts (eqb p.first 0) (eqb p.second 0) e in
        (omega (arith, eqb-true p.first 0 w.0), omega (arith, eqb-true p.second 0 w.1))
    either (inr e) = narrow_in h p low e

module _ (h n : ℕ) (ps : List Part) (covered : List (List ℕ)) where
  pub length_sending : length covered ≡ length ps → Wide 48 covered → length (sending_bytes h n ps covered) ≡ sending_size (length ps)
  length_sending all wide = omega (arith, length_placed 48 ps covered all wide)

  pub reads_as_sent : is_height h ≡ true → n ≤ last_number → length ps < 2 ^ 32 → all_inside h ps ≡ true → all_descend h ps ≡ true →
      length covered ≡ length ps → Wide 48 covered → ReadsAsSent (sending_bytes h n ps covered) h n ps covered
  reads_as_sent height low few inside descend all wide =
      let s = sending_bytes h n ps covered in
      let parts = places_placed 48 ps covered all wide (narrow h ps (is_height_low h height) inside) in
      let count : length (placed ps covered) / 56 ≡ length ps = omega (arith, length_placed 48 ps covered all wide) in
      let long = le-ltb (length s) 2 (omega (arith, length_sending all wide)) in
      let number : word_at s 2 ≡ n = word_of_bytes n (omega arith) in
      let counted : word_at s 6 ≡ length ps = word_of_bytes (length ps) few in
      let size = eq-eqb (length s) (sending_size (length ps)) (length_sending all wide) in
      let last = le-ltb last_number n low in
      record {
        faultless = rw (long, height, counted, size, number, last, count, parts, inside, descend);
        height = refl;
        number = number;
        parts = rw (count, parts);
        headers = rw (count, bodies_placed 48 ps covered all wide);
      }

pub proper_inside : (h : ℕ) (ps : List Part) → ((p : Part) → Memᴰ p ps → T (proper h p)) → (all_inside h ps ≡ true) × (all_descend h ps ≡ true)
unfolding all_inside all_descend
proper_inside h [] neat = (refl, refl)
proper_inside h (p ∷ ps) neat =
    let (i, d) = both (is_all p) (in_tree h p.first && in_tree h p.second) (descends h p) (neat p (Memᴰ.head refl)) in
    let (is, ds) = proper_inside h ps (λ q m. neat q (Memᴰ.tail m)) in
    (rw (i, is), rw (d, ds))
  where
    both : (a b c : Bool) → T (a || (b && c)) → ((a || b) ≡ true) × ((a || c) ≡ true)
    both true b c t = (refl, refl)
    both false true true t = (refl, refl)
    both false true false t = absurd t
    both false false c t = absurd t
