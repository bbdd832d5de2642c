-- What is written for a receiver is its file, and is read back. Assumes nothing.
use Rattle.std.proofs.Common.{◌≡◌, ℕ, suc, ◌/◌, ◌^◌, ◌<◌, true, ltb, List, map, length, take, drop, sym, ap, ◌∙◌, subst, pow-suc, arith}
use Rattle.std.proofs.lemmas.List.{length-map, take_at}
use Rattle.std.proofs.lemmas.Bool.{and_parts, ltb-true}
use Rattle.tree.specs.Nodes.{leaf}
use Rattle.tree.specs.Receivers.{is_height}
use Rattle.tree.specs.Ways.{way}
use Rattle.tree.proofs.Up.{up_le, up_div}
use Rattle.secrecy.specs.Terms.{Start}
use Rattle.secrecy.specs.Held.{held_label, held}
use Rattle.secrecy.specs.Worlds.{World, bytes, seen}
use Rattle.keys.specs.Drawn.{Draws, world}
use Rattle.starts.specs.Drawn.{DrawnIn}
use Rattle.wire.specs.Labels.{labels_size, ReadsAsHeld}
use Rattle.wire.proofs.Held.{length_file, reads_as_held}
use Rattle.issuing.specs.declared.file.Sources.{Sources}
use Rattle.issuing.specs.Issued.{held_file, StartOfAll, StartsAbove, WroteFile}
use Rattle.issuing.specs.Served.{all_kept}
use Rattle.issuing.specs.Gathered.{GatheredFor}

module _ (f : List ℕ → ℕ → List ℕ) (d : Draws) (g h : ℕ) (us s : List ℕ) (u : ℕ) (v : Sources) (drawn : DrawnIn s g h d) (gathered : GatheredFor h us s u v) where
  abbrev w : World
  w = world f d

  pub low : u < 2 ^ h
  low = ltb-true u (2 ^ h) (and_parts (ltb u (2 ^ h)) (all_kept h us (leaf h u) h) gathered.served).0

  of_all : StartOfAll w g v.all
  unfolding bytes
  of_all = gathered.all ∙ sym (drawn 0 (omega (arith, pow-suc 2 h, low)))

  of_above : v.own ≡ leaf v.height.levels v.receiver → StartsAbove w g v.height.levels v.own v.above
  unfolding bytes
  of_above own =
      let at : v.own ≡ leaf h u = rw (gathered.height, gathered.receiver) at own in
      rw (gathered.height, at)
      (λ k l.
      let node = leaf h u / 2 ^ suc k in
      let small : node < 2 ^ suc h = omega (arith, up_le (suc k) (leaf h u), up_div (suc k) (leaf h u), low, pow-suc 2 h) in
      gathered.above k l ∙ sym (drawn node small))

  pub wrote : (before after : List ℕ) → v.own ≡ leaf v.height.levels v.receiver →
      (StartOfAll w g v.all → StartsAbove w g v.height.levels v.own v.above → WroteFile w g v.height.levels v.receiver before after) → WroteFile w g h u before after
  wrote before after own file =
      subst (λ (k : ℕ). WroteFile w g k u before after) gathered.height
      (subst (λ (r : ℕ). WroteFile w g v.height.levels r before after) gathered.receiver (file of_all (of_above own)))

-- the front of what is written is read back
pub read_back : (w : World) (g h u n : ℕ) (before after : List ℕ) → is_height h ≡ true → u < 2 ^ h → n ≡ labels_size h → WroteFile w g h u before after →
    ReadsAsHeld (take n after) h u (seen w (held g h u))
read_back w g h u n before after height low size ((full, wide), e) =
    let start = bytes w (Start g 0) in
    let labels = seen w (map (held_label g h) (way h u)) in
    let all : length labels ≡ length (way h u) = length-map (map (held_label g h) (way h u)) (bytes w) ∙ length-map (way h u) (held_label g h) in
    let long = length_file h u start labels height low full all wide in
    let front : take n after ≡ held_file w g h u = ap (take n) e ∙ take_at (held_file w g h u) (drop (length (held_file w g h u)) before) n (long ∙ sym size) in
    subst (λ (bs : List ℕ). ReadsAsHeld bs h u (seen w (held g h u))) (sym front) (reads_as_held h u start labels height low full all wide)
