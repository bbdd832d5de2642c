-- What was kept of what was read so far, and what the piece adds to it.
use Rattle.std.proofs.Common.{◌≡◌, ◌-◌, ◌≤◌, List, ◌++◌, length, take, drop, vec_items, refl, ap, ◌∙◌, arith, length-append}
use Rattle.std.proofs.lemmas.List.{with_items_is, append-nil, drop_all, length-drop, length-take-le, take_all}
use Rattle.std.proofs.lemmas.List.Elements.{All-drop}
use borrow.Rule.Slice.PartMut.{post_of}
use Rattle.starts.specs.declared.start.Start.{Start}
use Rattle.starts.specs.Window.{nodes_of, AsRead}
use Rattle.starts.proofs.Windows.{window_filled}
use Rattle.starts.proofs.Filled.{rising_rest, nodes_joined, all_joined, complete_joined}
use Rattle.starts.proofs.reader.StartsReader.read_on.Goals as goal

pub returns : goal.returns
returns c h us s r =
    let p = c.args.piece.now in
    let done = c.args.self.now.done in
    let starts = vec_items c.args.self.now.starts in
    let new = c.fill_starts.new.starts in
    let is : c.deref_mut.result.now ≡ starts = c.deref_mut.ensures.value in
    let within : done ≤ length starts = omega (arith, ap length is) in
    let left : take (length c.deref_mut.result.now - done) (drop done c.deref_mut.result.now) ≡ drop done starts =
    rw is (take_all (length starts - done) (drop done starts) (omega (arith, length-drop done starts))) in
    let same : nodes_of new ≡ nodes_of (drop done starts) = c.fill_starts.ensures.nodes ∙ ap nodes_of left in
    let all : List Start = take done starts ++ new in
    let put : take done c.deref_mut.result.now ++ (new ++ post_of done (length c.deref_mut.result.now - done) c.deref_mut.result.now) ≡ all =
    rw (is, drop_all (length starts - done) (drop done starts) (omega (arith, length-drop done starts)), append-nil new) refl in
    let items = with_items_is c.args.self.now.starts _ (ap length put ∙ omega (arith, length-append (take done starts) new, length-take-le done starts within, length-drop done starts, c.fill_starts.auto.starts, ap length left)) ∙ put in
    let nodes : nodes_of all ≡ nodes_of starts = nodes_joined s p starts new done within same in
    let filled = c.fill_starts.ensures.filled s r.at (rw left (rising_rest starts done r.rises)) (rw left (All-drop (AsRead s) done starts r.starts)) in
    record {
      height = r.height;
      asked = r.asked;
      nodes = λ none. rw (items, nodes) (r.nodes none);
      rises = rw (items, nodes) r.rises;
      head = window_filled 0 2 s p c.args.self.now.head c.copy_to.new.out r.head (c.copy_to.ensures s r.at);
      starts = rw items (all_joined s p starts new done within same r.done r.starts filled.0);
      at = omega (arith, c.end-self.ensures, r.at, length-append s p);
      done = rw (items, nodes) (complete_joined s p starts new done within same r.done c.fill_starts.result (rw left at filled.1));
    }
