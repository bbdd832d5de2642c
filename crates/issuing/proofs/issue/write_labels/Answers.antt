-- A receiver that is not served is refused before anything is written, and so is one for whose file there is no room.
use Rattle.std.proofs.Common.{◌≡◌, ℕ, length, sym, refl, ap, ◌∙◌, arith}
use Rattle.fault.specs.Lowest.{lowest}
use Rattle.std.proofs.lemmas.Bool.{le-leb, lt-leb}
use Rattle.tree.proofs.Judged.{sound_height}
use Rattle.keys.specs.Drawn.{world}
use Rattle.wire.specs.Labels.{labels_size}
use Rattle.issuing.proofs.Asked.{asked_served}
use Rattle.issuing.proofs.Written.{low, wrote, read_back}
use Rattle.issuing.proofs.issue.write_labels.Goals as goal

pub returns-in_default : goal.returns-in_default
returns-in_default g c =
    record {
      answer = λ h us s has. rw (c.into.ensures, c.in_default.ensures h us s has) refl;
      asked = asked_served;
      within = tt;
      memory = λ h us s d tree has drawn. refl;
      read_back = λ h us s d tree has drawn. tt;
      refused = refl;
    }

pub returns-then-out-size : goal.returns-then-out-size
returns-then-out-size g c =
    record {
      answer =
          λ h us s has.
          let v = c.in-Some.ensures h us s has in
          let size = c.size_of_labels-size.ensures ∙ ap labels_size v.height in
          let short = lt-leb (labels_size h) (length c.args.out.now) (omega (arith, size, c.if-out-size.true)) in
          rw (v.served, short) refl;
      asked = asked_served;
      within = tt;
      memory = λ h us s d tree has drawn. refl;
      read_back = λ h us s d tree has drawn. tt;
      refused = refl;
    }

pub returns : goal.returns
returns g c =
    let room = length c.args.out.now in
    let size : (h : ℕ) → c.in-Some.sources.height.levels ≡ h → c.size_of_labels-size.result ≡ labels_size h = λ h e. c.size_of_labels-size.ensures ∙ ap labels_size e in
    record {
      answer =
          λ h us s has.
          let v = c.in-Some.ensures h us s has in
          let n = size h v.height in
          let enough = le-leb (labels_size h) room (omega (arith, n, c.if-out-size.false)) in
          rw (v.served, enough, n) refl;
      asked = asked_served;
      within = omega arith;
      memory =
          λ h us s d tree has drawn.
          let v = c.in-Some.ensures h us s has in
          (wrote g.C.Cipher.gives d tree h us s c.args.receiver c.in-Some.sources drawn v c.args.out.now c.write_file.new.out
          c.in-Some.sources.stands (c.write_file.ensures d tree)).1;
      read_back =
          λ h us s d tree has drawn.
          let v = c.in-Some.ensures h us s has in
          let u = c.args.receiver in
          read_back (world g.C.Cipher.gives d) tree h u c.size_of_labels-size.result c.args.out.now c.write_file.new.out
          (sound_height h us (sym (ap lowest has.sound))) (low g.C.Cipher.gives d tree h us s u c.in-Some.sources drawn v) (size h v.height)
          (wrote g.C.Cipher.gives d tree h us s u c.in-Some.sources drawn v c.args.out.now c.write_file.new.out
          c.in-Some.sources.stands (c.write_file.ensures d tree));
      refused = tt;
    }
