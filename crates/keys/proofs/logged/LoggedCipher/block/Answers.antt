-- Where there is room, the question is put behind the others.
use Rattle.std.proofs.Common.{◌<◌, length, refl, arith}
use Rattle.std.proofs.lemmas.List.{take_more_set}
use Rattle.keys.proofs.logged.LoggedCipher.block.Goals as goal
use Rattle.keys.proofs.logged.LoggedCipher.block.Goals.{then-self-lt-ROOM, else-self-lt-ROOM}

pub returns : goal.returns
returns c =
    record {
      bytes = c.block.ensures.bytes;
      asked = λ room. elim c.if-self-lt-ROOM.branch [
        | then-self-lt-ROOM w ↦
            let after = w.self-is in
            let within : c.args.self.now.len < length c.args.self.now.questions = omega arith in
            rw after (refl, take_more_set _ _ _ within)
        | else-self-lt-ROOM w ↦ absurd (omega (arith, w.if-self-lt-ROOM.false))
      ];
    }
