-- Each statement by its proof.
use Rattle.secrecy.proofs.ShownBytes.{shows_bytes, only_left}
use Rattle.secrecy.proofs.Header.{header_bytes, some_world}
use Rattle.secrecy.proofs.View.{covered}
use Rattle.secrecy.proofs.Blind.{blind}
use Rattle.secrecy.proofs.Room.{unfound}
use Rattle.secrecy.proofs.Found.{found}
use Rattle.secrecy.proofs.secrecy_over_bytes.Goals as goal

pub returns : goal.returns
returns c =
    record {
      shows = shows_bytes;
      only_left = only_left;
      found = found;
      unfound = unfound;
      blind = blind;
      covered = covered;
      header = header_bytes;
      world = some_world;
    }
