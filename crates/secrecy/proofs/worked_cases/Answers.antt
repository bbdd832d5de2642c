-- Each statement by its proof.
use Rattle.secrecy.proofs.Cases.{labels_of_two, steps_of_two, keys_of_zero_and_five, run_stands, number_twice_happens}
use Rattle.secrecy.proofs.worked_cases.Goals as goal

pub returns : goal.returns
returns c =
    record {
      labels = labels_of_two;
      steps = steps_of_two;
      keys = keys_of_zero_and_five;
      run = run_stands;
      number_twice = number_twice_happens;
    }
