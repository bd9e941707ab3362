-- The theorems on a loaded node and its calls, each from the file that proves it.
-- Assumes nothing.
use Rattle.node.specs.Claims.{Claims}
use Rattle.node.proofs.StartMeans.{load_means}
use Rattle.node.proofs.Meaning.{held_stands, status_stands, other_bit, received_status}
use Rattle.node.proofs.Suppressed.{suppressed_if, suppressed_answer}

pub claims : Claims
claims =
    record {
      load_means = load_means;
      suppressed_if = suppressed_if;
      suppressed_answer = suppressed_answer;
      held_stands = λ n s. held_stands s;
      status_stands = λ n s. status_stands s;
      other_bit = other_bit;
      received_status = λ n s. received_status s;
    }
