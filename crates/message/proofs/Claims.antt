-- The theorems on one message, each from the file that proves it.
-- Assumes nothing.
use Rattle.message.specs.Claims.{Claims}
use Rattle.message.proofs.FilterWords.{x1_unused, x2_unused, x1_used, x2_used}

pub claims : Claims
claims =
    record {
      x1_unused = λ filter sign x1 x2 y new old. x1_unused sign x1 x2 y new old filter;
      x2_unused = λ filter sign x1 x2 y new old. x2_unused sign x1 x2 y new old filter;
      x1_used = x1_used;
      x2_used = x2_used;
    }
