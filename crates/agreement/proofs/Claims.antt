-- The theorems on agreement, each from the file that proves it.
-- Assumes nothing.
use Rattle.agreement.specs.Claims.{Claims}
use Rattle.agreement.proofs.Average.{mean_toward_zero, mean_sign, mean_between, average_value}
use Rattle.agreement.proofs.Vote.{vote_none, vote_value, one_ahead}
use Rattle.agreement.proofs.Order.{perm_vote, perm_average}
use Rattle.agreement.proofs.FloatLaws.{float_claims}

pub claims : Claims
claims =
    record {
      whole =
          record {
            mean_toward_zero = mean_toward_zero;
            mean_sign = mean_sign;
            mean_between = mean_between;
            averaged = average_value;
            vote_none = vote_none;
            vote_value = vote_value;
            one_ahead = one_ahead;
            average_order = λ l m. perm_average;
            vote_order = λ l m. perm_vote;
          };
      floats = float_claims;
    }
