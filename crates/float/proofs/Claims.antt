-- The claims of specs/Claims.antt, each with its proof. Assumes nothing.
use Rattle.float.specs.Claims.{Claims}
use Rattle.float.proofs.Nearest.{is_nearest, one_nearest}
use Rattle.float.proofs.Infinite.{infinite_from}
use Rattle.float.proofs.Signs.{sign_is, zero_sum, quotient_sign}
use Rattle.float.proofs.Itself.{rounds_to_itself}
use Rattle.float.proofs.Steps.{plus_is, over_is}
use Rattle.float.proofs.Ranks.{rank_below}

pub claims : Claims
claims =
    record {
      nearest = is_nearest;
      one_nearest = one_nearest;
      infinite = infinite_from;
      sign = sign_is;
      zero_sum = zero_sum;
      quotient_sign = quotient_sign;
      itself = rounds_to_itself;
      addition = plus_is;
      division = over_is;
      ranks = rank_below;
    }
