-- The rows for a message of sign 2, each by computation.
-- Assumes nothing.
use mathlib.Core.Path.{refl}
use lib.Ieee.{size}
use Rattle.whole.specs.Whole.{all_of}
use Rattle.packing.specs.Values.{is_width, least, greatest, in_range, value_of, pattern_of}
use Rattle.float.specs.Patterns.{aside, units, size_of, float_number}
use Rattle.float.specs.Rounding.{nearest_even, dropped, unbounded, rounded, rounded_to, plus, over}
use Rattle.agreement.specs.Agreement.{count_of, ahead, one_that, vote}
use Rattle.agreement.specs.Floats.{left_of, sum_from, finite_value, float_mean, left_agreed, floats_agreed}
use Rattle.filter.specs.Filter.{compared, bound, rules, passes}
use Rattle.message.specs.Messages.{can_hold, passes_now, offered, agreed_by, filtered}
use Rattle.message.specs.FloatRows.{validities, statuses, Rows}

pub rows : Rows
unfolding
    validities statuses can_hold passes_now offered agreed_by filtered
    is_width least greatest in_range value_of pattern_of all_of
    compared bound rules passes
    left_of sum_from finite_value float_mean left_agreed floats_agreed count_of ahead one_that vote
    aside units size_of float_number nearest_even dropped unbounded rounded rounded_to plus over size
rows =
    record {
      held = refl;
      infinite = refl;
      not_a_number = refl;
      too_large = refl;
      negative = refl;
      mean = refl;
      all_aside = refl;
      none_counts = refl;
      none_came = refl;
      within = refl;
      at_limit = refl;
      below = refl;
      not_less = refl;
      not_above = refl;
      not_equal = refl;
      unequal = refl;
      above = refl;
      at_most_lem = refl;
      less = refl;
      at_least = refl;
      above_closed = refl;
      at_most_closed = refl;
      less_closed = refl;
      at_least_closed = refl;
    }
