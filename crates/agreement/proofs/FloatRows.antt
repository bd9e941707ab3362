-- The rows for agreement on floats, each by computation.
-- Assumes nothing.
use mathlib.Core.Path.{refl}
use lib.Ieee.{size}
use Rattle.whole.specs.Whole.{all_of}
use Rattle.packing.specs.Values.{pattern_of}
use Rattle.float.specs.Patterns.{aside, units, size_of, float_number}
use Rattle.float.specs.Rounding.{nearest_even, dropped, unbounded, rounded, rounded_to, plus, over}
use Rattle.agreement.specs.Agreement.{count_of, ahead, one_that, vote}
use Rattle.agreement.specs.Floats.{left_of, sum_from, finite_value, float_mean, left_agreed, floats_agreed}
use Rattle.agreement.specs.FloatRows.{Rows}

pub rows : Rows
unfolding floats_agreed left_agreed left_of float_mean finite_value sum_from vote one_that ahead count_of all_of pattern_of plus over aside float_number size_of units rounded_to rounded unbounded dropped nearest_even size
rows =
    record {
      of_two = refl;
      minus_zero = refl;
      minus_zeros = refl;
      mixed_zeros = refl;
      overflowed = refl;
      large_first = refl;
      large_last = refl;
      left_out = refl;
      none_left = refl;
      nan_voted = refl;
      zeros_tied = refl;
      nan_first = refl;
    }
