-- The rows of floats, each by computation.
-- Assumes nothing.
use mathlib.Core.Path.{refl}
use lib.Ieee.{size}
use Rattle.float.specs.Patterns.{aside, units, size_of, float_number, rank_of}
use Rattle.float.specs.Rounding.{nearest_even, dropped, unbounded, rounded, rounded_to, plus, over}
use Rattle.float.specs.Rows.{Rows}

pub rows : Rows
unfolding rank_of plus over aside float_number size_of units rounded_to rounded unbounded dropped nearest_even size
rows =
    record {
      smallest = refl;
      one = refl;
      minus_zero = refl;
      minus_two_ranked = refl;
      minus_one_ranked = refl;
      zeros_ranked = refl;
      one_and_two = refl;
      mixed_zeros = refl;
      cancelled = refl;
      minus_zeros = refl;
      subnormals = refl;
      tie_down = refl;
      tie_up = refl;
      half_past = refl;
      less_than_half_past = refl;
      stays_infinite = refl;
      smallest_halved = refl;
      thrice_halved = refl;
      third = refl;
    }
