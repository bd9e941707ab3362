-- `float::no_sum` meets its contract: the pattern of 0.0 is 0. Assumes nothing.
use mathlib.Core.Path.{refl}
use lib.Ieee.{of_bits, to_bits, neg}
use Rattle.float.specs.Running.{running_of, none}
use Rattle.float.proofs.no_sum.Goals as goal

pub returns : goal.returns
unfolding running_of none of_bits to_bits neg
returns c = refl
