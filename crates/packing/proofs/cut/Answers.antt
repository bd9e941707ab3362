-- `packing::cut` meets its contract: the remainder fits the type that it is cast to.
-- Assumes nothing.
use native.Mathlib.Nat.{lt_of_lt_of_le, mod-lt}
use native.Mathlib.Omega.{arith}
use lib.Pow.{pow_mono, pow_pos}
use Rattle.packing.proofs.Windows.{power}
use Rattle.packing.proofs.cut.Goals as goal

pub nonzero_rem-result : goal.nonzero_rem-result
nonzero_rem-result c = let w = c.args.width in rw (power w (omega arith)) (pow_pos w)

pub overflow_cast-result : goal.overflow_cast-result
overflow_cast-result c =
    let w = c.args.width in
    rw (power w (omega arith)) (record { fits = lt_of_lt_of_le (mod-lt _ (pow_pos w)) (pow_mono {j = 32} (omega arith)) })

pub returns : goal.returns
returns c = rw (power c.args.width (omega arith))
