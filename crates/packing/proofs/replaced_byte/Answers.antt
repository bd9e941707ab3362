-- `packing::replaced_byte` meets its contract: what is taken out is part of the byte, and what is put in fits where it was.
-- Assumes nothing.
use mathlib.Core.Path.{refl}
use native.Mathlib.Omega.{arith}
use lib.Bits.{and_le_l}
use Rattle.packing.specs.Window.{replaced}
use Rattle.packing.proofs.Windows.{replaced_below}
use Rattle.packing.proofs.replaced_byte.Goals as goal

pub overflow_sub-result : goal.overflow_sub-result
overflow_sub-result c = omega (arith, and_le_l c.args.x c.args.m)

pub overflow_add-result : goal.overflow_add-result
unfolding replaced
overflow_add-result c = omega (arith, replaced_below c.args.x c.args.m c.args.y (omega arith) (omega arith) (omega arith))

pub returns : goal.returns
unfolding replaced
returns c = refl
