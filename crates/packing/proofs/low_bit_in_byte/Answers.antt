-- `packing::low_bit_in_byte` meets its contract: each arm is a case of `low_bit`, since the field begins in its first byte and ends in its last.
-- Assumes nothing.
use native.Mathlib.Omega.{arith}
use Rattle.packing.specs.Window.{low_bit}
use Rattle.packing.proofs.low_bit_in_byte.Goals as goal

pub returns-then-big : goal.returns-then-big
unfolding low_bit
returns-then-big c = rw c.if-big.true (omega arith)

pub returns-else-big : goal.returns-else-big
unfolding low_bit
returns-else-big c = rw c.if-big.false (omega arith)
