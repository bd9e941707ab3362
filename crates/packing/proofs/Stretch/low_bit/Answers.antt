-- `Stretch::low_bit` meets its contract: each arm is a case of `low_bit`.
-- Assumes nothing.
use mathlib.Core.Path.{refl}
use native.Mathlib.Omega.{arith}
use Rattle.packing.specs.Window.{low_bit}
use Rattle.packing.proofs.Stretch.low_bit.Goals as goal

pub returns-then-self : goal.returns-then-self
unfolding low_bit
returns-then-self c = rw c.if-self.true (refl, omega arith)

pub returns-else-self : goal.returns-else-self
unfolding low_bit
returns-else-self c = rw c.if-self.false (refl, omega arith)
