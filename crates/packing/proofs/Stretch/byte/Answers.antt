-- `Stretch::byte` meets its contract: each arm is a case of `window_byte`.
-- Assumes nothing.
use native.Mathlib.Omega.{arith}
use Rattle.packing.specs.Window.{window_byte}
use Rattle.packing.proofs.Stretch.byte.Goals as goal

pub returns-then-self : goal.returns-then-self
unfolding window_byte
returns-then-self c = rw c.if-self.true (omega arith)

pub returns-else-self : goal.returns-else-self
unfolding window_byte
returns-else-self c = rw c.if-self.false (omega arith)
