-- `Stretch::read` meets its contract. The loop's invariant: the bytes from byte d on are read. The measure is d.
-- Assumes nothing.
use mathlib.Core.Path.{◌≡◌}
use Prim.Native.Nat.{◌-◌, ◌≤◌}
use Rattle.packing.specs.Window.{window_of}
use Rattle.packing.proofs.Stretch.read.Given as goal

abbrev pub invariant-loop-d : goal.invariant-loop-d
invariant-loop-d l = (l.d ≤ l.self.past - l.self.first) × (l.x ≡ window_of l.self.big l.self.first l.self.past l.frame l.d (l.self.past - l.self.first - l.d))

abbrev pub decreases-loop-d : goal.decreases-loop-d
decreases-loop-d l = l.d
