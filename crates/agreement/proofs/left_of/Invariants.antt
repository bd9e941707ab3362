-- `agreement::left_of` meets its contract. The invariant: those that are left are the elements so far and then those left of the instances that come.
-- Assumes nothing.
use mathlib.Core.Path.{◌≡◌}
use mathlib.Core.List.{◌++◌}
use Prim.Native.Nat.{◌≤◌}
use lib.ListN.{length, drop}
use Rattle.agreement.specs.Floats.{left_of}
use Rattle.agreement.proofs.left_of.Given as goal

abbrev pub invariant-loop-v : goal.invariant-loop-v
invariant-loop-v l = (length l.left.items ≤ l.v-index) × (left_of l.instances ≡ l.left.items ++ left_of (drop l.v-index l.instances))
