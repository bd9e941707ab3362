-- `agreement::sum_of` meets its contract. The loop's invariant: the sum so far and the sum of the instances left are the whole sum, and the sum
-- so far is at most 2^32 from zero for each instance passed, so that it has room. Assumes nothing.
use mathlib.Core.Path.{◌≡◌}
use Prim.Native.Nat.{◌≤◌, ◌*◌, ◌^◌}
use lib.IntN.{nat_abs, ◌+ℤ◌}
use lib.ListN.{drop}
use Rattle.agreement.specs.Agreement.{sum_of}
use Rattle.agreement.proofs.sum_of.Given as goal

abbrev pub invariant-loop-v : goal.invariant-loop-v
invariant-loop-v l = (nat_abs l.s ≤ l.v-index * 2 ^ 32) × (sum_of l.instances ≡ l.s +ℤ sum_of (drop l.v-index l.instances))
