-- `agreement::float_mean` meets its contract. The loop's invariant: the instances left, added to the sum so far, give the whole running sum.
-- Assumes nothing.
use mathlib.Core.Path.{◌≡◌}
use lib.ListN.{drop}
use Rattle.float.specs.Running.{none, running_of}
use Rattle.agreement.proofs.Running.{running_from}
use Rattle.agreement.proofs.float_mean.Given as goal

abbrev pub invariant-loop-v : goal.invariant-loop-v
invariant-loop-v l = running_from none l.instances ≡ running_from (running_of l.s) (drop l.v-index l.instances)
