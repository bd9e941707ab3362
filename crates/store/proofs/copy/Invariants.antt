-- `store::copy` meets its contract. The invariant: the bytes before the one whose turn it is are those of the source, and the others are as they were.
-- Assumes nothing.
use mathlib.Core.Path.{◌≡◌}
use lib.Seq.{paste}
use Rattle.store.proofs.copy.Given as goal

abbrev pub invariant-loop-k : goal.invariant-loop-k
invariant-loop-k l = l.to ≡ paste l.fn.to 0 l.from l.k
