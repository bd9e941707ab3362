-- Where a byte that is named is wrong, that; else a search through those that are not. The invariant: from `from` on no byte before k is wrong. The
-- measure: the bytes left.
-- Assumes nothing.
use mathlib.Core.Path.{◌≡◌}
use mathlib.Core.Bool.{false}
use Prim.Native.Nat.{◌≤◌, ◌-◌}
use Rattle.record.specs.Numbers.{any_below}
use Rattle.ranges.specs.Ranges.{reserved_from, wrong_at}
use Rattle.ranges.proofs.or_reserved.Given as goal

abbrev pub invariant-loop-k : goal.invariant-loop-k
invariant-loop-k l = (l.from ≤ l.k) × (l.k ≤ 24) × (any_below (wrong_at (reserved_from l.file l.i l.from)) l.k ≡ false)

abbrev pub decreases-loop-k : goal.decreases-loop-k
decreases-loop-k l = 24 - l.k
