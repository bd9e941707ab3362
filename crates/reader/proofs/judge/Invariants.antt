-- The loop over the records. The invariant: each record before record i passes its tests, and what is carried is what they say. The measure: the records
-- left. A turn is proofs/Reading.antt, Carried.antt and Bits.antt; after the last record `complete_file` decides.
-- Assumes nothing.
use Prim.Native.Nat.{◌≤◌, ◌-◌}
use Rattle.reader.specs.Carried.{Lacks, Carried}
use Rattle.reader.proofs.judge.Given as goal

abbrev pub invariant-loop-i : goal.invariant-loop-i
invariant-loop-i l = (l.i ≤ l.n) × Carried l.file l.i l.c l.fields_so_far l.table × Lacks l.file l.i l.lacking × (l.lacking ≤ 256)

abbrev pub decreases-loop-i : goal.decreases-loop-i
decreases-loop-i l = l.n - l.i
