-- `Stretch::put` meets its contract. The loop's invariant: the bits that are left to put, from byte d on, into the frame as it is, give what
-- was asked of the frame as it came. Once the mask has no bits, none are left to put, so that bytes behind byte d stay. The measure is the mask.
-- Assumes nothing.
use mathlib.Core.Path.{◌≡◌}
use Prim.Native.Nat.{◌-◌, ◌*◌, ◌^◌, ◌<◌, ◌≤◌}
use lib.Bits.{bit_and}
use lib.ListN.{length}
use Rattle.whole.specs.Whole.{Bytes}
use Rattle.packing.specs.Window.{with_replaced}
use Rattle.packing.proofs.Stretch.put.Given as goal

abbrev pub invariant-loop-m : goal.invariant-loop-m
invariant-loop-m l =
    (l.d ≤ l.self.past - l.self.first) × (length l.frame ≡ length l.initial.frame) × Bytes l.frame × (l.m < 2 ^ ((l.self.past - l.self.first - l.d) * 8)) × (bit_and l.y l.m ≡ l.y)
    × (with_replaced l.self.big l.self.first l.self.past l.d (l.self.past - l.self.first - l.d) l.m l.y l.frame ≡ with_replaced l.self.big l.self.first l.self.past 0 (l.self.past - l.self.first) l.mask l.bits l.initial.frame)

abbrev pub decreases-loop-m : goal.decreases-loop-m
decreases-loop-m l = l.m
