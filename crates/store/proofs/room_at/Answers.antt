-- `store::room_at` meets its contract: what is lent begins where the data of the frame lie.
-- Assumes nothing.
use Prim.Native.Nat.{◌+◌, ◌*◌}
use Rattle.store.specs.Node.{deliveries_at, room_of}
use Rattle.store.proofs.Parts.{part_lent}
use Rattle.store.proofs.room_at.Goals as goal

pub returns : goal.returns
unfolding room_of
returns c = part_lent c.args.node.now (deliveries_at + c.args.f * 33 + 1) 40
