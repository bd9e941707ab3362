-- `store::put_frame` meets its contract: the cell is written where it lies, and what is stored there is read back.
-- Assumes nothing.
use mathlib.Core.Path.{ap}
use native.Mathlib.Omega.{arith}
use Rattle.store.specs.Node.{node_of, frame_bytes}
use Rattle.store.proofs.Cells.{frame_size, frame_decoded}
use Rattle.store.proofs.Places.{frame_written}
use Rattle.store.proofs.put_frame.Goals as goal

pub returns : goal.returns
returns c =
    let node = c.args.node.now in
    let f = c.args.f in
    let h = c.args.h in
    cc (
      ap node_of c.write_cell.ensures,
      frame_written node (omega arith) f (frame_bytes h) c.requires (frame_size h),
      frame_decoded h,
    )
