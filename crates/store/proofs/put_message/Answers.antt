-- `store::put_message` meets its contract: the cell is written where it lies, and what is stored there is read back.
-- Assumes nothing.
use mathlib.Core.Path.{ap}
use native.Mathlib.Omega.{arith}
use Rattle.store.specs.Node.{node_of, message_bytes}
use Rattle.store.proofs.Cells.{message_size, message_decoded}
use Rattle.store.proofs.Places.{message_written}
use Rattle.store.proofs.put_message.Goals as goal

pub returns : goal.returns
returns c =
    let node = c.args.node.now in
    let m = c.args.m in
    let g = c.args.g in
    cc (
      ap node_of c.write_cell.ensures,
      message_written node (omega arith) m (message_bytes g) c.requires (message_size g),
      message_decoded g (omega arith) (omega arith),
    )
