-- `store::put_state` meets its contract: the cell is written where it lies, and what is stored there is read back.
-- Assumes nothing.
use mathlib.Core.Path.{ap}
use native.Mathlib.Omega.{arith}
use Rattle.store.specs.Node.{node_of, message_state_bytes}
use Rattle.store.proofs.Cells.{state_size_lem, state_decoded}
use Rattle.store.proofs.Places.{state_written}
use Rattle.store.proofs.put_state.Goals as goal

pub returns : goal.returns
returns c =
    let node = c.args.node.now in
    let m = c.args.m in
    let x = c.args.s in
    cc (
      ap node_of c.write_cell.ensures,
      state_written node (omega arith) m (message_state_bytes x) c.requires (state_size_lem x),
      state_decoded x (omega arith),
    )
