-- `store::put_laid` meets its contract: the cell is written where it lies, and what is stored there is read back.
-- Assumes nothing.
use mathlib.Core.Path.{ap}
use native.Mathlib.Omega.{arith}
use Rattle.store.specs.Node.{node_of, laid_bytes}
use Rattle.store.proofs.Cells.{laid_size, laid_decoded}
use Rattle.store.proofs.Places.{laid_written}
use Rattle.store.proofs.put_laid.Goals as goal

pub returns : goal.returns
returns c =
    let node = c.args.node.now in
    let d = c.args.d in
    let x = c.args.x in
    cc (
      ap node_of c.write_cell.ensures,
      laid_written node (omega arith) d (laid_bytes x) c.requires (laid_size x),
      laid_decoded x,
    )
