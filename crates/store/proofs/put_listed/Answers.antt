-- `store::put_listed` meets its contract: a cell of the index is one byte, and it is written where it lies.
-- Assumes nothing.
use native.Mathlib.Omega.{arith}
use Rattle.store.proofs.Places.{listed_written}
use Rattle.store.proofs.put_listed.Goals as goal

pub returns : goal.returns
returns c = listed_written c.args.node.now (omega arith) c.args.i c.args.d c.requires
