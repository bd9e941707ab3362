-- `store::listed_at` meets its contract: a cell of the index is one byte, and it is read where it lies.
-- Assumes nothing.
use mathlib.Core.Path.{sym}
use Rattle.store.proofs.Places.{listed_read}
use Rattle.store.proofs.listed_at.Goals as goal

pub returns : goal.returns
returns c = sym (listed_read c.args.node.now c.args.i c.requires)
