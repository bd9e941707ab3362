-- `store::mark_at` meets its contract: the first byte of the delivery's cell is read where it lies.
-- Assumes nothing.
use mathlib.Core.Path.{sym}
use Rattle.store.proofs.Places.{mark_read}
use Rattle.store.proofs.mark_at.Goals as goal

pub returns : goal.returns
returns c = sym (mark_read c.args.node.now c.args.f c.requires)
