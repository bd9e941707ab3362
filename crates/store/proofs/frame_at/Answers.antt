-- `store::frame_at` meets its contract: the cell is read where it lies.
-- Assumes nothing.
use mathlib.Core.Path.{sym, ◌∙◌}
use Rattle.store.proofs.Places.{frame_read}
use Rattle.store.proofs.frame_at.Goals as goal

pub returns : goal.returns
returns c = c.read_cell.ensures ∙ sym (frame_read c.args.node.now c.args.f c.requires)
