-- `store::laid_at` meets its contract: the cell is read where it lies.
-- Assumes nothing.
use mathlib.Core.Path.{sym, ◌∙◌}
use Rattle.store.proofs.Places.{laid_read}
use Rattle.store.proofs.laid_at.Goals as goal

pub returns : goal.returns
returns c = c.read_cell.ensures ∙ sym (laid_read c.args.node.now c.args.d c.requires)
