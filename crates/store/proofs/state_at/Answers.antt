-- `store::state_at` meets its contract: the cell is read where it lies.
-- Assumes nothing.
use mathlib.Core.Path.{sym, ◌∙◌}
use Rattle.store.proofs.Places.{state_read}
use Rattle.store.proofs.state_at.Goals as goal

pub returns : goal.returns
returns c = c.read_cell.ensures ∙ sym (state_read c.args.node.now c.args.m c.requires)
