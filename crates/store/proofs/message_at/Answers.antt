-- `store::message_at` meets its contract: the cell is read where it lies.
-- Assumes nothing.
use mathlib.Core.Path.{sym, ◌∙◌}
use Rattle.store.proofs.Places.{message_read}
use Rattle.store.proofs.message_at.Goals as goal

pub returns : goal.returns
returns c = c.read_cell.ensures ∙ sym (message_read c.args.node.now c.args.m c.requires)
