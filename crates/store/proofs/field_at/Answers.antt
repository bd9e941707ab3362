-- `store::field_at` meets its contract: what the layout says of the field is read, and its stage from the byte where it lies.
-- Assumes nothing.
use Rattle.store.proofs.Places.{stage_read}
use Rattle.store.proofs.field_at.Goals as goal

pub returns : goal.returns
returns c =
    cc (c.laid_at.ensures, c.into.ensures, stage_read c.args.node.now c.args.d c.requires)
