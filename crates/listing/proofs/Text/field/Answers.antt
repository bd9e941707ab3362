-- The line of field d: what `record` reads is the field's record and its message's, of which the line is made.
-- Assumes nothing.
use Rattle.listing.specs.Text.{line_at}
use Rattle.listing.proofs.Text.field.Goals as goal

pub returns : goal.returns
unfolding line_at
returns c =
    rw (← c.field_at-r.ensures, ← c.message_at-g.ensures) c.line.ensures
