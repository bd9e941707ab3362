-- The lowest wrong byte of a message: the bytes that are named are walked, and then those that are not.
-- Assumes nothing.
use mathlib.Core.Path.{sym, ◌∙◌}
use Rattle.ranges.proofs.Walk.{message_walked}
use Rattle.ranges.proofs.range_fault.Goals as goal

pub returns-in-2 : goal.returns-in-2
returns-in-2 c =
    rw (c.or_reserved-in-2.ensures, c.message_fault.ensures, c.message_at-g.ensures, c.byte-other.ensures)
    (message_walked _ _ (sym c.byte.ensures ∙ c.in-2.is))
