-- Record i read by its kind: the arm that is taken says which of the definition's cases it is.
-- Assumes nothing.
use borrow.Author.Rules.{rules}
use Rattle.record.specs.Records.{is_frame, is_message, record_at}
use Rattle.record.proofs.record_at.Goals as goal

pub returns-in-1 : goal.returns-in-1
unfolding record_at is_frame is_message
returns-in-1 c = rw (← c.byte.ensures, c.in-1.is, c.frame_at.ensures)

pub returns-in-2 : goal.returns-in-2
unfolding record_at is_frame is_message
returns-in-2 c = rw (← c.byte.ensures, c.in-2.is, c.message_at.ensures)

pub returns-in_default : goal.returns-in_default
unfolding record_at is_frame is_message
returns-in_default c = search rules
