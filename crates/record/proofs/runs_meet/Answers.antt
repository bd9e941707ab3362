-- Whether two runs share a bit: the code's tests are the definition's.
-- Assumes nothing.
use Rattle.record.specs.Runs.{meet}
use Rattle.record.proofs.runs_meet.Goals as goal

pub returns : goal.returns
unfolding meet
returns c = rw (c.end.ensures, c.end-2.ensures)
