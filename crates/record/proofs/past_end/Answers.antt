-- Whether a run goes past the end of a frame: the code's tests are the definition's.
-- Assumes nothing.
use Rattle.record.specs.Runs.{past_end}
use Rattle.record.proofs.past_end.Goals as goal

pub returns : goal.returns
unfolding past_end
returns c = rw c.end.ensures
