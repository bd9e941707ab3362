-- Record i read as a frame: each part is the byte that `byte` ensures.
-- Assumes nothing.
use Rattle.record.specs.Records.{frame_at}
use Rattle.record.proofs.frame_at.Goals as goal

pub returns : goal.returns
unfolding frame_at
returns c = cc
