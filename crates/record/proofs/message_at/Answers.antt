-- Record i read as a message: each part is the byte or the word that `byte` or `word` ensures.
-- Assumes nothing.
use Rattle.record.specs.Records.{message_at}
use Rattle.record.proofs.message_at.Goals as goal

pub returns : goal.returns
unfolding message_at
returns c = cc
