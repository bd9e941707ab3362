-- Record i read as a field: each part is the byte that `byte` ensures.
-- Assumes nothing.
use Rattle.record.specs.Records.{field_at}
use Rattle.record.proofs.field_at.Goals as goal

pub returns : goal.returns
unfolding field_at
returns c = cc
