-- Byte k of record i: what the file has there, and past its end 0.
-- Assumes nothing.
use borrow.Author.Rules.{rules}
use Rattle.record.specs.Records.{byte_at}
use Rattle.record.proofs.byte.Goals as goal

pub returns : goal.returns
unfolding byte_at
returns c = search rules
