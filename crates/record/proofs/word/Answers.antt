-- The four-byte word at byte k of record i: its bytes are what `byte` ensures. Assumes nothing.
use Rattle.record.specs.Records.{word_at}
use Rattle.record.proofs.word.Goals as goal

pub returns : goal.returns
unfolding word_at
returns c = cc
