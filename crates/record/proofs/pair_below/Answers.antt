-- The order of two fields' pairs: that of the kit's tuples is the definition's.
-- Assumes nothing.
use borrow.Author.Rules.{rules}
use Rattle.record.specs.Records.{pair_below}
use Rattle.record.proofs.pair_below.Goals as goal

pub returns : goal.returns
unfolding pair_below
returns c = search rules
