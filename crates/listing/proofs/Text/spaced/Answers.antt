-- A number and then a space: the law of two texts one after the other.
-- Assumes nothing.
use Rattle.listing.proofs.Puts.{adds_both}
use Rattle.listing.proofs.Text.spaced.Goals as goal

pub returns : goal.returns
returns c =
    adds_both c.number.ensures c.bytes.ensures
