-- A refusal: its words and numbers are written one after the other, and the law of two texts joins them.
-- Assumes nothing.
use Rattle.listing.specs.Text.{refusal_text}
use Rattle.listing.proofs.Puts.{adds_both}
use Rattle.listing.proofs.Text.refusal.Goals as goal

pub returns : goal.returns
unfolding refusal_text
returns c =
    rw (← c.number_of.ensures, ← c.byte_of.ensures)
    (adds_both c.bytes.ensures
    (adds_both c.number.ensures
    (adds_both c.bytes-2.ensures
    (adds_both c.number-2.ensures (adds_both c.byte.ensures c.bytes-3.ensures)))))
