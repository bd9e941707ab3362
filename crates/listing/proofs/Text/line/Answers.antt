-- A line: its parts are written one after the other, and the law of two texts joins them.
-- Assumes nothing.
use mathlib.Core.List.{append_assoc}
use Rattle.listing.specs.Text.{line_of}
use Rattle.listing.proofs.Puts.{adds_both}
use Rattle.listing.proofs.Text.line.Goals as goal

pub returns : goal.returns
unfolding line_of
returns c =
    simp append_assoc at
    (adds_both c.spaced.ensures
    (adds_both c.spaced-2.ensures
    (adds_both c.spaced-3.ensures
    (adds_both c.spaced-4.ensures (adds_both c.status.ensures c.bytes.ensures)))))
