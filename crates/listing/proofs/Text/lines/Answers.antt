-- One line more after those of the fields below d.
-- Assumes nothing.
use native.Mathlib.Numerals.{add-one}
use native.Mathlib.Omega.{arith}
use Rattle.listing.specs.Text.{lines}
use Rattle.listing.proofs.Puts.{adds_none, adds_both, adds_within}
use Rattle.listing.proofs.Text.lines.Goals as goal

pub loop-d-init : goal.loop-d-init
unfolding lines
loop-d-init c = adds_none _

pub loop-d-preserved : goal.loop-d-preserved
unfolding lines
loop-d-preserved c =
    rw (add-one c.loop-d.d) (adds_within (adds_both c.loop-d.invariant c.field.ensures) (omega arith))
