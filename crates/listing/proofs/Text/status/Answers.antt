-- The status bit's place where it is present, and `-` where it is not: the code's test is the definition's.
-- Assumes nothing.
use native.Mathlib.Omega.{arith}
use borrow.Author.Tests.{eq-eqb, ne_eqb}
use Rattle.listing.specs.Text.{status_text}
use Rattle.listing.proofs.Puts.{adds_within}
use Rattle.listing.proofs.Text.status.Goals as goal

pub returns-then-r-eq1 : goal.returns-then-r-eq1
unfolding status_text
returns-then-r-eq1 c =
    rw (eq-eqb c.args.r.status 1 c.if-r-eq1.true) c.number.ensures

pub returns-else-r-eq1 : goal.returns-else-r-eq1
unfolding status_text
returns-else-r-eq1 c =
    rw (ne_eqb c.args.r.status 1 c.if-r-eq1.false) (adds_within c.bytes.ensures (omega arith))
