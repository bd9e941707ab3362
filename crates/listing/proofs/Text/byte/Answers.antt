-- The byte of a refusal where one is given, and nothing where none is: the code's test is the definition's.
-- Assumes nothing.
use native.Mathlib.Omega.{arith}
use borrow.Author.Tests.{eq-eqb, ne_eqb}
use Rattle.listing.specs.Text.{byte_text}
use Rattle.listing.proofs.Puts.{adds_none, adds_both, adds_within}
use Rattle.listing.proofs.Text.byte.Goals as goal

pub returns-then-byte-ne0 : goal.returns-then-byte-ne0
unfolding byte_text
returns-then-byte-ne0 c =
    rw (ne_eqb c.args.byte 0 c.if-byte-ne0.true) (adds_both c.bytes.ensures c.number.ensures)

pub returns-else-byte-ne0 : goal.returns-else-byte-ne0
unfolding byte_text
returns-else-byte-ne0 c =
    rw (eq-eqb c.args.byte 0 c.if-byte-ne0.false) (adds_within (adds_none _) (omega arith))
