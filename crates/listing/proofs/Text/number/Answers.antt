-- The library prints the digits, of a byte at most three.
-- Assumes nothing.
use native.Mathlib.Omega.{arith}
use Rattle.listing.proofs.Decimal.{decimal_printed}
use Rattle.listing.proofs.Puts.{adds_within}
use Rattle.listing.proofs.Text.number.Goals as goal

pub returns : goal.returns
returns c =
    let few = adds_within c.bytes.ensures {y = 3} (omega (arith, c.as_bytes.ensures.len, c.format.ensures.fits)) in
    rw (c.as_bytes.ensures.value, c.format.ensures.text, decimal_printed c.args.n (omega arith)) at few
