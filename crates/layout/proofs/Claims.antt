-- The theorems on every verdict, each from the file that proves it.
-- Assumes nothing.
use mathlib.Core.Path.{refl}
use Rattle.layout.specs.Claims.{Claims}
use Rattle.layout.proofs.Accepted.{accepted}
use Rattle.layout.proofs.Demands.{refused, refused_record, refused_byte}

pub claims : Claims
claims = record { accepted = accepted; refused = refused; record_given = refused_record; byte_given = refused_byte; numbers = λ k. refl }
