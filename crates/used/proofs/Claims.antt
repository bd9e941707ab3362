-- Where each claim is proved. Assumes nothing.
use Rattle.used.specs.Claims.{Claims}
use Rattle.used.proofs.Laws.{none_used, none_any, some_bit, by_bits, added_any}
use Rattle.used.proofs.Rows.{added_bits}

pub claims : Claims
claims = record { none_used = none_used; none_any = none_any; some_bit = some_bit; by_bits = by_bits; added_bits = added_bits; added_any = added_any }
