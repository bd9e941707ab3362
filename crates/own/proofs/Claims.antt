-- Where each claim is proved. Assumes nothing.
use Rattle.own.specs.Claims.{Claims}
use Rattle.own.proofs.Owners.{fields_named, cells_rise}
use Rattle.own.proofs.Starts.{sound_layout}

pub claims : Claims
claims = record { sound_start = sound_layout; own_fields = λ l s. fields_named s; own_once = λ l s. cells_rise s }
