-- `record::bytes` meets its contract: what is lent begins where the record does, and has 24 bytes.
-- Assumes nothing.
use mathlib.Core.Path.{◌≡◌, refl}
use Prim.Native.Nat.{◌+◌, ◌-◌, ◌*◌}
use native.Mathlib.Omega.{arith}
use Rattle.record.specs.Records.{record_bytes}
use Rattle.record.proofs.bytes.Goals as goal

pub returns : goal.returns
unfolding record_bytes
returns c =
    let at = c.args.i * 24 in
    let e : at + 24 - at ≡ 24 = omega arith in
    rw e refl
