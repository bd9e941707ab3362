-- `Field::unpack_wide` meets its contract: the number of the eight bytes from the field's first one on, shifted down and cut to the width, is what
-- `unpacked` says.
-- Assumes nothing.
use mathlib.Core.Path.{◌≡◌, sym}
use Prim.Native.Nat.{◌+◌, ◌-◌, ◌/◌}
use native.Mathlib.Omega.{arith}
use Rattle.whole.specs.Whole.{Bytes}
use Rattle.packing.proofs.Windows.{unpacked_window}
use Rattle.packing.proofs.Field.unpack_wide.Goals as goal

pub returns : goal.returns
returns c =
    let a = c.args in
    let bytes : Bytes a.room.now = λ i. (c.type_inv.room i).fits in
    let at = a.self.start / 8 in
    let e : at + 8 - at ≡ 8 = omega arith in
    rw (
      c.cut.ensures,
      c.low_bit.ensures.0,
      c.read_eight.ensures,
      c.end.ensures,
    )
    (sym (rw e at (unpacked_window a.self.big at (at + 8) a.self.start a.self.width (omega arith) (omega arith) a.room.now bytes)))
