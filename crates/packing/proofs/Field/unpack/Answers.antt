-- `Field::unpack` meets its contract: the number of the field's bytes, shifted down and cut to the width, is what `unpacked` says.
-- Assumes nothing.
use mathlib.Core.Path.{sym}
use Prim.Native.Nat.{◌+◌, ◌/◌, ◌%◌}
use native.Mathlib.Omega.{arith}
use Rattle.packing.proofs.Windows.{unpacked_window}
use Rattle.packing.proofs.Field.unpack.Goals as goal

pub returns : goal.returns
returns c =
    let a = c.args in
    let first = a.self.start / 8 in
    let past = first + (a.self.start % 8 + a.self.width + 7) / 8 in
    rw (c.cut.ensures, c.low_bit.ensures.0, c.read.ensures, c.end.ensures)
    (sym
    (unpacked_window a.self.big first past a.self.start a.self.width (omega arith) (omega arith) a.frame.now
    (λ i. (c.type_inv.frame i).fits)))
