-- `packing::is_extended` meets its contract: a 32-bit pattern is extended from a width exactly if its value is one of the width's.
-- Assumes nothing.
use mathlib.Core.Path.{sym, ◌∙◌}
use native.Mathlib.Omega.{arith}
use Rattle.whole.proofs.Integers.{back}
use Rattle.packing.specs.Values.{value_of}
use Rattle.packing.proofs.Values.{value_near, extended_value}
use Rattle.packing.proofs.is_extended.Goals as goal

pub returns : goal.returns
returns c =
    let a = c.args in
    let near = value_near a.signed 32 a.pattern (omega arith) in
    c.in_range.ensures
    ∙ rw (c.value_of.ensures, back (value_of a.signed 32 a.pattern) (omega arith))
    (sym (extended_value a.signed a.width a.pattern (omega arith)))
