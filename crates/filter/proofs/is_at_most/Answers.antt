-- `filter::is_at_most` meets its contract: a value is at most another exactly if the other is not below it. Assumes nothing.
use mathlib.Core.Path.{sym, ap, ◌∙◌}
use mathlib.Core.Bool.{not}
use mir.Syntax.{w64}
use mir.ValLaws.{to_z-of_z}
use Rattle.whole.proofs.Integers.{at_most_lem}
use Rattle.filter.specs.Filter.{compared}
use Rattle.filter.proofs.is_at_most.Goals as goal

pub returns : goal.returns
returns c =
    let a = c.args in
    let f = c.ranges in
    ap not (rw (to_z-of_z w64 a.u f.u, to_z-of_z w64 a.v f.v) at c.is_below.ensures)
    ∙ sym (at_most_lem (compared a.sign a.u) (compared a.sign a.v))
