-- `used::is_used` meets its contract: what it unpacks from the row is 0 exactly if no bit of the run is used.
-- Assumes nothing.
use mathlib.Core.Path.{ap, ◌∙◌}
use mathlib.Core.Bool.{false}
use Rattle.packing.specs.Places.{places_in, unpacked}
use Rattle.used.proofs.Rows.{lent, asked}
use Rattle.used.proofs.is_used.Goals as goal

pub returns : goal.returns
returns c =
    let a = c.args in
    let pre = c.requires in
    let places = places_in 32 false a.a.start a.a.width in
    rw (c.unpack_in.ensures ∙ ap (unpacked places) (lent a.table.now a.f)) (asked a.table.now a.f a.a pre.1 pre.2)
