-- What is carried is what GROUP and PLACE ask for, once the tests before them have passed.
-- Assumes nothing.
use mathlib.Core.Path.{sym, ◌∙◌}
use Rattle.record.proofs.Tests.{any_clear}
use Rattle.ranges.proofs.Lowest.{range_none}
use Rattle.layout.specs.Verdict.{fails_at}
use Rattle.layout.proofs.Faults.{order_clear}
use Rattle.reader.proofs.Carried.{earlier}
use Rattle.reader.proofs.Bits.{has_row}
use Rattle.reader.proofs.At.read.Goals as goal

pub group_fault-requires : goal.group_fault-requires
group_fault-requires c =
    let order = (order_clear _ _ _).0 (sym c.order_fault.ensures ∙ c.if-order_fault.false) in
    let pass = (any_clear (fails_at _) _).0 c.requires.passes in
    rw c.earlier_fields.ensures.value (earlier _ _ pass order c.requires.hand)

pub place_fault-requires-clause-row : goal.place_fault-requires-clause-row
place_fault-requires-clause-row c =
    let right = (range_none _ _).0 (sym c.range_fault.ensures ∙ c.in_ok-range_fault.was) in
    let pass = (any_clear (fails_at _) _).0 c.requires.passes in
    has_row _ _ pass c.requires.counts right (sym c.ref_fault.ensures ∙ c.if-ref_fault.false)
