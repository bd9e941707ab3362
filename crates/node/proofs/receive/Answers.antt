-- `node::receive` meets its contract: refused, it leaves the place; else it answers the status, and with 0 the held value comes back.
-- Assumes nothing.
use mathlib.Core.Path.{refl, sym, ◌∙◌}
use mathlib.Core.Bool.{not-not}
use mir.Syntax.{w64}
use mir.ValLaws.{to_z-of_z}
use borrow.Author.Tests.{eq-eqb, ne_eqb}
use Rattle.store.specs.Node.{layout_of}
use Rattle.node.specs.Calls.{receive_answer, received_place}
use Rattle.node.specs.declared.Way.{Way}
use Rattle.node.proofs.Answers.{received_message_refused, message_passed, some_number}
use Rattle.node.proofs.receive.Goals as goal

pub returns-in-Err : goal.returns-in-Err
unfolding receive_answer received_place
returns-in-Err c =
    let a = c.args in
    let refused = received_message_refused (layout_of a.node.now) a.message _ c.message_of.ensures c.in-Err.is in
    (c.from.ensures ∙ sym refused, rw (refused, ne_eqb _ 0 (some_number c.in-Err.refused)) refl)

pub returns-then-s-eq0 : goal.returns-then-s-eq0
unfolding receive_answer received_place
returns-then-s-eq0 c =
    let a = c.args in
    let (room, known, received, m, g) = message_passed (layout_of a.node.now) a.message Way.Received c.message_of.ensures c.in-Ok.is in
    let away = rw not-not at received in
    let status = rw m at c.state_at-s.ensures in
    let back = to_z-of_z w64 c.value_of.result (record { sfits = c.value_of.type_inv }) in
    (rw (known, away, status) refl, rw (known, away, ← status, eq-eqb _ 0 c.if-s-eq0.true, ← g) (rw c.is_signed.ensures at (back ∙ c.value_of.ensures)))

pub returns-else-s-eq0 : goal.returns-else-s-eq0
unfolding receive_answer received_place
returns-else-s-eq0 c =
    let a = c.args in
    let (room, known, received, m, g) = message_passed (layout_of a.node.now) a.message Way.Received c.message_of.ensures c.in-Ok.is in
    let away = rw not-not at received in
    let status = rw m at c.state_at-s.ensures in
    (rw (known, away, status) refl, rw (known, away, ← status, ne_eqb _ 0 c.if-s-eq0.false) refl)
