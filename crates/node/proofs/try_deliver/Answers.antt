-- `node::try_deliver` meets its contract: refused, it leaves the memory; done, if the delivery is valid, the data and the mark are put into one cell.
-- Assumes nothing.
use mathlib.Core.Path.{◌≡◌, refl, ap, ◌∙◌}
use mathlib.Core.Bool.{not-not}
use Prim.Native.Nat.{ℕ, ◌<◌}
use native.Mathlib.Omega.{arith}
use lib.ListN.{length}
use lib.Seq.{get_or-set_same, set-set}
use borrow.Author.Tests.{eq-eqb, ne_eqb}
use Rattle.store.specs.Node.{Delivery, Node, layout_of, state_of, node_of, delivery_at, no_delivery, marked, with_delivery, node_with}
use Rattle.store.proofs.Cells.{take_least}
use Rattle.store.proofs.Laws.{deliveries_length}
use Rattle.node.specs.Calls.{kept, deliver_answer, deliver_of}
use Rattle.node.specs.declared.CallRefusal.{CallRefusal}
use Rattle.node.specs.declared.Way.{Way}
use Rattle.node.proofs.Answers.{received_frame_refused, frame_passed, handed_on}
use Rattle.node.proofs.Outcomes.{refused_call, done}
use Rattle.node.proofs.try_deliver.Goals as goal

-- a delivery is put, and then put again with the mark
marked_too : (n : Node) (f : ℕ) (y : Delivery) {once twice : Node} → f < length n.state.deliveries
    → once ≡ node_with n (with_delivery n.state f y)
    → twice ≡ node_with once (with_delivery once.state f (marked 1 (delivery_at once.state f)))
    → twice ≡ node_with n (with_delivery n.state f (marked 1 y))
marked_too n f y number first second =
    second
    ∙ ap (λ (i : Node). node_with i (with_delivery i.state f (marked 1 (delivery_at i.state f)))) first
    ∙ rw (get_or-set_same n.state.deliveries f y no_delivery number, set-set n.state.deliveries f y) refl

pub returns-in_err-f : goal.returns-in_err-f
unfolding deliver_of deliver_answer
returns-in_err-f c =
    let a = c.args in
    refused_call _ _ _ _ (handed_on _ _ c.from_residual.ensures.1) (received_frame_refused (layout_of a.node.now) a.frame _ c.frame_of.ensures c.in_err-f.was)

pub returns-then-bytes-h : goal.returns-then-bytes-h
unfolding deliver_of deliver_answer
returns-then-bytes-h c =
    let a = c.args in
    let (room, known, received, f, h) = frame_passed (layout_of a.node.now) a.frame Way.Received c.frame_of.ensures c.in_ok-f.was in
    let away = rw not-not at received in
    refused_call _ _ _ CallRefusal.Value refl (rw (known, away, ← h, ne_eqb _ _ c.if-bytes-h.true) refl)

pub returns-then-valid : goal.returns-then-valid
unfolding deliver_of deliver_answer kept
returns-then-valid c =
    let a = c.args in
    let b = a.node.now in
    let (room, known, received, f, h) = frame_passed (layout_of b) a.frame Way.Received c.frame_of.ensures c.in_ok-f.was in
    let away = rw not-not at received in
    let number : a.frame < length (state_of b).deliveries = omega (arith, deliveries_length b, room) in
    done _ _ _ _ (rw (known, away, ← h, eq-eqb _ _ c.if-bytes-h.false) refl)
    (rw (c.if-valid.true, ← take_least a.bytes.now c.min-n.result 32 c.min-n.ensures)
    (marked_too (node_of b) a.frame _ number (rw f at c.put_data.ensures) (rw f at c.put_mark.ensures)))

pub returns-else-valid : goal.returns-else-valid
unfolding deliver_of deliver_answer
returns-else-valid c =
    let a = c.args in
    let (room, known, received, f, h) = frame_passed (layout_of a.node.now) a.frame Way.Received c.frame_of.ensures c.in_ok-f.was in
    let away = rw not-not at received in
    done _ _ _ _ (rw (known, away, ← h, eq-eqb _ _ c.if-bytes-h.false) refl) (rw c.if-valid.false refl)
