-- `node::try_invalidate` meets its contract: refused, it leaves the memory; done, the message's state is written back without its validity.
-- Assumes nothing.
use mathlib.Core.Path.{refl, ap₂, ◌∙◌}
use Prim.Native.Nat.{ℕ}
use Rattle.store.specs.declared.MessageState.{MessageState}
use Rattle.store.specs.Node.{layout_of, node_of, with_state, node_with}
use Rattle.node.specs.Calls.{invalidate_answer, invalidate_of}
use Rattle.node.specs.declared.CallRefusal.{CallRefusal}
use Rattle.node.specs.declared.Way.{Way}
use Rattle.node.proofs.Answers.{message_refused, message_passed, handed_on}
use Rattle.node.proofs.Outcomes.{refused_call, done}
use Rattle.node.proofs.try_invalidate.Goals as goal

pub returns-in_err-m : goal.returns-in_err-m
unfolding invalidate_of invalidate_answer
returns-in_err-m c =
    let a = c.args in
    refused_call _ _ _ _ (handed_on _ _ c.from_residual.ensures.1) (message_refused (layout_of a.node.now) a.message Way.Sent c.message_of.ensures c.in_err-m.was _)

pub returns-then-not-has_status_bit : goal.returns-then-not-has_status_bit
unfolding invalidate_of invalidate_answer
returns-then-not-has_status_bit c =
    let a = c.args in
    let (room, known, sent, m, g) = message_passed (layout_of a.node.now) a.message Way.Sent c.message_of.ensures c.in_ok-m.was in
    refused_call _ _ _ CallRefusal.NoFunc refl (rw (known, sent, ← g, ← c.has_status_bit.ensures, c.if-not-has_status_bit.true) refl)

pub returns : goal.returns
unfolding invalidate_of invalidate_answer
returns c =
    let a = c.args in
    let n = node_of a.node.now in
    let (room, known, sent, m, g) = message_passed n.layout a.message Way.Sent c.message_of.ensures c.in_ok-m.was in
    let new = rw (c.state_at-s.ensures, m) at c.invalidated_state.ensures in
    done _ _ _ n (rw (known, sent, ← g, ← c.has_status_bit.ensures, c.if-not-has_status_bit.false) refl)
    (c.put_state.ensures ∙ ap₂ (λ (i : ℕ) (s : MessageState). node_with n (with_state n.state i s)) m new)
