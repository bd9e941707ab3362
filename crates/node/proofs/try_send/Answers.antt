-- `node::try_send` meets its contract: refused, it leaves the memory; done, the message's fields wait and its state is as its filter left it.
-- Assumes nothing.
use mathlib.Core.Path.{◌≡◌, refl, ap, ap₂, ◌∙◌}
use mir.Syntax.{w64}
use mir.Val.{to_z, of_z}
use mir.ValLaws.{to_z-of_z}
use Rattle.store.specs.declared.MessageState.{MessageState}
use Rattle.store.specs.Node.{Node, layout_of, node_of, message_at, state_at, with_state, node_with}
use Rattle.message.specs.Messages.{offered}
use Rattle.node.specs.Calls.{send_answer, send_of}
use Rattle.node.specs.declared.CallRefusal.{CallRefusal}
use Rattle.node.specs.declared.Way.{Way}
use Rattle.node.proofs.Answers.{message_refused, message_passed, handed_on}
use Rattle.node.proofs.Outcomes.{refused_call, done}
use Rattle.node.proofs.try_send.Goals.{Start}
use Rattle.node.proofs.try_send.Goals as goal

-- the value is read back from its bits
back : (s : Start) → to_z w64 (of_z w64 s.args.value) ≡ s.args.value
back s = to_z-of_z w64 s.args.value s.ranges.value

pub returns-in_err-m : goal.returns-in_err-m
unfolding send_of send_answer
returns-in_err-m c =
    let a = c.args in
    refused_call _ _ _ _ (handed_on _ _ c.from_residual.ensures.1) (message_refused (layout_of a.node.now) a.message Way.Sent c.message_of.ensures c.in_err-m.was _)

pub returns-then-not-can_hold : goal.returns-then-not-can_hold
unfolding send_of send_answer
returns-then-not-can_hold c =
    let a = c.args in
    let (room, known, sent, m, g) = message_passed (layout_of a.node.now) a.message Way.Sent c.message_of.ensures c.in_ok-m.was in
    let held = rw (c.can_hold.ensures, back (goal.at.returns-then-not-can_hold c).Start) at c.if-not-can_hold.true-raw in
    refused_call _ _ _ CallRefusal.Value refl (rw (known, sent, ← g, held) refl)

pub returns : goal.returns
unfolding send_of send_answer
returns c =
    let a = c.args in
    let n = node_of a.node.now in
    let (room, known, sent, m, g) = message_passed n.layout a.message Way.Sent c.message_of.ensures c.in_ok-m.was in
    let held = rw (c.can_hold.ensures, back (goal.at.returns c).Start) at c.if-not-can_hold.false-raw in
    let moves = rw m at c.move_fields.ensures in
    let read = rw (back (goal.at.returns c).Start, c.message_at-g.ensures, c.state_at-s.ensures, m) at c.offered_state.ensures in
    let stays = ap (λ (k : Node). offered (message_at k.layout a.message) (state_at k.state a.message) a.value) moves in
    done _ _ _ n (rw (known, sent, ← g, held) refl)
    (rw m at c.put_state.ensures
    ∙ ap₂ (λ (k : Node) (s : MessageState). node_with k (with_state k.state a.message s)) moves (read ∙ stays))
