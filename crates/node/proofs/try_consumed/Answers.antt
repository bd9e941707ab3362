-- `node::try_consumed` meets its contract: refused, it leaves the memory; done, the frame's fields have moved on. Assumes nothing.
use mathlib.Core.Path.{refl, ap, ◌∙◌}
use Prim.Native.Nat.{ℕ}
use Rattle.message.specs.declared.Change.{Change}
use Rattle.own.specs.declared.Owner.{Owner}
use Rattle.store.specs.Node.{layout_of, node_of, node_with}
use Rattle.node.specs.Calls.{moved, consumed_answer, consumed_of}
use Rattle.node.specs.declared.Way.{Way}
use Rattle.node.proofs.Answers.{frame_refused, frame_passed, handed_on}
use Rattle.node.proofs.Outcomes.{refused_call, done}
use Rattle.node.proofs.try_consumed.Goals as goal

pub returns-in_err-f : goal.returns-in_err-f
unfolding consumed_of consumed_answer
returns-in_err-f c =
    let a = c.args in
    refused_call _ _ _ _ (handed_on _ _ c.from_residual.ensures.1) (frame_refused (layout_of a.node.now) a.frame Way.Sent c.frame_of.ensures c.in_err-f.was 0)

pub returns : goal.returns
unfolding consumed_of consumed_answer
returns c =
    let a = c.args in
    let n = node_of a.node.now in
    let (room, known, sent, f, h) = frame_passed n.layout a.frame Way.Sent c.frame_of.ensures c.in_ok-f.was in
    done _ _ _ n (rw (known, sent) refl) (c.move_fields.ensures ∙ ap (λ (i : ℕ). node_with n (moved Change.Consume (Owner.Frame i) n)) f)
