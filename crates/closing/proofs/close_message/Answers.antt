-- `closing::close_message` meets its contract: the fields are gone through, and the message is settled by what was gathered.
-- Assumes nothing.
use mathlib.Core.Path.{ap, ◌∙◌}
use Rattle.store.specs.declared.MessageState.{MessageState}
use Rattle.store.specs.Node.{state_of, node_of, with_state, node_with}
use Rattle.closing.proofs.Rounds.{closed_by}
use Rattle.closing.proofs.close_message.Goals as goal

pub returns : goal.returns
returns c =
    let b = c.args.node.now in
    let m = c.args.m in
    let got = c.gather-none.ensures in
    c.put_state.ensures
    ∙ ap (λ (t : MessageState). node_with (node_of b) (with_state (state_of b) m t))
    (closed_by (node_of b) m _ c.message_at-g.ensures c.state_at-s.ensures got.1 (c.as_slice.ensures.value ∙ got.0) c.settled_state-t.ensures)
