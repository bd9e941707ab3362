use Prim.Native.Nat.{◌<◌}
use native.Mathlib.Omega.{arith}
use lib.ListN.{length}
use Rattle.store.specs.Node.{state_of, node_of}
use Rattle.store.proofs.Laws.{states_length}
use mathlib.Core.Path.{sym, ◌∙◌}
use Rattle.closing.proofs.Rounds.{close_turn, close_skip, close_end}
use Rattle.closing.proofs.close_messages.Goals.{then-not-is_sent, else-not-is_sent}
use Rattle.closing.proofs.close_messages.Goals as goal

pub loop-m-preserved : goal.loop-m-preserved
loop-m-preserved c =
    let b = c.args.node.now in
    let m = c.loop-m.m in
    let room : m < length (state_of b).messages = omega (arith, states_length b) in
    let inv = c.loop-m.invariant in
    elim c.if-not-is_sent.branch [
      | then-not-is_sent w ↦ rw w.node-is (
        inv.0,
        close_turn (node_of b) m room inv.1 c.message_at.ensures (omega arith) (sym c.is_sent.ensures ∙ w.if-not-is_sent.true) w.close_message.ensures,
      )
      | else-not-is_sent w ↦ rw w.node-is (inv.0, close_skip (node_of b) m room inv.1 c.message_at.ensures (omega arith) (sym c.is_sent.ensures ∙ w.if-not-is_sent.false))
    ]

pub returns : goal.returns
returns c =
    let b = c.args.node.now in
    c.loop-m.invariant.1 ∙ close_end (node_of b) c.loop-m.m (omega arith)
