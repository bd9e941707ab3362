-- `closing::close_messages` meets its contract. The invariant: the first m messages are closed. Message m is closed as the node was when the closing
-- began.
-- Assumes nothing.
use mathlib.Core.Path.{◌≡◌}
use Prim.Native.Nat.{◌-◌}
use Rattle.store.specs.Node.{layout_of, node_of, message_count}
use Rattle.closing.proofs.Rounds.{closed_to}
use Rattle.closing.proofs.close_messages.Given as goal

abbrev pub invariant-loop-m : goal.invariant-loop-m
invariant-loop-m l = (l.messages ≡ message_count (layout_of l.initial.node)) × (node_of l.node ≡ closed_to (node_of l.initial.node) l.m)

abbrev pub decreases-loop-m : goal.decreases-loop-m
decreases-loop-m l = l.messages - l.m
