-- `node::move_fields` meets its contract. The invariant: the memory's node, with the owner's cells moved on that are still ahead, is the node at
-- entry with all of them moved on; so the layout is as it was.
-- Assumes nothing.
use mathlib.Core.Path.{◌≡◌}
use Rattle.store.specs.Node.{layout_of, node_of, node_with}
use Rattle.own.specs.Own.{end_place}
use Rattle.node.specs.Calls.{moved}
use Rattle.node.proofs.Turns.{moved_ahead}
use Rattle.node.proofs.move_fields.Given as goal

abbrev pub invariant-loop-i : goal.invariant-loop-i
invariant-loop-i l =
    (l.i-iterator.end ≡ end_place (layout_of l.initial.node) l.owner)
    × (node_with (node_of l.node) (moved_ahead l.change l.owner (node_of l.node) l.i-iterator.start)
    ≡ node_with (node_of l.initial.node) (moved l.change l.owner (node_of l.initial.node)))
