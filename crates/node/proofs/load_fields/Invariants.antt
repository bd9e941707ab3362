-- `node::load_fields` meets its contract. The invariant: the fields ahead, written over the buffer as it is, make what all fields make over the
-- buffer as it was; and the memory's node, with the cells ahead moved on, is the node at entry with all of the frame's moved on. So the layout and
-- the messages' states are as they were.
-- Assumes nothing.
use mathlib.Core.Path.{◌≡◌}
use mathlib.Core.List.{map}
use Rattle.store.specs.Node.{layout_of, node_of, laid_at, node_with}
use Rattle.message.specs.declared.Change.{Change}
use Rattle.own.specs.declared.Owner.{Owner}
use Rattle.own.specs.Own.{end_place, fields_of}
use Rattle.node.specs.Calls.{moved, written}
use Rattle.own.proofs.Ahead.{ahead}
use Rattle.node.proofs.Turns.{moved_ahead}
use Rattle.node.proofs.load_fields.Given as goal

abbrev pub invariant-loop-i : goal.invariant-loop-i
invariant-loop-i l =
    (l.i-iterator.end ≡ end_place (layout_of l.initial.node) (Owner.Frame l.frame))
    × (node_with (node_of l.node) (moved_ahead Change.Load (Owner.Frame l.frame) (node_of l.node) l.i-iterator.start)
    ≡ node_with (node_of l.initial.node) (moved Change.Load (Owner.Frame l.frame) (node_of l.initial.node)))
    × (written (node_of l.initial.node) l.h (map (laid_at (layout_of l.initial.node)) (ahead (layout_of l.initial.node) (Owner.Frame l.frame) l.i-iterator.start)) l.buffer
    ≡ written (node_of l.initial.node) l.h (fields_of (layout_of l.initial.node) (Owner.Frame l.frame)) l.initial.buffer)
