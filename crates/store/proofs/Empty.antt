-- A memory of zeros, with 2 for each stage, is a node of nothing.
-- Assumes nothing.
use mathlib.Core.Path.{◌≡◌, refl}
use mathlib.Core.List.{◌++◌}
use lib.ListN.{replicate}
use Rattle.store.specs.Memory.{uncells}
use Rattle.store.specs.Node.{
  frame_of,
  message_of,
  laid_of,
  listed_of,
  delivery_of,
  message_state_of,
  stage_in,
  layout_of,
  state_of,
  node_of,
}
use Rattle.store.specs.Writing.{empty_layout, empty_state, empty_node}

pub nothing_read : node_of (replicate 2723 0 ++ replicate 128 2) ≡ empty_node
unfolding layout_of state_of uncells frame_of message_of laid_of listed_of delivery_of message_state_of stage_in empty_layout empty_state
nothing_read = refl
