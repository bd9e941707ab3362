-- The theorems on the node in memory, each from the file that proves it.
-- Assumes nothing.
use Rattle.store.specs.Claims.{Claims}
use Rattle.store.proofs.Laws.{node_shaped}
use Rattle.store.proofs.RoundTrip.{bytes_node, same_memory, same_layout_bytes, node_bytes}

pub claims : Claims
claims =
    record {
      content = bytes_node;
      same_memory = same_memory;
      same_layout = same_layout_bytes;
      node_bytes = node_bytes;
      node_shaped = λ b size y. node_shaped b y size;
    }
