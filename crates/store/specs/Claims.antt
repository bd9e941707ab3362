-- What holds of the node in memory. Each line is a theorem; proofs/Claims.antt says where it is proved.
-- Assumes nothing.
use Rattle.std.specs.Prelude.{◌≡◌, List, ℕ, length, take}
use Rattle.whole.specs.Whole.{Bytes}
use Rattle.store.specs.Node.{Node, node_size, layout_size, layout_of, node_of, bytes_of, Shaped}

pub record Claims : Type 0 where
  -- Every content of the memory is a node, and the node's bytes are that content
  pub content : (b : List ℕ) → length b ≡ node_size → Bytes b → bytes_of (node_of b) ≡ b
  -- so two memories that hold the same node are the same bytes, and two that hold the same layout have the same bytes in the layout part
  pub same_memory : (a b : List ℕ) → length a ≡ node_size → length b ≡ node_size → Bytes a → Bytes b → node_of a ≡ node_of b → a ≡ b
  pub same_layout : (a b : List ℕ) → length a ≡ node_size → length b ≡ node_size → Bytes a → Bytes b → layout_of a ≡ layout_of b
      → take layout_size a ≡ take layout_size b
  -- A node that the memory can hold is the node of its bytes; what any memory holds is one
  pub node_bytes : (n : Node) → Shaped n → node_of (bytes_of n) ≡ n
  pub node_shaped : (b : List ℕ) → length b ≡ node_size → Bytes b → Shaped (node_of b)
