-- The memory and the node, there and back: every memory is the bytes of its node, so that it is determined by its node, and every node that is
-- `Shaped` is the node of its bytes. It goes region by region, since the bytes of the regions follow each other.
-- Assumes nothing.
use mathlib.Core.Path.{◌≡◌, refl, ap, ap₂, sym, ◌∙◌}
use mathlib.Core.List.{List, [], ◌++◌, append_assoc, append-nil}
use Prim.Native.Nat.{ℕ, ◌+◌, ◌-◌}
use native.Mathlib.Omega.{arith}
use lib.ListN.{length, take, drop, length-append, length-drop, take-append-drop, drop_of_length-le}
use lib.Seq.{take_at}
use Rattle.whole.specs.Whole.{Bytes}
use Rattle.store.specs.Memory.{cells, uncells}
use Rattle.store.specs.Node.{
  Node,
  Shaped,
  frame_of,
  frame_bytes,
  message_of,
  message_bytes,
  laid_of,
  laid_bytes,
  listed_of,
  listed_bytes,
  delivery_of,
  delivery_bytes,
  message_state_of,
  message_state_bytes,
  stage_in,
  stage_bytes,
  frames_at,
  messages_at,
  fields_at,
  index_at,
  layout_size,
  deliveries_at,
  states_at,
  state_size,
  stages_at,
  node_size,
  layout_of,
  state_of,
  node_of,
  layout_bytes,
  state_bytes,
  bytes_of,
  no_frame,
  no_message,
  not_laid,
  no_delivery,
  no_state,
  no_stage,
}
use Rattle.store.proofs.Regions.{region_bytes, region_cells}
use Rattle.store.proofs.Cells.{
  bytes_front,
  frame_size,
  message_size,
  laid_size,
  listed_size,
  delivery_size,
  state_size_lem,
  stage_size,
  frame_encoded,
  message_encoded,
  laid_encoded,
  listed_encoded,
  delivery_encoded,
  state_encoded,
  stage_encoded,
  frame_decoded,
  message_decoded,
  laid_decoded,
  listed_decoded,
  delivery_decoded,
  state_decoded,
  stage_decoded,
}

-- ---- from the memory

module _ (b : List ℕ) (size : length b ≡ node_size) (y : Bytes b) where
  layout_front : layout_bytes (layout_of b) ++ drop layout_size b ≡ b
  unfolding layout_bytes layout_of
  layout_front =
      rw (
        append_assoc,
        append_assoc,
        append_assoc,
        region_bytes listed_bytes listed_of 1 listed_encoded 128 index_at b (omega arith) y,
        region_bytes laid_bytes laid_of 5 laid_encoded 128 fields_at b (omega arith) y,
        region_bytes message_bytes message_of 16 message_encoded 32 messages_at b (omega arith) y,
        region_bytes frame_bytes frame_of 6 frame_encoded 32 frames_at b (omega arith) y,
      ) (bytes_front b 3 (omega arith))

  layout_bytes_lem : layout_bytes (layout_of b) ≡ take layout_size b
  layout_bytes_lem =
      let total : length (layout_bytes (layout_of b)) + (length b - layout_size) ≡ length b =
      rw (length-append, length-drop) at (ap length layout_front) in
      sym (take_at (layout_bytes (layout_of b)) (drop layout_size b) layout_size (omega arith)) ∙ ap (take layout_size) layout_front

  state_bytes_lem : state_bytes (state_of b) ≡ drop layout_size b
  unfolding state_bytes state_of
  state_bytes_lem =
      let last : List ℕ = cells stage_bytes (uncells stage_in 1 128 (drop stages_at b)) in
      let stages : last ≡ drop stages_at b =
      sym (append-nil last) ∙ ap (λ (l : List ℕ). last ++ l) (sym (drop_of_length-le b {i = node_size} (omega arith)))
      ∙ region_bytes stage_bytes stage_in 1 stage_encoded 128 stages_at b (omega arith) y in
      rw (
        stages,
        region_bytes message_state_bytes message_state_of state_size state_encoded 32 states_at b (omega arith) y,
      ) (region_bytes delivery_bytes delivery_of 33 delivery_encoded 32 deliveries_at b (omega arith) y)

  pub bytes_node : bytes_of (node_of b) ≡ b
  bytes_node = ap₂ (λ (l s : List ℕ). l ++ s) layout_bytes_lem state_bytes_lem ∙ take-append-drop layout_size b

module _ (a b : List ℕ) (size : length a ≡ node_size) (size' : length b ≡ node_size) (y : Bytes a) (y' : Bytes b) where
  -- two memories of one node are the same
  pub same_memory : node_of a ≡ node_of b → a ≡ b
  same_memory e = sym (bytes_node a size y) ∙ ap bytes_of e ∙ bytes_node b size' y'

  -- and those of one layout have it in the same bytes
  pub same_layout_bytes : layout_of a ≡ layout_of b → take layout_size a ≡ take layout_size b
  same_layout_bytes e = sym (layout_bytes_lem a size y) ∙ ap layout_bytes e ∙ layout_bytes_lem b size' y'

-- ---- from the node

pub node_bytes : (n : Node) → Shaped n → node_of (bytes_of n) ≡ n
unfolding layout_of state_of layout_bytes state_bytes
node_bytes n shaped =
    let l = n.layout in
    let s = n.state in
    let b : List ℕ = bytes_of n in
    let R7 : List ℕ = cells stage_bytes s.stages in
    let R6 : List ℕ = cells message_state_bytes s.messages ++ R7 in
    let R5 : List ℕ = cells delivery_bytes s.deliveries ++ R6 in
    let R4 : List ℕ = cells listed_bytes l.index ++ R5 in
    let R3 : List ℕ = cells laid_bytes l.fields ++ R4 in
    let R2 : List ℕ = cells message_bytes l.messages ++ R3 in
    let first : drop frames_at b ≡ cells frame_bytes l.frames ++ R2 = simp append_assoc in
    let frames = region_cells frame_bytes 6 frame_size frame_of 32 frames_at b l.frames R2 no_frame first shaped.frames (λ f h. frame_decoded _) in
    let messages =
    region_cells message_bytes 16 message_size message_of 32 messages_at b l.messages R3 no_message frames.1 shaped.messages
    (λ m h. message_decoded _ (shaped.words m h).0 (shaped.words m h).1) in
    let fields =
    region_cells laid_bytes 5 laid_size laid_of 128 fields_at b l.fields R4 not_laid messages.1 shaped.fields (λ d h. laid_decoded _) in
    let index = region_cells listed_bytes 1 listed_size listed_of 128 index_at b l.index R5 0 fields.1 shaped.index (λ i h. listed_decoded _) in
    let deliveries =
    region_cells delivery_bytes 33 delivery_size delivery_of 32 deliveries_at b s.deliveries R6 no_delivery index.1 shaped.deliveries
    (λ f h. delivery_decoded _ (shaped.bytes f h)) in
    let states =
    region_cells message_state_bytes state_size state_size_lem message_state_of 32 states_at b s.messages R7 no_state deliveries.1 shaped.states
    (λ m h. state_decoded _ (shaped.held m h)) in
    let stages =
    region_cells stage_bytes 1 stage_size stage_in 128 stages_at b s.stages [] no_stage (states.1 ∙ sym (append-nil R7)) shaped.stages
    (λ d h. stage_decoded _ (shaped.codes d h)) in
    rw (frames.0, messages.0, fields.0, index.0, deliveries.0, states.0, stages.0) refl
