-- What holds of the node of any memory: it has a cell for each place, and each cell is one that is read back as it was written.
-- Assumes nothing.
use mathlib.Core.Path.{◌≡◌, refl}
use mathlib.Core.List.{List}
use Prim.Native.Nat.{ℕ, ◌+◌, ◌*◌, ◌^◌, ◌<◌}
use native.Mathlib.Decide.{dec_lt}
use native.Mathlib.Omega.{arith}
use lib.ListN.{length, get_or, length-drop, get_or-eq_default}
use Rattle.whole.specs.Whole.{Bytes}
use Rattle.store.specs.Memory.{part}
use Rattle.store.specs.declared.Message.{Message}
use Rattle.store.specs.declared.MessageState.{MessageState}
use Rattle.store.specs.Node.{
  StoredStage,
  Shaped,
  frame_of,
  message_of,
  laid_of,
  listed_of,
  delivery_of,
  message_state_of,
  stage_in,
  frames_at,
  messages_at,
  fields_at,
  index_at,
  deliveries_at,
  states_at,
  state_size,
  stages_at,
  node_size,
  layout_of,
  state_of,
  node_of,
  no_message,
  no_state,
  no_stage,
  message_at,
  state_at,
  stage_at,
}
use Rattle.store.proofs.Parts.{length_part, bytes_part}
use Rattle.store.proofs.Regions.{region, length_region, cell_read}
use Rattle.store.proofs.Cells.{words_fit, held_fits, stage_fits}
use Rattle.store.proofs.Places.{delivery_read}

-- what holds of each cell, and of what stands past the last, holds wherever the region is read
anywhere : {A : Type 0} (P : A → Type 0) (decode : List ℕ → A) (s n base : ℕ) (b : List ℕ) (d : A) (k : ℕ) → P d
    → P (decode (part b (base + k * s) s)) → P (get_or (region decode s n base b) k d)
anywhere P decode s n base b d k none some = go (dec_lt k n)
  where
    go : Dec (k < n) → P (get_or (region decode s n base b) k d)
    go (yes h) = rw (cell_read decode s n base b k d h) some
    go (no h) = rw (get_or-eq_default (region decode s n base b) d {n = k} (rw length_region (omega arith))) none

module _ (b : List ℕ) where
  pub frames_length : length (layout_of b).frames ≡ 32
  unfolding layout_of
  frames_length = length_region frame_of 6 32 frames_at b

  pub messages_length : length (layout_of b).messages ≡ 32
  unfolding layout_of
  messages_length = length_region message_of 16 32 messages_at b

  pub fields_length : length (layout_of b).fields ≡ 128
  unfolding layout_of
  fields_length = length_region laid_of 5 128 fields_at b

  pub index_length : length (layout_of b).index ≡ 128
  unfolding layout_of
  index_length = length_region listed_of 1 128 index_at b

  pub deliveries_length : length (state_of b).deliveries ≡ 32
  unfolding state_of
  deliveries_length = length_region delivery_of 33 32 deliveries_at b

  pub states_length : length (state_of b).messages ≡ 32
  unfolding state_of
  states_length = length_region message_state_of state_size 32 states_at b

  pub stages_length : length (state_of b).stages ≡ 128
  unfolding state_of
  stages_length = length_region stage_in 1 128 stages_at b

  pub stage_stored : (d : ℕ) → StoredStage (stage_at (state_of b) d)
  unfolding state_of
  stage_stored d = anywhere StoredStage stage_in 1 128 stages_at b no_stage d refl (stage_fits (part b (stages_at + d * 1) 1))

  module _ (y : Bytes b) where
    words_below : (m : ℕ) → ((message_at (layout_of b) m).x1 < 2 ^ 32) × ((message_at (layout_of b) m).x2 < 2 ^ 32)
    unfolding layout_of
    words_below m =
        anywhere (λ (g : Message). (g.x1 < 2 ^ 32) × (g.x2 < 2 ^ 32)) message_of 16 32 messages_at b no_message m (omega arith, omega arith)
        (words_fit (part b (messages_at + m * 16) 16) (bytes_part b (messages_at + m * 16) 16 y))

    held_below : (m : ℕ) → (state_at (state_of b) m).held < 2 ^ 32
    unfolding state_of
    held_below m =
        anywhere (λ (s : MessageState). s.held < 2 ^ 32) message_state_of state_size 32 states_at b no_state m (omega arith)
        (held_fits (part b (states_at + m * state_size) state_size) (bytes_part b (states_at + m * state_size) state_size y))

    pub node_shaped : length b ≡ node_size → Shaped (node_of b)
    unfolding delivery_of
    node_shaped size =
        record {
          frames = frames_length;
          messages = messages_length;
          fields = fields_length;
          index = index_length;
          words = λ m h. words_below m;
          deliveries = deliveries_length;
          bytes =
              λ f h.
              let cell : length (part b (deliveries_at + f * 33) 33) ≡ 33 = length_part b (deliveries_at + f * 33) 33 (omega arith) in
              rw (delivery_read b f h, length-drop) (omega arith);
          states = states_length;
          held = λ m h. held_below m;
          stages = stages_length;
          codes = λ d h. stage_stored d;
        }
