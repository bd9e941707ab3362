-- Where the node's cells lie: the region law at its seven regions. A cell is read from its place in the memory, and a write there is the node with
-- that one element replaced: the other part of the node lies elsewhere, and so do the other regions of its own part.
-- Assumes nothing.
use mathlib.Core.Path.{◌≡◌, refl, ap, sym, ◌∙◌}
use mathlib.Core.List.{List, [], ◌∷◌}
use mathlib.Core.Logic.{inl, inr}
use Prim.Native.Nat.{ℕ, ◌+◌, ◌*◌, ◌≤◌, ◌<◌, min}
use native.Mathlib.Numerals.{add-one}
use native.Mathlib.Omega.{arith}
use lib.ListN.{length, get_or, set, take, drop}
use lib.Seq.{set_split, take-take}
use Rattle.record.specs.declared.Field.{Field as FieldRecord}
use Rattle.store.specs.declared.Frame.{Frame}
use Rattle.store.specs.declared.Message.{Message}
use Rattle.store.specs.declared.MessageState.{MessageState}
use Rattle.store.specs.declared.Stage.{Stage}
use Rattle.store.specs.Memory.{part, overwritten}
use Rattle.store.specs.Node.{
  Layout,
  State,
  Delivery,
  stage_of,
  frame_of,
  message_of,
  laid_of,
  listed_of,
  delivery_of,
  message_state_of,
  stage_in,
  frames_at,
  messages_at,
  fields_at,
  index_at,
  layout_size,
  deliveries_at,
  states_at,
  state_size,
  stages_at,
  node_size,
  layout_of,
  state_of,
  node_of,
  room_of,
  no_frame,
  no_message,
  not_laid,
  no_delivery,
  no_state,
  no_stage,
  frame_at,
  message_at,
  laid_at,
  listed_at,
  delivery_at,
  state_at,
  stage_at,
  data_at,
  with_delivery,
  with_state,
  with_stage,
  node_with,
}
use Rattle.store.specs.Writing.{with_numbers, with_frames, with_messages, with_fields, with_index, with_frame, with_message, with_laid, with_listed}
use Rattle.store.proofs.Parts.{Apart, part_first, part_within, length_part, byte_stays}
use Rattle.store.proofs.Regions.{region, cell_read, cell_written, region_stays}
use Rattle.store.proofs.Cells.{delivery_data}

-- ---- the regions

abbrev frames : List ℕ → List Frame
frames = region frame_of 6 32 frames_at

abbrev messages : List ℕ → List Message
messages = region message_of 16 32 messages_at

abbrev fields : List ℕ → List FieldRecord
fields = region laid_of 5 128 fields_at

abbrev index : List ℕ → List ℕ
index = region listed_of 1 128 index_at

abbrev deliveries : List ℕ → List Delivery
deliveries = region delivery_of 33 32 deliveries_at

abbrev states : List ℕ → List MessageState
states = region message_state_of state_size 32 states_at

abbrev stages : List ℕ → List Stage
stages = region stage_in 1 128 stages_at

-- ---- reading

-- a cell of one byte
byte_cell : (b : List ℕ) (base k : ℕ) → get_or (part b (base + k * 1) 1) 0 0 ≡ get_or b (base + k) 0
byte_cell b base k = let e : base + k * 1 ≡ base + k = omega arith in rw e (part_first b (base + k) 1 (omega arith))

module _ (b : List ℕ) where
  pub frame_read : (f : ℕ) → f < 32 → frame_at (layout_of b) f ≡ frame_of (part b (frames_at + f * 6) 6)
  unfolding layout_of
  frame_read f h = cell_read frame_of 6 32 frames_at b f no_frame h

  pub message_read : (m : ℕ) → m < 32 → message_at (layout_of b) m ≡ message_of (part b (messages_at + m * 16) 16)
  unfolding layout_of
  message_read m h = cell_read message_of 16 32 messages_at b m no_message h

  pub laid_read : (d : ℕ) → d < 128 → laid_at (layout_of b) d ≡ laid_of (part b (fields_at + d * 5) 5)
  unfolding layout_of
  laid_read d h = cell_read laid_of 5 128 fields_at b d not_laid h

  pub listed_read : (i : ℕ) → i < 128 → listed_at (layout_of b) i ≡ get_or b (index_at + i) 0
  unfolding layout_of listed_of
  listed_read i h = cell_read listed_of 1 128 index_at b i 0 h ∙ byte_cell b index_at i

  pub delivery_read : (f : ℕ) → f < 32 → delivery_at (state_of b) f ≡ delivery_of (part b (deliveries_at + f * 33) 33)
  unfolding state_of
  delivery_read f h = cell_read delivery_of 33 32 deliveries_at b f no_delivery h

  pub state_read : (m : ℕ) → m < 32 → state_at (state_of b) m ≡ message_state_of (part b (states_at + m * state_size) state_size)
  unfolding state_of
  state_read m h = cell_read message_state_of state_size 32 states_at b m no_state h

  pub stage_read : (d : ℕ) → d < 128 → stage_at (state_of b) d ≡ stage_of (get_or b (stages_at + d) 0)
  unfolding state_of stage_in
  stage_read d h = cell_read stage_in 1 128 stages_at b d no_stage h ∙ ap stage_of (byte_cell b stages_at d)

  -- the first byte of a frame's cell is its length, and that of a delivery's says whether it came
  length_read : (f : ℕ) → f < 32 → (frame_at (layout_of b) f).length ≡ get_or b (frames_at + f * 6) 0
  unfolding frame_of
  length_read f h = ap (λ (x : Frame). x.length) (frame_read f h) ∙ part_first b (frames_at + f * 6) 6 (omega arith)

  pub mark_read : (f : ℕ) → f < 32 → (delivery_at (state_of b) f).delivered ≡ get_or b (deliveries_at + f * 33) 0
  unfolding delivery_of
  mark_read f h = ap (λ (y : Delivery). y.delivered) (delivery_read f h) ∙ part_first b (deliveries_at + f * 33) 33 (omega arith)

  module _ (size : length b ≡ node_size) where
    -- the data of a frame lie in its delivery's cell, and are no longer than 32 bytes
    pub data_read : (f : ℕ) → f < 32 → data_at (node_of b) f ≡ part b (deliveries_at + f * 33 + 1) (min (get_or b (frames_at + f * 6) 0) 32)
    data_read f h =
        let at : ℕ = deliveries_at + f * 33 in
        let k : ℕ = get_or b (frames_at + f * 6) 0 in
        rw (length_read f h, delivery_read f h) (delivery_data (part b at 33) k (length_part b at 33 (omega arith)))
        ∙ part_within b at 33 1 (min k 32) (omega arith) (omega arith)

    -- and the room that they lie in goes on behind them
    pub room_length : (f : ℕ) → f < 32 → length (room_of b f) ≡ 40
    unfolding room_of
    room_length f h = length_part b (deliveries_at + f * 33 + 1) 40 (omega arith)

    pub data_in_room : (f : ℕ) → f < 32 → take (min (frame_at (layout_of b) f).length 32) (room_of b f) ≡ data_at (node_of b) f
    unfolding room_of
    data_in_room f h =
        let k : ℕ = get_or b (frames_at + f * 6) 0 in
        rw (length_read f h) (take-take (min k 32) 40 (drop (deliveries_at + f * 33 + 1) b) (omega arith)) ∙ sym (data_read f h)

-- ---- what a write leaves

-- bytes that are written into a memory
record Write (b : List ℕ) : Type 0 where
  at : ℕ
  size : ℕ
  bytes : List ℕ
  inside : at + size ≤ length b
  sized : length bytes ≡ size

module _ {b : List ℕ} (w : Write b) where
  abbrev new : List ℕ
  new = overwritten b w.at w.size w.bytes

  stays : {A : Type 0} (decode : List ℕ → A) (s n base : ℕ) → Apart base (n * s) w.at w.size
      → region decode s n base new ≡ region decode s n base b
  stays decode s n base = region_stays decode s n base b w.at w.size w.bytes w.inside w.sized

  frames_stay : Apart frames_at (32 * 6) w.at w.size → frames new ≡ frames b
  frames_stay = stays frame_of 6 32 frames_at

  messages_stay : Apart messages_at (32 * 16) w.at w.size → messages new ≡ messages b
  messages_stay = stays message_of 16 32 messages_at

  fields_stay : Apart fields_at (128 * 5) w.at w.size → fields new ≡ fields b
  fields_stay = stays laid_of 5 128 fields_at

  index_stays : Apart index_at (128 * 1) w.at w.size → index new ≡ index b
  index_stays = stays listed_of 1 128 index_at

  deliveries_stay : Apart deliveries_at (32 * 33) w.at w.size → deliveries new ≡ deliveries b
  deliveries_stay = stays delivery_of 33 32 deliveries_at

  states_stay : Apart states_at (32 * state_size) w.at w.size → states new ≡ states b
  states_stay = stays message_state_of state_size 32 states_at

  stages_stay : Apart stages_at (128 * 1) w.at w.size → stages new ≡ stages b
  stages_stay = stays stage_in 1 128 stages_at

  -- the layout by its lists, where its numbers are not written
  layout_by_lists : frames_at ≤ w.at → {F : List Frame} {M : List Message} {D : List FieldRecord} {I : List ℕ} → frames new ≡ F → messages new ≡ M
      → fields new ≡ D → index new ≡ I → layout_of new ≡ with_frames (with_messages (with_fields (with_index (layout_of b) I) D) M) F
  unfolding layout_of
  layout_by_lists behind F M D I =
      let number = byte_stays b w.at w.size w.bytes w.inside w.sized in
      cc (number 0 (omega arith), number 1 (omega arith), number 2 (omega arith), F, M, D, I)

  layout_stays : layout_size ≤ w.at → layout_of new ≡ layout_of b
  unfolding layout_of
  layout_stays h =
      layout_by_lists (omega arith) (frames_stay (inl (omega arith))) (messages_stay (inl (omega arith))) (fields_stay (inl (omega arith)))
      (index_stays (inl (omega arith)))

  state_stays : w.at + w.size ≤ layout_size → state_of new ≡ state_of b
  unfolding state_of
  state_stays h = cc (deliveries_stay (inr (omega arith)), states_stay (inr (omega arith)), stages_stay (inr (omega arith)))

  -- a write into one part leaves the other
  in_layout : w.at + w.size ≤ layout_size → {l : Layout} → layout_of new ≡ l → node_of new ≡ record { layout = l; state = state_of b }
  in_layout h e = cc (e, state_stays h)

  in_state : layout_size ≤ w.at → {s : State} → state_of new ≡ s → node_of new ≡ node_with (node_of b) s
  in_state h e = cc (e, layout_stays h)

-- ---- writing

-- a cell of one byte
byte_over : (b : List ℕ) (base k v : ℕ) → base + k < length b → set b (base + k) v ≡ overwritten b (base + k * 1) 1 (v ∷ [])
byte_over b base k v h = let e : base + k * 1 ≡ base + k = omega arith in rw (e, add-one) (set_split b (base + k) v h)

module _ (b : List ℕ) (size : length b ≡ node_size) where
  pub numbers_written : (F M D : ℕ)
      → node_of (overwritten b 0 3 (F ∷ M ∷ D ∷ [])) ≡ record { layout = with_numbers (layout_of b) F M D; state = state_of b }
  unfolding layout_of
  numbers_written F M D =
      let w : Write b = record { at = 0; size = 3; bytes = F ∷ M ∷ D ∷ []; inside = omega arith; sized = refl } in
      in_layout w (omega arith)
      (cc (
        frames_stay w (inr (omega arith)),
        messages_stay w (inr (omega arith)),
        fields_stay w (inr (omega arith)),
        index_stays w (inr (omega arith)),
      ))

  pub frame_written : (f : ℕ) (c : List ℕ) → f < 32 → length c ≡ 6
      → node_of (overwritten b (frames_at + f * 6) 6 c) ≡ record { layout = with_frame (layout_of b) f (frame_of c); state = state_of b }
  unfolding layout_of
  frame_written f c h e =
      let w : Write b = record { at = frames_at + f * 6; size = 6; bytes = c; inside = omega arith; sized = e } in
      in_layout w (omega arith)
      (layout_by_lists w (omega arith) (cell_written frame_of 6 32 frames_at b f c (omega arith) h e) (messages_stay w (inr (omega arith)))
      (fields_stay w (inr (omega arith))) (index_stays w (inr (omega arith))))

  pub message_written : (m : ℕ) (c : List ℕ) → m < 32 → length c ≡ 16
      → node_of (overwritten b (messages_at + m * 16) 16 c) ≡ record { layout = with_message (layout_of b) m (message_of c); state = state_of b }
  unfolding layout_of
  message_written m c h e =
      let w : Write b = record { at = messages_at + m * 16; size = 16; bytes = c; inside = omega arith; sized = e } in
      in_layout w (omega arith)
      (layout_by_lists w (omega arith) (frames_stay w (inl (omega arith))) (cell_written message_of 16 32 messages_at b m c (omega arith) h e)
      (fields_stay w (inr (omega arith))) (index_stays w (inr (omega arith))))

  pub laid_written : (d : ℕ) (c : List ℕ) → d < 128 → length c ≡ 5
      → node_of (overwritten b (fields_at + d * 5) 5 c) ≡ record { layout = with_laid (layout_of b) d (laid_of c); state = state_of b }
  unfolding layout_of
  laid_written d c h e =
      let w : Write b = record { at = fields_at + d * 5; size = 5; bytes = c; inside = omega arith; sized = e } in
      in_layout w (omega arith)
      (layout_by_lists w (omega arith) (frames_stay w (inl (omega arith))) (messages_stay w (inl (omega arith)))
      (cell_written laid_of 5 128 fields_at b d c (omega arith) h e) (index_stays w (inr (omega arith))))

  pub listed_written : (i d : ℕ) → i < 128 → node_of (set b (index_at + i) d) ≡ record { layout = with_listed (layout_of b) i d; state = state_of b }
  unfolding layout_of listed_of
  listed_written i d h =
      let w : Write b = record { at = index_at + i * 1; size = 1; bytes = d ∷ []; inside = omega arith; sized = refl } in
      ap node_of (byte_over b index_at i d (omega arith))
      ∙ in_layout w (omega arith)
      (layout_by_lists w (omega arith) (frames_stay w (inl (omega arith))) (messages_stay w (inl (omega arith))) (fields_stay w (inl (omega arith)))
      (cell_written listed_of 1 128 index_at b i (d ∷ []) (omega arith) h refl))

  pub delivery_written : (f : ℕ) (c : List ℕ) → f < 32 → length c ≡ 33
      → node_of (overwritten b (deliveries_at + f * 33) 33 c) ≡ node_with (node_of b) (with_delivery (state_of b) f (delivery_of c))
  unfolding state_of
  delivery_written f c h e =
      let w : Write b = record { at = deliveries_at + f * 33; size = 33; bytes = c; inside = omega arith; sized = e } in
      in_state w (omega arith)
      (cc (cell_written delivery_of 33 32 deliveries_at b f c (omega arith) h e, states_stay w (inr (omega arith)), stages_stay w (inr (omega arith))))

  pub state_written : (m : ℕ) (c : List ℕ) → m < 32 → length c ≡ state_size
      → node_of (overwritten b (states_at + m * state_size) state_size c) ≡ node_with (node_of b) (with_state (state_of b) m (message_state_of c))
  unfolding state_of
  state_written m c h e =
      let w : Write b = record { at = states_at + m * state_size; size = state_size; bytes = c; inside = omega arith; sized = e } in
      in_state w (omega arith)
      (cc (
        deliveries_stay w (inl (omega arith)),
        cell_written message_state_of state_size 32 states_at b m c (omega arith) h e,
        stages_stay w (inr (omega arith)),
      ))

  pub stage_written : (d v : ℕ) → d < 128 → node_of (set b (stages_at + d) v) ≡ node_with (node_of b) (with_stage (state_of b) d (stage_of v))
  unfolding state_of stage_in
  stage_written d v h =
      let w : Write b = record { at = stages_at + d * 1; size = 1; bytes = v ∷ []; inside = omega arith; sized = refl } in
      ap node_of (byte_over b stages_at d v (omega arith))
      ∙ in_state w (omega arith)
      (cc (
        deliveries_stay w (inl (omega arith)),
        states_stay w (inl (omega arith)),
        cell_written stage_in 1 128 stages_at b d (v ∷ []) (omega arith) h refl,
      ))
