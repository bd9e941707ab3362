-- The node, in two parts: what the layout says, which a load alone writes, and the state, which the calls change. Each part lies in the memory that
-- the caller lends in cells of fixed size, first the layout and then the state.
-- Every content of the memory is a node, so that a call has an outcome whatever it finds there.
-- Assumes nothing.
use Rattle.std.specs.Prelude.{◌≡◌, Bool, not, List, [], ◌∷◌, ◌++◌, ℕ, zero, suc, ◌+◌, ◌*◌, ◌/◌, ◌%◌, ◌^◌, ◌<◌, min, eqb, ℤ, length, get_or, set, take, drop, replicate}
use Rattle.std.proofs.Math.Seq.{paste}
use Rattle.whole.specs.Whole.{word}
use Rattle.packing.specs.Values.{value_of}
use Rattle.record.specs.declared.Field.{Field as FieldRecord}
use Rattle.layout.specs.declared.Counts.{Counts}
use Rattle.store.specs.Memory.{part, cells, uncells}
use Rattle.store.specs.declared.Stage.{Stage}
use Rattle.store.specs.declared.Stage.TheVariants.{Waiting, Loaded, Gone}
use Rattle.store.specs.declared.Frame.{Frame}
use Rattle.store.specs.declared.Message.{Message}
use Rattle.store.specs.declared.MessageState.{MessageState}
use Rattle.store.specs.declared.Field.{Field}

-- ---- the node

-- what the layout says; cells past a count are no frames, messages or fields. A field is as its record says, and the index has the fields' numbers
-- frame by frame, so that a frame's fields are a run of the index as a message's are a run of the fields
pub record Layout : Type 0 where
  pub frame_number : ℕ
  pub message_number : ℕ
  pub field_number : ℕ
  pub frames : List Frame
  pub messages : List Message
  pub fields : List FieldRecord
  pub index : List ℕ

-- whether a frame was delivered this round, and the 32 bytes that hold the delivery
pub record Delivery : Type 0 where
  pub delivered : ℕ
  pub bytes : List ℕ

-- what calls change: the deliveries of the frames, the states of the messages and the stages of the fields
pub record State : Type 0 where
  pub deliveries : List Delivery
  pub messages : List MessageState
  pub stages : List Stage

-- a node is both
pub record Node : Type 0 where
  pub layout : Layout
  pub state : State

-- how many there are, and never more than there are cells
abbrev pub counts_of : Layout → Counts
counts_of l = record { frames = min l.frame_number 32; messages = min l.message_number 32; fields = min l.field_number 128 }

abbrev pub frame_count : Layout → ℕ
frame_count l = (counts_of l).frames

abbrev pub message_count : Layout → ℕ
message_count l = (counts_of l).messages

-- ---- what the bytes of a cell say, in the paper's words

abbrev pub is_signed : Message → Bool
is_signed g = eqb g.sign 1

abbrev pub is_float : Message → Bool
is_float g = eqb g.sign 2

abbrev pub is_sent : Message → Bool
is_sent g = eqb g.direction 1

abbrev pub has_status_bit : Message → Bool
has_status_bit g = not (eqb g.statusbit 0)

abbrev pub is_big : Frame → Bool
is_big h = eqb h.order 1

abbrev pub is_sent_frame : Frame → Bool
is_sent_frame h = eqb h.direction 1

abbrev pub is_event : Frame → Bool
is_event h = eqb h.trigger 1

abbrev pub is_delivered : Delivery → Bool
is_delivered y = not (eqb y.delivered 0)

abbrev pub is_valid : MessageState → Bool
is_valid s = not (eqb s.valid 0)

-- the value that message g holds: a state has it as its 32-bit pattern
abbrev pub held_value : Message → MessageState → ℤ
held_value g s = value_of (is_signed g) 32 s.held

-- a byte other than 0 and 1 is a stage too, gone, so that every byte is one
abbrev pub stage_of : ℕ → Stage
stage_of zero = Waiting
stage_of (suc zero) = Loaded
stage_of (suc (suc k)) = Gone (suc (suc k))

abbrev pub code_of : Stage → ℕ
code_of Waiting = 0
code_of Loaded = 1
code_of (Gone k) = k

-- ---- cells of the layout

-- the word at byte k of a cell, little-endian, and a word's four bytes before others
abbrev pub word_in : List ℕ → ℕ → ℕ
word_in c k = word (get_or c k 0) (get_or c (k + 1) 0) (get_or c (k + 2) 0) (get_or c (k + 3) 0)

abbrev pub word_then : ℕ → List ℕ → List ℕ
word_then x l = x % 256 ∷ x / 256 % 256 ∷ x / 256 / 256 % 256 ∷ x / 256 / 256 / 256 % 256 ∷ l

-- a frame's cell: 6 bytes
unfoldable pub frame_of : List ℕ → Frame
frame_of c =
    record { length = get_or c 0 0; order = get_or c 1 0; direction = get_or c 2 0; trigger = get_or c 3 0; first = get_or c 4 0; fields = get_or c 5 0 }

unfoldable pub frame_bytes : Frame → List ℕ
frame_bytes h = h.length ∷ h.order ∷ h.direction ∷ h.trigger ∷ h.first ∷ h.fields ∷ []

-- a message's cell: 8 bytes and 2 words
unfoldable pub message_of : List ℕ → Message
message_of c =
    record {
      width = get_or c 0 0;
      sign = get_or c 1 0;
      direction = get_or c 2 0;
      agreement = get_or c 3 0;
      filter = get_or c 4 0;
      statusbit = get_or c 5 0;
      first = get_or c 6 0;
      fields = get_or c 7 0;
      x1 = word_in c 8;
      x2 = word_in c 12;
    }

unfoldable pub message_bytes : Message → List ℕ
message_bytes g =
    g.width ∷ g.sign ∷ g.direction ∷ g.agreement ∷ g.filter ∷ g.statusbit ∷ g.first ∷ g.fields
    ∷ word_then g.x1 (word_then g.x2 [])

-- a field's cell: the 5 bytes of its record
unfoldable pub laid_of : List ℕ → FieldRecord
laid_of c = record { message = get_or c 0 0; frame = get_or c 1 0; start = get_or c 2 0; status = get_or c 3 0; place = get_or c 4 0 }

unfoldable pub laid_bytes : FieldRecord → List ℕ
laid_bytes x = x.message ∷ x.frame ∷ x.start ∷ x.status ∷ x.place ∷ []

-- a cell of the index: 1 byte
unfoldable pub listed_of : List ℕ → ℕ
listed_of c = get_or c 0 0

unfoldable pub listed_bytes : ℕ → List ℕ
listed_bytes d = d ∷ []

-- ---- cells of the state

-- a delivery's cell: 1 byte and 32 of data
unfoldable pub delivery_of : List ℕ → Delivery
delivery_of c = record { delivered = get_or c 0 0; bytes = drop 1 c }

unfoldable pub delivery_bytes : Delivery → List ℕ
delivery_bytes y = y.delivered ∷ take 32 (y.bytes ++ replicate 32 0)

-- a message's state: 2 bytes and a word
unfoldable pub message_state_of : List ℕ → MessageState
message_state_of c = record { valid = get_or c 0 0; status = get_or c 1 0; held = word_in c 2 }

unfoldable pub message_state_bytes : MessageState → List ℕ
message_state_bytes s = s.valid ∷ s.status ∷ word_then s.held []

-- a field's stage: 1 byte
unfoldable pub stage_in : List ℕ → Stage
stage_in c = stage_of (get_or c 0 0)

unfoldable pub stage_bytes : Stage → List ℕ
stage_bytes t = code_of t ∷ []

-- ---- the memory: 3 + 32 * 6 + 32 * 16 + 128 * 5 + 128 bytes of layout, then 32 * 33 + 32 * 6 + 128 of state

abbrev pub frames_at : ℕ
frames_at = 3

abbrev pub messages_at : ℕ
messages_at = 195

abbrev pub fields_at : ℕ
fields_at = 707

abbrev pub index_at : ℕ
index_at = 1347

abbrev pub layout_size : ℕ
layout_size = 1475

abbrev pub deliveries_at : ℕ
deliveries_at = 1475

abbrev pub states_at : ℕ
states_at = 2531

abbrev pub state_size : ℕ
state_size = 6

abbrev pub stages_at : ℕ
stages_at = states_at + 32 * state_size

abbrev pub node_size : ℕ
node_size = stages_at + 128

-- what the memory says: the layout, the state, and the node
unfoldable pub layout_of : List ℕ → Layout
layout_of b =
    record {
      frame_number = get_or b 0 0;
      message_number = get_or b 1 0;
      field_number = get_or b 2 0;
      frames = uncells frame_of 6 32 (drop frames_at b);
      messages = uncells message_of 16 32 (drop messages_at b);
      fields = uncells laid_of 5 128 (drop fields_at b);
      index = uncells listed_of 1 128 (drop index_at b);
    }

unfoldable pub state_of : List ℕ → State
state_of b =
    record {
      deliveries = uncells delivery_of 33 32 (drop deliveries_at b);
      messages = uncells message_state_of state_size 32 (drop states_at b);
      stages = uncells stage_in 1 128 (drop stages_at b);
    }

abbrev pub node_of : List ℕ → Node
node_of b = record { layout = layout_of b; state = state_of b }

-- and the bytes of each
unfoldable pub layout_bytes : Layout → List ℕ
layout_bytes l =
    l.frame_number ∷ l.message_number ∷ l.field_number
    ∷ cells frame_bytes l.frames ++ (cells message_bytes l.messages ++ (cells laid_bytes l.fields ++ cells listed_bytes l.index))

unfoldable pub state_bytes : State → List ℕ
state_bytes s = cells delivery_bytes s.deliveries ++ (cells message_state_bytes s.messages ++ cells stage_bytes s.stages)

abbrev pub bytes_of : Node → List ℕ
bytes_of n = layout_bytes n.layout ++ state_bytes n.state

-- the 32 bytes of memory in which the data of frame f lie, and the eight behind them, which are not the frame's
unfoldable pub room_of : List ℕ → ℕ → List ℕ
room_of b f = part b (deliveries_at + f * 33 + 1) 40

-- ---- a cell by its number

-- what stands past the last cell of a region
abbrev pub no_frame : Frame
no_frame = record { length = 0; order = 0; direction = 0; trigger = 0; first = 0; fields = 0 }

abbrev pub no_message : Message
no_message =
    record { width = 0; sign = 0; direction = 0; agreement = 0; filter = 0; statusbit = 0; first = 0; fields = 0; x1 = 0; x2 = 0 }

abbrev pub not_laid : FieldRecord
not_laid = record { message = 0; frame = 0; start = 0; status = 0; place = 0 }

abbrev pub no_delivery : Delivery
no_delivery = record { delivered = 0; bytes = replicate 32 0 }

abbrev pub no_state : MessageState
no_state = record { valid = 0; status = 0; held = 0 }

abbrev pub no_stage : Stage
no_stage = Gone 2

-- frame f, message m, field d as its record says
abbrev pub frame_at : Layout → ℕ → Frame
frame_at l f = get_or l.frames f no_frame

abbrev pub message_at : Layout → ℕ → Message
message_at l m = get_or l.messages m no_message

abbrev pub laid_at : Layout → ℕ → FieldRecord
laid_at l d = get_or l.fields d not_laid

-- the number of the field at place i of the index
abbrev pub listed_at : Layout → ℕ → ℕ
listed_at l i = get_or l.index i 0

-- the delivery of frame f, the state of message m, the stage of field d
abbrev pub delivery_at : State → ℕ → Delivery
delivery_at s f = get_or s.deliveries f no_delivery

abbrev pub state_at : State → ℕ → MessageState
state_at s m = get_or s.messages m no_state

abbrev pub stage_at : State → ℕ → Stage
stage_at s d = get_or s.stages d no_stage

-- a field is what its record says, and its stage
abbrev pub field_at : Node → ℕ → Field
field_at n d = record { laid = laid_at n.layout d; stage = stage_at n.state d }

-- the data of frame f: as many of the delivery's bytes as the frame is long
abbrev pub data_at : Node → ℕ → List ℕ
data_at n f = take (frame_at n.layout f).length (delivery_at n.state f).bytes

-- ---- changes

-- a message's state with another validity, status and held value
abbrev pub with_valid : ℕ → MessageState → MessageState
with_valid k s = record { valid = k; status = s.status; held = s.held }

abbrev pub with_status : ℕ → MessageState → MessageState
with_status k s = record { valid = s.valid; status = k; held = s.held }

abbrev pub with_held : ℕ → MessageState → MessageState
with_held x s = record { valid = s.valid; status = s.status; held = x }

-- a delivery with k for whether it came this round, and one with other data over its own
abbrev pub marked : ℕ → Delivery → Delivery
marked k y = record { delivered = k; bytes = y.bytes }

abbrev pub filled : Delivery → List ℕ → Delivery
filled y d = record { delivered = y.delivered; bytes = paste y.bytes 0 d (length d) }

-- the state with other lists, and with one cell replaced
abbrev pub with_deliveries : State → List Delivery → State
with_deliveries s l = record { deliveries = l; messages = s.messages; stages = s.stages }

abbrev pub with_states : State → List MessageState → State
with_states s l = record { deliveries = s.deliveries; messages = l; stages = s.stages }

abbrev pub with_stages : State → List Stage → State
with_stages s l = record { deliveries = s.deliveries; messages = s.messages; stages = l }

abbrev pub with_delivery : State → ℕ → Delivery → State
with_delivery s f y = with_deliveries s (set s.deliveries f y)

abbrev pub with_state : State → ℕ → MessageState → State
with_state s m t = with_states s (set s.messages m t)

abbrev pub with_stage : State → ℕ → Stage → State
with_stage s d t = with_stages s (set s.stages d t)

-- the node with another state: the layout is the same
abbrev pub node_with : Node → State → Node
node_with n s = record { layout = n.layout; state = s }

-- ---- what the memory can hold

-- a stage whose byte says that stage: it is read back as it was written
abbrev pub StoredStage : Stage → Type 0
StoredStage t = stage_of (code_of t) ≡ t

-- a node with a cell for each place, each of which is read back as it was written
pub record Shaped (n : Node) : Type 0 where
  pub frames : length n.layout.frames ≡ 32
  pub messages : length n.layout.messages ≡ 32
  pub fields : length n.layout.fields ≡ 128
  pub index : length n.layout.index ≡ 128
  pub words : (m : ℕ) → m < 32 → ((message_at n.layout m).x1 < 2 ^ 32) × ((message_at n.layout m).x2 < 2 ^ 32)
  pub deliveries : length n.state.deliveries ≡ 32
  pub bytes : (f : ℕ) → f < 32 → length (delivery_at n.state f).bytes ≡ 32
  pub states : length n.state.messages ≡ 32
  pub held : (m : ℕ) → m < 32 → (state_at n.state m).held < 2 ^ 32
  pub stages : length n.state.stages ≡ 128
  pub codes : (d : ℕ) → d < 128 → StoredStage (stage_at n.state d)
