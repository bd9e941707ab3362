-- What holds of a loaded node and of its calls, each by itself. Each line is a theorem; proofs/Claims.antt says where it is proved.
-- Assumes nothing.
use Rattle.std.specs.Prelude.{◌≡◌, true, false, not, cond, List, ◌↔◌, ℕ, ◌+◌, ◌<◌, length}
use Rattle.whole.specs.Whole.{all_of}
use Rattle.packing.specs.Places.{bit_at, unpacked, Outside}
use Rattle.packing.specs.Values.{value_of}
use Rattle.record.specs.declared.Field.{Field as FieldRecord}
use Rattle.store.specs.declared.Message.{Message}
use Rattle.store.specs.declared.MessageState.{MessageState}
use Rattle.store.specs.Node.{Node, message_count, is_signed, is_sent, is_valid, has_status_bit, is_event, held_value, frame_count, is_sent_frame}
use Rattle.store.specs.Node.{frame_at, message_at, laid_at, state_at}
use Rattle.start.specs.Start.{initial_value}
use Rattle.message.specs.Fields.{is_gone}
use Rattle.own.specs.declared.Owner.{Owner}
use Rattle.own.specs.Own.{is_in, cells_of}
use Rattle.own.specs.SoundLayout.{message_places, its_status_places}
use Rattle.node.specs.Calls.{suppressed, assemble_answer, assembled, flag_place, receive_answer}
use Rattle.node.specs.Load.{load_of}
use Rattle.node.specs.Sound.{IsStatus, Sound}

-- node n is at start with the layout file s; a flag is read into the caller's place, whatever p it held
pub record AtStart (s : List ℕ) (n : Node) : Type 0 where
  pub held : (m : ℕ) → m < message_count n.layout
      → held_value (message_at n.layout m) (state_at n.state m) ≡ initial_value s (n.layout.frame_number + m)
  pub received : (m : ℕ) → m < message_count n.layout → is_sent (message_at n.layout m) ≡ false → receive_answer n m ≡ 21
  pub sent : (m : ℕ) → m < message_count n.layout → is_sent (message_at n.layout m) ≡ true
      → is_valid (state_at n.state m) ≡ not (has_status_bit (message_at n.layout m))
  pub gone : all_of is_gone n.state.stages ≡ true
  pub flag : (m p : ℕ) → m < message_count n.layout → is_sent (message_at n.layout m) ≡ true → flag_place n m p ≡ 1

-- field d lies in frame f
abbrev pub InFrame : Node → ℕ → ℕ → Type 0
InFrame n f d = is_in d (cells_of n.layout (Owner.Frame f)) ≡ true

-- a field's message, and its state
abbrev pub field_message : Node → FieldRecord → Message
field_message n x = message_at n.layout x.message

abbrev pub field_state : Node → FieldRecord → MessageState
field_state n x = state_at n.state x.message

pub record Claims : Type 0 where
  -- At start each message holds its initial value, received ones have status 21, sent ones are invalid if they have a status bit and valid if not, and
  -- all fields are gone
  pub load_means : (n : Node) (s : List ℕ) → (load_of n s).answer ≡ 0 → AtStart s (load_of n s).node
  -- Assemble: an event frame with at least one field, all of whose messages are invalid, is suppressed, and no other
  pub suppressed_if : (n : Node) (f : ℕ) → (suppressed n f ≡ true) ↔ ((is_event (frame_at n.layout f) ≡ true)
      × ((d : ℕ) × InFrame n f d) × ((d : ℕ) → InFrame n f d → is_valid (field_state n (laid_at n.layout d)) ≡ false))
  -- and answers 23, if it is a sent frame of the layout and the buffer is of its length
  pub suppressed_answer : (n : Node) (f size : ℕ) → f < frame_count n.layout → is_sent_frame (frame_at n.layout f) ≡ true
      → size ≡ (frame_at n.layout f).length → assemble_answer n f size ≡ cond (suppressed n f) 23 0
  -- Otherwise each field writes the held value
  pub held_stands : (n : Node) → Sound n → (f : ℕ) (b : List ℕ) → assemble_answer n f (length b) ≡ 0 → (d : ℕ) → InFrame n f d
      → value_of (is_signed (field_message n (laid_at n.layout d))) (field_message n (laid_at n.layout d)).width
      (unpacked (message_places n.layout (laid_at n.layout d)) (assembled n f b))
      ≡ held_value (field_message n (laid_at n.layout d)) (field_state n (laid_at n.layout d))
  -- and, if present, its status bit: 1 means valid
  pub status_stands : (n : Node) → Sound n → (f : ℕ) (b : List ℕ) → assemble_answer n f (length b) ≡ 0 → (d : ℕ) → InFrame n f d
      → (laid_at n.layout d).status ≡ 1
      → unpacked (its_status_places n.layout (laid_at n.layout d)) (assembled n f b)
      ≡ cond (is_valid (field_state n (laid_at n.layout d))) 1 0
  -- all other bits stay
  pub other_bit : (n : Node) (f : ℕ) (b : List ℕ) (q : ℕ)
      → ((d : ℕ) → InFrame n f d
      → Outside q (message_places n.layout (laid_at n.layout d)) × Outside q (its_status_places n.layout (laid_at n.layout d)))
      → bit_at (assembled n f b) q ≡ bit_at b q
  -- What a receive answers of a received message is a status: 0, 20, 21 or 22
  pub received_status : (n : Node) → Sound n → (m : ℕ) → m < n.layout.message_number → is_sent (message_at n.layout m) ≡ false
      → IsStatus (receive_answer n m)
