-- What holds of every node that a load makes and every call keeps. No call asks for it: it is what makes the outcomes mean what the paper says.
-- Assumes nothing.
use Rattle.std.specs.Prelude.{◌≡◌, true, false, ◌⊎◌, ℕ, ◌^◌, ◌<◌, ◌≤◌, length, get_or}
use Rattle.store.specs.declared.Stage.{Stage}
use Rattle.store.specs.declared.Stage.TheVariants.{Waiting, Loaded, Gone}
use Rattle.store.specs.declared.Frame.{Frame}
use Rattle.store.specs.declared.Message.{Message}
use Rattle.store.specs.declared.MessageState.{MessageState}
use Rattle.store.specs.Node.{Layout, Delivery, State, Node, is_sent, has_status_bit, is_sent_frame, is_delivered, is_valid}
use Rattle.store.specs.Node.{held_value}
use Rattle.store.specs.Node.{frame_at, message_at, laid_at, delivery_at, state_at, stage_at, no_delivery, no_state, no_stage}
use Rattle.message.specs.Messages.{can_hold}
use Rattle.own.specs.SoundLayout.{SoundLayout}

-- a delivery of frame h has 32 bytes of memory. Nothing stands there if none came in this round, and nothing past the frame's length if one did; to a
-- sent frame none comes
pub record SoundDelivery (h : Frame) (y : Delivery) : Type 0 where
  pub delivered : y.delivered ≤ 1
  pub room : length y.bytes ≡ 32
  pub not_delivered : is_delivered y ≡ false → y ≡ no_delivery
  pub past_length : (i : ℕ) → h.length ≤ i → get_or y.bytes i 0 ≡ 0
  pub sent : is_sent_frame h ≡ true → is_delivered y ≡ false

-- a status is 0 OK, 20 RDA_FAILED, 21 NOT_RECEIVED or 22 INVALIDATED
abbrev pub IsStatus : ℕ → Type 0
IsStatus k = (k ≡ 0) ⊎ ((k ≡ 20) ⊎ ((k ≡ 21) ⊎ (k ≡ 22)))

-- message g has a value that it can hold, as its pattern of 32 bits. Without status bit it is valid, always; and what only the other direction has, the
-- validity of a received one and the status of a sent one, stays as at start
pub record SoundMessageState (g : Message) (s : MessageState) : Type 0 where
  pub valid : s.valid ≤ 1
  pub always_valid : has_status_bit g ≡ false → is_valid s ≡ true
  pub received_valid : is_sent g ≡ false → has_status_bit g ≡ true → is_valid s ≡ false
  pub sent_status : is_sent g ≡ true → s.status ≡ 21
  pub status : IsStatus s.status
  pub held_word : s.held < 2 ^ 32
  pub held : can_hold g (held_value g s) ≡ true

-- waiting, loaded or gone
abbrev pub IsStage : Stage → Type 0
IsStage t = (t ≡ Waiting) ⊎ ((t ≡ Loaded) ⊎ (t ≡ Gone 2))

-- a sent field is waiting, loaded or gone; one of a message g that is received is gone, always
pub record SoundStage (g : Message) (t : Stage) : Type 0 where
  pub stage : IsStage t
  pub always_gone : is_sent g ≡ false → t ≡ Gone 2

-- a state with a cell for each place, sound by the layout; past its numbers nothing is delivered, and there is no message's state and no stage
pub record SoundState (l : Layout) (s : State) : Type 0 where
  pub delivery_cells : length s.deliveries ≡ 32
  pub message_cells : length s.messages ≡ 32
  pub stage_cells : length s.stages ≡ 128
  pub deliveries : (f : ℕ) → f < l.frame_number → SoundDelivery (frame_at l f) (delivery_at s f)
  pub no_deliveries : (f : ℕ) → l.frame_number ≤ f → delivery_at s f ≡ no_delivery
  pub messages : (m : ℕ) → m < l.message_number → SoundMessageState (message_at l m) (state_at s m)
  pub no_states : (m : ℕ) → l.message_number ≤ m → state_at s m ≡ no_state
  pub stages : (d : ℕ) → d < l.field_number → SoundStage (message_at l (laid_at l d).message) (stage_at s d)
  pub no_stages : (d : ℕ) → l.field_number ≤ d → stage_at s d ≡ no_stage

-- both are sound
pub record Sound (n : Node) : Type 0 where
  pub layout : SoundLayout n.layout
  pub state : SoundState n.layout n.state
