-- Own bits alone, and each round by itself: on what two nodes agree. Of a frame that came, `SameOwn` speaks of a message's own bits and `SameRound`
-- of all data; of a frame that did not come in this round, neither speaks of any.
-- Assumes nothing.
use Rattle.std.specs.Prelude.{◌≡◌, true, false, ℕ, ◌<◌}
use Rattle.packing.specs.Places.{Agree}
use Rattle.record.specs.declared.Field.{Field as FieldRecord}
use Rattle.store.specs.declared.Message.{Message}
use Rattle.store.specs.declared.MessageState.{MessageState}
use Rattle.store.specs.Node.{Layout, Node, is_sent, has_status_bit, is_sent_frame, is_delivered, is_valid}
use Rattle.store.specs.Node.{frame_at, message_at, laid_at, listed_at, delivery_at, state_at, stage_at, data_at}
use Rattle.own.specs.declared.Owner.{Owner}
use Rattle.own.specs.Own.{is_in, cells_of}
use Rattle.closing.specs.Closing.{came}
use Rattle.own.specs.SoundLayout.{message_places, its_status_places}

-- ---- own bits alone

-- the message's earlier values are the same: of these it keeps one, which it holds
abbrev pub SameValues : MessageState → MessageState → Type 0
SameValues s s' = s.held ≡ s'.held

-- of a field x in n and a field x' in n': the frames of both came validly or neither did, and if they came, both have the same field bits and the same
-- status bit there
pub record SameInstance (n n' : Node) (x x' : FieldRecord) : Type 0 where
  pub frame : came n.state x ≡ came n'.state x'
  pub bits : came n.state x ≡ true → Agree (data_at n x.frame) (data_at n' x'.frame) (message_places n.layout x)
  pub status : came n.state x ≡ true → Agree (data_at n x.frame) (data_at n' x'.frame) (its_status_places n.layout x)

-- the two nodes agree on the layout, on message m's earlier values, on which of its frames came validly, and on its own field and status bits
pub record SameOwn (n n' : Node) (m : ℕ) : Type 0 where
  pub layout : n.layout ≡ n'.layout
  pub values : SameValues (state_at n.state m) (state_at n'.state m)
  pub fields : (d : ℕ) → is_in d (cells_of n.layout (Owner.Message m)) ≡ true → SameInstance n n' (laid_at n.layout d) (laid_at n.layout d)

-- ---- each round by itself

-- the two layouts have the same frames, messages and fields, in the same places of the index
pub record SameLayout (l l' : Layout) : Type 0 where
  pub frame_number : l.frame_number ≡ l'.frame_number
  pub message_number : l.message_number ≡ l'.message_number
  pub field_number : l.field_number ≡ l'.field_number
  pub frames : (f : ℕ) → f < l.frame_number → frame_at l f ≡ frame_at l' f
  pub messages : (m : ℕ) → m < l.message_number → message_at l m ≡ message_at l' m
  pub fields : (d : ℕ) → d < l.field_number → laid_at l d ≡ laid_at l' d
  pub index : (i : ℕ) → i < l.field_number → listed_at l i ≡ listed_at l' i

-- message g has the same values and the same of what its direction has: a received one its status, a sent one with status bit its validity
pub record SameMessageState (g : Message) (s s' : MessageState) : Type 0 where
  pub values : SameValues s s'
  pub status : is_sent g ≡ false → s.status ≡ s'.status
  pub valid : is_sent g ≡ true → has_status_bit g ≡ true → is_valid s ≡ is_valid s'

-- of two nodes of one layout: so has each of its messages, and each sent field is at the same stage
pub record SameMessages (n n' : Node) : Type 0 where
  pub states : (m : ℕ) → m < n.layout.message_number → SameMessageState (message_at n.layout m) (state_at n.state m) (state_at n'.state m)
  pub stages : (d : ℕ) → d < n.layout.field_number → is_sent (message_at n.layout (laid_at n.layout d).message) ≡ true
      → stage_at n.state d ≡ stage_at n'.state d

-- frame f came in this round to both nodes or to neither, and if it came, with the same data
pub record SameDelivery (n n' : Node) (f : ℕ) : Type 0 where
  pub frame : is_delivered (delivery_at n.state f) ≡ is_delivered (delivery_at n'.state f)
  pub bytes : is_delivered (delivery_at n.state f) ≡ true → data_at n f ≡ data_at n' f

-- the same messages, and the same deliveries of this round
pub record SameRound (n n' : Node) : Type 0 where
  pub messages : SameMessages n n'
  pub deliveries : (f : ℕ) → f < n.layout.frame_number → is_sent_frame (frame_at n.layout f) ≡ false → SameDelivery n n' f
