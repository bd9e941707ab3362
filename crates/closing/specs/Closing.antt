-- What a closing means: each received message by itself, from the node as it was when the closing began; then the round's deliveries are forgotten.
-- Assumes nothing.
use Rattle.std.specs.Prelude.{Bool, true, not, cond, ◌&&◌, List, map, ℕ, eqb, ltb, ℤ, length}
use Rattle.whole.specs.Whole.{all_of}
use Rattle.packing.specs.Places.{places_in, unpacked}
use Rattle.packing.specs.Values.{value_of}
use Rattle.record.specs.declared.Field.{Field as FieldRecord}
use Rattle.store.specs.declared.Message.{Message}
use Rattle.store.specs.declared.MessageState.{MessageState}
use Rattle.store.specs.Node.{
  Layout,
  State,
  Node,
  frame_count,
  message_count,
  is_signed,
  is_sent,
  is_big,
  is_delivered,
  frame_at,
  message_at,
  delivery_at,
  data_at,
  no_delivery,
  with_deliveries,
  with_states,
}
use Rattle.message.specs.Messages.{settled}
use Rattle.message.specs.Fields.{status_places}
use Rattle.own.specs.declared.Owner.{Owner}
use Rattle.own.specs.Own.{chosen, changed, fields_of}

-- ---- a field this round

-- the field's frame was validly delivered
unfoldable pub came : State → FieldRecord → Bool
came s x = is_delivered (delivery_at s x.frame)

-- its status bit, if it has one, is 1
unfoldable pub status_set : Node → FieldRecord → Bool
status_set n x =
    cond (eqb x.status 1)
    (eqb (unpacked (status_places (length (data_at n x.frame)) (frame_at n.layout x.frame) x) (data_at n x.frame)) 1)
    true

-- an instance counts if both hold
unfoldable pub counts : Node → FieldRecord → Bool
counts n x = came n.state x && status_set n x

-- the value that a field of message g carries
unfoldable pub value_in : Node → Message → FieldRecord → ℤ
value_in n g x =
    value_of (is_signed g) g.width
    (unpacked (places_in (length (data_at n x.frame)) (is_big (frame_at n.layout x.frame)) x.start g.width) (data_at n x.frame))

-- ---- a message this round

-- the values of the counting instances of message m, in field order, which is frame order
unfoldable pub instances : Node → ℕ → List ℤ
instances n m = map (value_in n (message_at n.layout m)) (chosen (counts n) (fields_of n.layout (Owner.Message m)))

-- no frame of it was delivered
unfoldable pub none_came : Node → ℕ → Bool
none_came n m = all_of (λ x. not (came n.state x)) (fields_of n.layout (Owner.Message m))

-- its state afterwards, where it was s
unfoldable pub closed_state : Node → ℕ → MessageState → MessageState
closed_state n m s = settled (message_at n.layout m) s (none_came n m) (instances n m)

-- ---- the node

-- number m is that of a received message
unfoldable pub is_received : Layout → ℕ → Bool
is_received l m = ltb m (message_count l) && not (is_sent (message_at l m))

-- each received message is closed
unfoldable pub close_messages : Node → State
close_messages n = with_states n.state (changed (is_received n.layout) (closed_state n) 0 n.state.messages)

-- no frame of the layout is delivered any more, and nothing of its data is left
unfoldable pub forget : Layout → State → State
forget l s = with_deliveries s (changed (λ f. ltb f (frame_count l)) (λ f y. no_delivery) 0 s.deliveries)

-- first the messages, then the deliveries
unfoldable pub close_of : Node → State
close_of n = forget n.layout (close_messages n)
