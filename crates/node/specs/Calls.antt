-- What each call on a node means: its answer, and the node and the caller's memory afterwards. The tests come in the paper's order 16 to 19 and 23.
-- Assumes nothing.
use Rattle.std.specs.Prelude.{Bool, true, false, not, cond, ◌&&◌, List, [], ◌∷◌, ℕ, eqb, ltb, ℤ, length, take}
use Rattle.whole.specs.Whole.{all_of}
use Rattle.record.specs.declared.Field.{Field as FieldRecord}
use Rattle.store.specs.declared.Frame.{Frame}
use Rattle.store.specs.Node.{
  Layout,
  Delivery,
  State,
  Node,
  frame_count,
  message_count,
  is_sent,
  has_status_bit,
  is_sent_frame,
  is_event,
  is_valid,
  held_value,
  node_of,
  frame_at,
  message_at,
  delivery_at,
  state_at,
  stage_at,
  marked,
  filled,
  with_stages,
  with_delivery,
  with_state,
  node_with,
}
use Rattle.message.specs.declared.Change.{Change}
use Rattle.message.specs.Messages.{can_hold, offered, invalidated}
use Rattle.message.specs.Fields.{stage_after, is_gone, writes}
use Rattle.own.specs.declared.Owner.{Owner}
use Rattle.own.specs.Own.{changed, is_in, cells_of, fields_of}

-- ---- outcomes

-- what a call leaves: its answer, and the node
pub record Outcome : Type 0 where
  pub answer : ℕ
  pub node : Node

-- the node that the memory holds afterwards
abbrev pub left : ℕ → List ℕ → Outcome
left a b = record { answer = a; node = node_of b }

-- with answer 0 the changed state, with any other the state as it was; no call changes the layout
abbrev pub outcome : ℕ → State → Node → Outcome
outcome a s n = record { answer = a; node = node_with n (cond (eqb a 0) s n.state) }

-- ---- send

unfoldable pub send_answer : Layout → ℕ → ℤ → ℕ
send_answer l m v =
    cond (not (ltb m (message_count l))) 16
    (cond (not (is_sent (message_at l m))) 17
    (cond (not (can_hold (message_at l m) v)) 18 0))

-- the fields of a message or a frame move on by a change
abbrev pub moved : Change → Owner → Node → State
moved c o n = with_stages n.state (changed (λ d. is_in d (cells_of n.layout o)) (λ d t. stage_after c t) 0 n.state.stages)

unfoldable pub send_of : Node → ℕ → ℤ → Outcome
send_of n m v =
    outcome (send_answer n.layout m v)
    (with_state (moved Change.Send (Owner.Message m) n) m (offered (message_at n.layout m) (state_at n.state m) v)) n

-- ---- invalidate

unfoldable pub invalidate_answer : Layout → ℕ → ℕ
invalidate_answer l m =
    cond (not (ltb m (message_count l))) 16 (cond (not (is_sent (message_at l m))) 17 (cond (not (has_status_bit (message_at l m))) 19 0))

unfoldable pub invalidate_of : Node → ℕ → Outcome
invalidate_of n m = outcome (invalidate_answer n.layout m) (with_state n.state m (invalidated (state_at n.state m))) n

-- ---- assemble

-- there is no field
abbrev pub is_empty : List FieldRecord → Bool
is_empty [] = true
is_empty (x ∷ l) = false

-- the field's message is invalid
abbrev pub invalid_in : State → FieldRecord → Bool
invalid_in s x = not (is_valid (state_at s x.message))

-- there is a field, and the messages of all are invalid
abbrev pub all_invalid : State → List FieldRecord → Bool
all_invalid s l = not (is_empty l) && all_of (invalid_in s) l

-- an event frame with at least one field, all of whose messages are invalid
unfoldable pub suppressed : Node → ℕ → Bool
suppressed n f = is_event (frame_at n.layout f) && all_invalid n.state (fields_of n.layout (Owner.Frame f))

unfoldable pub assemble_answer : Node → ℕ → ℕ → ℕ
assemble_answer n f size =
    cond (not (ltb f (frame_count n.layout))) 16
    (cond (not (is_sent_frame (frame_at n.layout f))) 17
    (cond (not (eqb size (frame_at n.layout f).length)) 18 (cond (suppressed n f) 23 0)))

-- each field in turn
unfoldable pub written : Node → Frame → List FieldRecord → List ℕ → List ℕ
written n h [] b = b
written n h (x ∷ l) b = written n h l (writes h (message_at n.layout x.message) (state_at n.state x.message) x b)

unfoldable pub assemble_of : Node → ℕ → ℕ → Outcome
assemble_of n f size = outcome (assemble_answer n f size) (moved Change.Load (Owner.Frame f) n) n

-- the caller's buffer afterwards
unfoldable pub assembled : Node → ℕ → List ℕ → List ℕ
assembled n f b = cond (eqb (assemble_answer n f (length b)) 0) (written n (frame_at n.layout f) (fields_of n.layout (Owner.Frame f)) b) b

-- ---- consumed

unfoldable pub consumed_answer : Layout → ℕ → ℕ
consumed_answer l f = cond (not (ltb f (frame_count l))) 16 (cond (not (is_sent_frame (frame_at l f))) 17 0)

unfoldable pub consumed_of : Node → ℕ → Outcome
consumed_of n f = outcome (consumed_answer n.layout f) (moved Change.Consume (Owner.Frame f) n) n

-- ---- read flag

-- a received message answers 16 too
unfoldable pub flag_answer : Layout → ℕ → ℕ
flag_answer l m = cond (not (ltb m (message_count l))) 16 (cond (not (is_sent (message_at l m))) 16 0)

-- field d is gone
abbrev pub gone_at : State → ℕ → Bool
gone_at s d = is_gone (stage_at s d)

-- set (1) exactly if all the message's fields are gone, else cleared (0)
unfoldable pub flag_of : Node → ℕ → ℕ
flag_of n m = cond (all_of (gone_at n.state) (cells_of n.layout (Owner.Message m))) 1 0

-- the caller's place afterwards, where it held p
unfoldable pub flag_place : Node → ℕ → ℕ → ℕ
flag_place n m p = cond (eqb (flag_answer n.layout m) 0) (flag_of n m) p

-- ---- deliver

unfoldable pub deliver_answer : Layout → ℕ → ℕ → ℕ
deliver_answer l f size =
    cond (not (ltb f (frame_count l))) 16 (cond (is_sent_frame (frame_at l f)) 17 (cond (not (eqb size (frame_at l f).length)) 18 0))

-- a delivery is kept, in place of an earlier one (a frame has at most 32 bytes)
unfoldable pub kept : Delivery → List ℕ → Delivery
kept y d = marked 1 (filled y (take 32 d))

-- with invalid status the call changes nothing, after the tests
unfoldable pub deliver_of : Node → ℕ → Bool → List ℕ → Outcome
deliver_of n f ok d =
    outcome (deliver_answer n.layout f (length d)) (cond ok (with_delivery n.state f (kept (delivery_at n.state f) d)) n.state) n

-- ---- receive

-- the status of the last closing
unfoldable pub receive_answer : Node → ℕ → ℕ
receive_answer n m =
    cond (not (ltb m (message_count n.layout))) 16 (cond (is_sent (message_at n.layout m)) 17 (state_at n.state m).status)

-- and with 0 the held value, into the caller's place, which held p
unfoldable pub received_place : Node → ℕ → ℤ → ℤ
received_place n m p = cond (eqb (receive_answer n m) 0) (held_value (message_at n.layout m) (state_at n.state m)) p
