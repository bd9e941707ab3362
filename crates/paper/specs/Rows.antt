-- The examples P1 to P10 of the paper as one table, over the definitions that the contracts cite. Each row reads as in the paper: what is done, and
-- what comes of it. P10-received, a row of ours, is P10 for a message that is received.
-- Assumes nothing.
use Rattle.std.specs.Prelude.{◌≡◌, Bool, true, false, cond, List, [], ◌∷◌, ◌++◌, ℕ, eqb, ℤ, pos, neg_ℤ, length}
use Rattle.packing.specs.Places.{places_in, packed}
use Rattle.packing.specs.Values.{pattern_of}
use Rattle.layout.specs.Paper.{record_of}
use Rattle.store.specs.declared.Message.{Message}
use Rattle.store.specs.declared.MessageState.{MessageState}
use Rattle.store.specs.Node.{Node, is_valid, held_value, state_at}
use Rattle.start.specs.Start.{at_first}
use Rattle.message.specs.Messages.{settled}
use Rattle.node.specs.Load.{load_of}
use Rattle.node.specs.Calls.{received_place}
use Rattle.calls.specs.Relations.{send, deliver, close, receive, answer_of, next, final}

-- ---- the rows' words

-- a negative number
abbrev pub minus : ℕ → ℤ
minus n = neg_ℤ (pos n)

-- a frame's order
abbrev pub little : Bool
little = false

abbrev pub big : Bool
big = true

-- a value packed at a width, a start bit and an order into a frame
abbrev pub pack : ℤ → ℕ → ℕ → Bool → List ℕ → List ℕ
pack value width start order frame = packed (places_in (length frame) order start width) (pattern_of 32 value) frame

-- the state of a message at start, with that initial value
abbrev pub initially : ℤ → MessageState
initially v = at_first 0 (pattern_of 32 v)

-- a received message of 32 bits with that sign and agreement, and without a filter
abbrev pub unfiltered : ℕ → ℕ → Message
unfiltered sign agreement =
    record { width = 32; sign = sign; direction = 0; agreement = agreement; filter = 0; statusbit = 0; first = 0; fields = 8; x1 = 0; x2 = 0 }

-- messages that average, a signed one and an unsigned one, and one that votes
abbrev pub signed_averaging : Message
signed_averaging = unfiltered 1 1

abbrev pub averaging : Message
averaging = unfiltered 0 1

abbrev pub voting : Message
voting = unfiltered 0 2

-- what a receive gives: a value, or the answer of a status other than 0
pub data Receives : Type 0 where
  value : ℤ → Receives
  answer : ℕ → Receives

-- of a message in that state
unfoldable pub shown : Message → MessageState → Receives
shown g s = cond (eqb s.status 0) (value (held_value g s)) (answer s.status)

-- after a round in which those instances of it count, where it held 0 before
abbrev pub closed : Message → List ℤ → Receives
closed g l = shown g (settled g (initially (pos 0)) false l)

-- a layout file: frame 0, of two bytes; message 0, of that direction, 10 bits, signed, with that filter and initial value 0; and its field, from bit 0 on,
-- with the status bit behind it
unfoldable pub file_of : ℕ → ℕ → List ℕ
file_of direction filter =
    record_of (1 ∷ 0 ∷ 2 ∷ 0 ∷ direction ∷ []) ++ record_of (2 ∷ 0 ∷ 10 ∷ 1 ∷ direction ∷ 0 ∷ filter ∷ []) ++ record_of (3 ∷ 0 ∷ 0 ∷ 0 ∷ 1 ∷ 10 ∷ [])

-- the node that its load leaves, whatever n was before: message 0 is sent, or received
abbrev pub sending : ℕ → Node → Node
sending filter n = (load_of n (file_of 1 filter)).node

abbrev pub receiving : ℕ → Node → Node
receiving filter n = (load_of n (file_of 0 filter)).node

-- what comes of a send: the filter passes the value or not, or the send is refused
pub data Sends : Type 0 where
  passes : Sends
  stopped : Sends
  refused : ℕ → Sends

-- by its answer, and by the message's validity afterwards
unfoldable pub sent_one : Node → ℤ → Sends
sent_one n v =
    cond (eqb (answer_of n (send 0 v)) 0) (cond (is_valid (state_at (next n (send 0 v)).state 0)) passes stopped) (refused (answer_of n (send 0 v)))

-- of some values of message 0, sent one after the other
unfoldable pub sent : Node → List ℤ → List Sends
sent n [] = []
sent n (v ∷ l) = sent_one n v ∷ sent (next n (send 0 v)) l

-- what a receive of message 0 gives, into a place that holds 0
unfoldable pub received_one : Node → Receives
received_one n = cond (eqb (answer_of n (receive 0 (pos 0))) 0) (value (received_place n 0 (pos 0))) (answer (answer_of n (receive 0 (pos 0))))

-- the node after a round in which frame 0 brings a value of message 0 below 256, as valid
abbrev pub round : Node → ℕ → Node
round n v = final n (deliver 0 true (v ∷ 4 ∷ []) ∷ close ∷ [])

-- of some rounds, one after the other
unfoldable pub received : Node → List ℕ → List Receives
received n [] = []
received n (v ∷ l) = received_one (round n v) ∷ received (round n v) l

-- ---- the table

pub record Rows : Type 0 where
  -- pack 677, 10 bits, start 3, little, into 00 00: 28 15
  pub P1 : pack (pos 677) 10 3 little (0x00 ∷ 0x00 ∷ []) ≡ 0x28 ∷ 0x15 ∷ []
  -- same into FF FF: 2F F5
  pub P2 : pack (pos 677) 10 3 little (0xff ∷ 0xff ∷ []) ≡ 0x2f ∷ 0xf5 ∷ []
  -- same, big, into 00 00: 15 28
  pub P3 : pack (pos 677) 10 3 big (0x00 ∷ 0x00 ∷ []) ≡ 0x15 ∷ 0x28 ∷ []
  -- pack -1, signed 10 bits, start 0, little, into 00 00: FF 03
  pub P4 : pack (minus 1) 10 0 little (0x00 ∷ 0x00 ∷ []) ≡ 0xff ∷ 0x03 ∷ []
  -- average of -3, -4: -3
  pub P5 : closed signed_averaging (minus 3 ∷ minus 4 ∷ []) ≡ value (minus 3)
  -- average of eight times 4,294,967,295: 4,294,967,295
  pub P6 :
      closed averaging
      (pos 4294967295
      ∷ pos 4294967295
      ∷ pos 4294967295
      ∷ pos 4294967295
      ∷ pos 4294967295
      ∷ pos 4294967295
      ∷ pos 4294967295
      ∷ pos 4294967295
      ∷ [])
      ≡ value (pos 4294967295)
  -- vote 5, 5, 9, 7: 5
  pub P7 : closed voting (pos 5 ∷ pos 5 ∷ pos 9 ∷ pos 7 ∷ []) ≡ value (pos 5)
  -- vote 5, 5, 9, 9: 20
  pub P8 : closed voting (pos 5 ∷ pos 5 ∷ pos 9 ∷ pos 9 ∷ []) ≡ answer 20
  -- vote 5 alone: 5
  pub P9 : closed voting (pos 5 ∷ []) ≡ value (pos 5)
  -- filter 10, initial 0, then 10, 4, 7: passes, not, not
  pub P10 : (n : Node) → sent (sending 10 n) (pos 10 ∷ pos 4 ∷ pos 7 ∷ []) ≡ passes ∷ stopped ∷ stopped ∷ []
  -- the same in three rounds: 10, then 21, 21
  pub P10-received : (n : Node) → received (receiving 10 n) (10 ∷ 4 ∷ 7 ∷ []) ≡ value (pos 10) ∷ answer 21 ∷ answer 21 ∷ []
