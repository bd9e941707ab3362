-- Two small layout files and calls on their nodes: an example of the order of calls, and one of a round's deliveries. Both have messages of eight bits,
-- unsigned, without status bit or filter.
-- Assumes nothing.
use Rattle.std.specs.Prelude.{◌≡◌, true, false, List, [], ◌∷◌, ◌++◌, ℕ, ℤ, pos}
use Rattle.layout.specs.Paper.{record_of}
use Rattle.store.specs.Node.{Node, node_of}
use Rattle.calls.specs.Relations.{Call, send, assemble, deliver, close, receive, nothing, buffer, value, sees, seen_of, next, final}
use Rattle.order.specs.Order.{carries, Numbered, Result, Ran}
use Rattle.order.specs.Deliveries.{DeliveredWith}

-- ---- the order of calls

-- two sent frames of one byte: message 0 in frame 0, and message 1 in frame 1
unfoldable pub sent_file : List ℕ
sent_file =
    record_of (1 ∷ 0 ∷ 1 ∷ 0 ∷ 1 ∷ 0 ∷ []) ++ (record_of (1 ∷ 1 ∷ 1 ∷ 0 ∷ 1 ∷ 0 ∷ [])
    ++ (record_of (2 ∷ 0 ∷ 8 ∷ 0 ∷ 1 ∷ 0 ∷ []) ++ (record_of (2 ∷ 1 ∷ 8 ∷ 0 ∷ 1 ∷ 0 ∷ [])
    ++ (record_of (3 ∷ 0 ∷ 0 ∷ 0 ∷ 0 ∷ 0 ∷ []) ++ record_of (3 ∷ 1 ∷ 1 ∷ 0 ∷ 0 ∷ 0 ∷ [])))))

-- three calls: frame 0 carries message 0 and not message 1
abbrev pub sends0 : Numbered
sends0 = record { number = 0; call = send 0 (pos 5) }

abbrev pub sends1 : Numbered
sends1 = record { number = 1; call = send 1 (pos 7) }

abbrev pub assembles0 : Numbered
assembles0 = record { number = 2; call = assemble 0 (255 ∷ []) }

-- the send of that number was answered 0; and so was the assembly, with x in its buffer of one byte
abbrev pub was_sent : ℕ → Result
was_sent k = record { number = k; seen = sees 0 nothing }

abbrev pub was_assembled : ℕ → Result
was_assembled x = record { number = 2; seen = sees 0 (buffer (x ∷ [])) }

-- frame 0 does not carry message 1: in either order each caller sees the same, and the memory afterwards is the same
pub record MayChange (b : List ℕ) : Type 0 where
  pub carried : carries (node_of b).layout 0 1 ≡ false
  pub after : List ℕ
  pub send_first : Ran b (sends1 ∷ assembles0 ∷ []) (was_sent 1 ∷ was_assembled 0 ∷ []) after
  pub assemble_first : Ran b (assembles0 ∷ sends1 ∷ []) (was_assembled 0 ∷ was_sent 1 ∷ []) after

-- frame 0 carries message 0: what was sent before the assembly is in the buffer, and what is sent after it is not
pub record MayNotChange (b : List ℕ) : Type 0 where
  pub carried : carries (node_of b).layout 0 0 ≡ true
  pub send_first : (e : List ℕ) × Ran b (sends0 ∷ assembles0 ∷ []) (was_sent 0 ∷ was_assembled 5 ∷ []) e
  pub assemble_first : (e : List ℕ) × Ran b (assembles0 ∷ sends0 ∷ []) (was_assembled 0 ∷ was_sent 0 ∷ []) e

-- ---- a round's deliveries

-- a received frame of two bytes, the first of which is message 0's
unfoldable pub received_file : List ℕ
received_file = record_of (1 ∷ 0 ∷ 2 ∷ 0 ∷ 0 ∷ 0 ∷ []) ++ (record_of (2 ∷ 0 ∷ 8 ∷ 0 ∷ 0 ∷ 0 ∷ []) ++ record_of (3 ∷ 0 ∷ 0 ∷ 0 ∷ 0 ∷ 0 ∷ []))

-- two valid deliveries, an invalid one, and one that is too short
abbrev pub delivered_twice : List Call
delivered_twice = deliver 0 true (1 ∷ 2 ∷ []) ∷ deliver 0 true (5 ∷ 9 ∷ []) ∷ deliver 0 false (7 ∷ 7 ∷ []) ∷ deliver 0 true (8 ∷ []) ∷ []

-- one delivery
abbrev pub delivered_once : List Call
delivered_once = deliver 0 true (5 ∷ 3 ∷ []) ∷ []

-- after either round the frame has the data of its last valid delivery, and the closing shows their first byte
pub record SameShown (n : Node) : Type 0 where
  pub twice : DeliveredWith (final n delivered_twice) 0 (5 ∷ 9 ∷ [])
  pub once : DeliveredWith (final n delivered_once) 0 (5 ∷ 3 ∷ [])
  pub twice_shown : (p : ℤ) → seen_of (next (final n delivered_twice) close) (receive 0 p) ≡ sees 0 (value (pos 5))
  pub once_shown : (p : ℤ) → seen_of (next (final n delivered_once) close) (receive 0 p) ≡ sees 0 (value (pos 5))
