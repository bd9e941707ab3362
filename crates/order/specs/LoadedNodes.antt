-- Nodes for examples, each loaded from a layout file: a sender of one message; a receiver of it alone; and a receiver of it among others, under other
-- numbers. The message is the paper's: 10 bits from bit 3 on, little, in two bytes, with a status bit before it. The sender's filter is new ≠ old; the
-- receivers vote, and their filter is 1 ≤ new ≤ 700. And a receiver of another message in two frames. What is received there and back, and by replicas.
-- Assumes nothing.
use Rattle.std.specs.Prelude.{◌≡◌, true, List, [], ◌∷◌, ◌++◌, ℕ, ℤ, pos}
use Rattle.layout.specs.Paper.{record_of}
use Rattle.store.specs.Node.{Node}
use Rattle.start.specs.Start.{start_of}
use Rattle.node.specs.Calls.{assembled}
use Rattle.node.specs.Load.{load_of}
use Rattle.calls.specs.Relations.{send, invalidate, assemble, consumed, deliver, close, receive, value, Seen, sees, seen_of, next, final}
use Rattle.order.specs.Mirror.{after_round}

-- ---- files

-- message 0 in frame 0, sent
unfoldable pub sender_file : List ℕ
sender_file = record_of (1 ∷ 0 ∷ 2 ∷ 0 ∷ 1 ∷ []) ++ record_of (2 ∷ 0 ∷ 10 ∷ 0 ∷ 1 ∷ 0 ∷ 5 ∷ []) ++ record_of (3 ∷ 0 ∷ 0 ∷ 3 ∷ 1 ∷ 0 ∷ [])

-- message 0 in frame 0, received; the frame's order, and the lowest byte of x2, are 0 and 188 in the message meant
unfoldable pub alone_file : ℕ → ℕ → List ℕ
alone_file order low =
    record_of (1 ∷ 0 ∷ 2 ∷ order ∷ 0 ∷ []) ++ record_of (2 ∷ 0 ∷ 10 ∷ 0 ∷ 0 ∷ 2 ∷ 8 ∷ 0 ∷ 1 ∷ 0 ∷ 0 ∷ 0 ∷ low ∷ 2 ∷ [])
    ++ record_of (3 ∷ 0 ∷ 0 ∷ 3 ∷ 1 ∷ 0 ∷ [])

-- message 1 in frame 1, received; and message 0, 8 bits signed, in frame 0, one byte in big order
unfoldable pub among_file : List ℕ
among_file =
    record_of (1 ∷ 0 ∷ 1 ∷ 1 ∷ 0 ∷ []) ++ record_of (1 ∷ 1 ∷ 2 ∷ 0 ∷ 0 ∷ [])
    ++ record_of (2 ∷ 0 ∷ 8 ∷ 1 ∷ 0 ∷ 1 ∷ []) ++ record_of (2 ∷ 1 ∷ 10 ∷ 0 ∷ 0 ∷ 2 ∷ 8 ∷ 0 ∷ 1 ∷ 0 ∷ 0 ∷ 0 ∷ 188 ∷ 2 ∷ [])
    ++ record_of (3 ∷ 0 ∷ 0 ∷ 0 ∷ 0 ∷ 0 ∷ []) ++ record_of (3 ∷ 1 ∷ 1 ∷ 3 ∷ 1 ∷ 0 ∷ [])

-- message 0, 8 bits from bit 0 on, in frames 0 and 1 of these lengths; pick any
unfoldable pub twice_file : ℕ → ℕ → List ℕ
twice_file length0 length1 =
    record_of (1 ∷ 0 ∷ length0 ∷ []) ++ record_of (1 ∷ 1 ∷ length1 ∷ []) ++ record_of (2 ∷ 0 ∷ 8 ∷ []) ++ record_of (3 ∷ 0 ∷ 0 ∷ []) ++ record_of (3 ∷ 0 ∷ 1 ∷ [])

-- ---- nodes, at start

unfoldable pub sender : Node
sender = start_of sender_file 1 1 1

unfoldable pub receiver_alone : ℕ → ℕ → Node
receiver_alone order low = start_of (alone_file order low) 1 1 1

unfoldable pub receiver_among : Node
receiver_among = start_of among_file 2 2 2

unfoldable pub receiver_twice : ℕ → ℕ → Node
receiver_twice length0 length1 = start_of (twice_file length0 length1) 2 1 2

-- each of its own file
pub record EachLoaded (n : Node) : Type 0 where
  pub sending : load_of n sender_file ≡ record { answer = 0; node = sender }
  pub alone : load_of n (alone_file 0 188) ≡ record { answer = 0; node = receiver_alone 0 188 }
  pub big : load_of n (alone_file 1 188) ≡ record { answer = 0; node = receiver_alone 1 188 }
  pub word : load_of n (alone_file 0 88) ≡ record { answer = 0; node = receiver_alone 0 88 }
  pub among : load_of n among_file ≡ record { answer = 0; node = receiver_among }
  pub one_two : load_of n (twice_file 1 2) ≡ record { answer = 0; node = receiver_twice 1 2 }
  pub two_one : load_of n (twice_file 2 1) ≡ record { answer = 0; node = receiver_twice 2 1 }

-- ---- there and back

-- frame 0 of a node over two bytes of ones, delivered as frame 1; and what then is received
abbrev pub passed_on : Node → ℤ → Seen
passed_on n p = seen_of (after_round receiver_among 1 (assembled n 0 (255 ∷ 255 ∷ []))) (receive 1 p)

-- 677 is received, and again where it went out before; 701, which the receiver's filter does not pass, is answered 21; 0, which the sender's does not
-- pass, 22, and so is the message after an invalidate, and at start
pub record PassedOn (p : ℤ) : Type 0 where
  pub received : passed_on (next sender (send 0 (pos 677))) p ≡ sees 0 (value (pos 677))
  pub held : passed_on (final sender (send 0 (pos 677) ∷ assemble 0 (255 ∷ 255 ∷ []) ∷ consumed 0 ∷ [])) p ≡ sees 0 (value (pos 677))
  pub stopped : passed_on (next sender (send 0 (pos 701))) p ≡ sees 21 (value p)
  pub filtered : passed_on (next sender (send 0 (pos 0))) p ≡ sees 22 (value p)
  pub invalidated : passed_on (next sender (invalidate 0)) p ≡ sees 22 (value p)
  pub at_start : passed_on sender p ≡ sees 22 (value p)

-- ---- replicas

-- the paper's 677 comes to the one as packed into zeros and to the other as packed into ones, so that all bits but its own differ, and both show it; the
-- same bytes are answered 22 in a frame of big order, and 21 with 600 for x2. Of a message in two frames 5 is picked where its frame comes first, and
-- 7 where that one does
pub record ReplicasShow (p : ℤ) : Type 0 where
  pub alone : seen_of (after_round (receiver_alone 0 188) 0 (41 ∷ 21 ∷ [])) (receive 0 p) ≡ sees 0 (value (pos 677))
  pub among : seen_of (after_round receiver_among 1 (47 ∷ 245 ∷ [])) (receive 1 p) ≡ sees 0 (value (pos 677))
  pub other_order : seen_of (after_round (receiver_alone 1 188) 0 (41 ∷ 21 ∷ [])) (receive 0 p) ≡ sees 22 (value p)
  pub other_word : seen_of (after_round (receiver_alone 0 88) 0 (41 ∷ 21 ∷ [])) (receive 0 p) ≡ sees 21 (value p)
  pub five_first :
      seen_of (final (receiver_twice 1 2) (deliver 0 true (5 ∷ []) ∷ deliver 1 true (7 ∷ 0 ∷ []) ∷ close ∷ [])) (receive 0 p) ≡ sees 0 (value (pos 5))
  pub seven_first :
      seen_of (final (receiver_twice 2 1) (deliver 0 true (7 ∷ 0 ∷ []) ∷ deliver 1 true (5 ∷ []) ∷ close ∷ [])) (receive 0 p) ≡ sees 0 (value (pos 7))
