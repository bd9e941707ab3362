-- The flag's history: the calls of a list with their answers, and when in them a message is sent and a frame goes out.
-- Assumes nothing.
use Rattle.std.specs.Prelude.{◌≡◌, true, List, [], ◌∷◌, ℕ, ℤ}
use Rattle.store.specs.Node.{Node}
use Rattle.calls.specs.Relations.{Call, send, assemble, consumed, Seen, flag, answer_of, sees, next}
use Rattle.order.specs.Order.{In, Before, carries}

-- a call, and what it was answered
pub record Answered : Type 0 where
  pub call : Call
  pub answer : ℕ

-- a call with its answer on node n, and a call with answer 0
abbrev pub with_answer : Node → Call → Answered
with_answer n c = record { call = c; answer = answer_of n c }

abbrev pub succeeded : Call → Answered
succeeded c = record { call = c; answer = 0 }

-- the calls of a list, one after the other from node n on, with their answers
abbrev pub answered : Node → List Call → List Answered
answered n [] = []
answered n (c ∷ l) = with_answer n c ∷ answered (next n c) l

-- message m is sent with answer 0
abbrev pub Sent : Node → ℕ → List Call → Type 0
Sent n m l = (v : ℤ) × In (succeeded (send m v)) (answered n l)

-- frame f is assembled with answer 0 and later consumed, with answer 0 too
abbrev pub GoesOut : Node → ℕ → List Call → Type 0
GoesOut n f l = (b : List ℕ) × Before (succeeded (assemble f b)) (succeeded (consumed f)) (answered n l)

-- each frame that carries message m goes out
abbrev pub AllOut : Node → ℕ → List Call → Type 0
AllOut n m l = (f : ℕ) → carries n.layout f m ≡ true → GoesOut n f l

-- the caller of read flag sees answer 0, and k in its place: 1 is set, 0 is cleared
abbrev pub shows : ℕ → Seen
shows k = sees 0 (flag k)
