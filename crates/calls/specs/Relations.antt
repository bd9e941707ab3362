-- The calls: the eight that work on a loaded node as one type, what each does to a node and what its caller sees; and the contract of every call, a load
-- included, as a relation between the memory before, what the caller sees, and the memory after. The functions that C links cite these relations.
-- Assumes nothing.
use Rattle.std.specs.Prelude.{◌≡◌, Bool, List, [], ◌∷◌, ℕ, ℤ, length}
use Rattle.whole.specs.Whole.{Bytes}
use Rattle.store.specs.Node.{Node, node_size, node_of, node_with}
use Rattle.node.specs.Calls.{left, outcome, send_of, invalidate_of, assemble_of, assembled, consumed_of}
use Rattle.node.specs.Calls.{flag_answer, flag_place, deliver_of, receive_answer, received_place}
use Rattle.closing.specs.Closing.{close_of}
use Rattle.node.specs.Load.{load_of}

-- ---- calls

-- a call with its arguments; a caller's buffer or place is an argument of its own call, with what it holds before
pub data Call : Type 0 where
  send : ℕ → ℤ → Call
  invalidate : ℕ → Call
  assemble : ℕ → List ℕ → Call
  consumed : ℕ → Call
  read_flag : ℕ → ℕ → Call
  deliver : ℕ → Bool → List ℕ → Call
  close : Call
  receive : ℕ → ℤ → Call

-- the caller's memory that a call may write: none, the buffer of assemble, the flag's place, the value's place
pub data Lent : Type 0 where
  nothing : Lent
  buffer : List ℕ → Lent
  flag : ℕ → Lent
  value : ℤ → Lent

-- what the caller sees: the answer, and its memory afterwards
pub record Seen : Type 0 where
  pub answer : ℕ
  pub lent : Lent

-- the answer of the call on node n
abbrev pub answer_of : Node → Call → ℕ
answer_of n (send m v) = (send_of n m v).answer
answer_of n (invalidate m) = (invalidate_of n m).answer
answer_of n (assemble f b) = (assemble_of n f (length b)).answer
answer_of n (consumed f) = (consumed_of n f).answer
answer_of n (read_flag m p) = flag_answer n.layout m
answer_of n (deliver f valid d) = (deliver_of n f valid d).answer
answer_of n close = 0
answer_of n (receive m p) = receive_answer n m

-- the caller's memory before the call, and after it
abbrev pub lent_before : Call → Lent
lent_before (send m v) = nothing
lent_before (invalidate m) = nothing
lent_before (assemble f b) = buffer b
lent_before (consumed f) = nothing
lent_before (read_flag m p) = flag p
lent_before (deliver f valid d) = nothing
lent_before close = nothing
lent_before (receive m p) = value p

abbrev pub lent_after : Node → Call → Lent
lent_after n (send m v) = nothing
lent_after n (invalidate m) = nothing
lent_after n (assemble f b) = buffer (assembled n f b)
lent_after n (consumed f) = nothing
lent_after n (read_flag m p) = flag (flag_place n m p)
lent_after n (deliver f valid d) = nothing
lent_after n close = nothing
lent_after n (receive m p) = value (received_place n m p)

-- so what its caller sees
abbrev pub sees : ℕ → Lent → Seen
sees a l = record { answer = a; lent = l }

abbrev pub seen_of : Node → Call → Seen
seen_of n c = sees (answer_of n c) (lent_after n c)

-- the node after the call
abbrev pub next : Node → Call → Node
next n (send m v) = (send_of n m v).node
next n (invalidate m) = (invalidate_of n m).node
next n (assemble f b) = (assemble_of n f (length b)).node
next n (consumed f) = (consumed_of n f).node
next n (read_flag m p) = n
next n (deliver f valid d) = (deliver_of n f valid d).node
next n close = node_with n (close_of n)
next n (receive m p) = n

-- the node after a list of calls, one after the other
abbrev pub final : Node → List Call → Node
final n [] = n
final n (c ∷ l) = final (next n c) l

-- ---- calls on memory

-- memory that holds a node
pub record Memory (b : List ℕ) : Type 0 where
  pub size : length b ≡ node_size
  pub bytes : Bytes b

-- the contracts of the calls, one a line: on memory b the call leaves memory e, and its caller sees s
abbrev pub Does : List ℕ → Call → Seen → List ℕ → Type 0
Does b (send m v) s e = (left s.answer e ≡ send_of (node_of b) m v) × (s.lent ≡ nothing)
Does b (invalidate m) s e = (left s.answer e ≡ invalidate_of (node_of b) m) × (s.lent ≡ nothing)
Does b (assemble f d) s e = (left s.answer e ≡ assemble_of (node_of b) f (length d)) × (s.lent ≡ buffer (assembled (node_of b) f d))
Does b (consumed f) s e = (left s.answer e ≡ consumed_of (node_of b) f) × (s.lent ≡ nothing)
Does b (read_flag m p) s e = (e ≡ b) × ((s.answer ≡ flag_answer (node_of b).layout m) × (s.lent ≡ flag (flag_place (node_of b) m p)))
Does b (deliver f valid d) s e = (left s.answer e ≡ deliver_of (node_of b) f valid d) × (s.lent ≡ nothing)
Does b close s e = (left s.answer e ≡ outcome 0 (close_of (node_of b)) (node_of b)) × (s.lent ≡ nothing)
Does b (receive m p) s e = (e ≡ b) × ((s.answer ≡ receive_answer (node_of b) m) × (s.lent ≡ value (received_place (node_of b) m p)))

-- and of a load of a file, which answers a
abbrev pub Loads : List ℕ → List ℕ → ℕ → List ℕ → Type 0
Loads b file a e = left a e ≡ load_of (node_of b) file
