-- There and back: a message that a sender has in one field and a receiver in one that lies alike, and a round of the receiver. Its number and the
-- frame's number may differ in the two layouts, and so may all else that they say.
-- Assumes nothing.
use Rattle.std.specs.Prelude.{◌≡◌, Bool, true, not, ◌||◌, List, [], ◌∷◌, ℕ}
use Rattle.record.specs.declared.Field.{Field as FieldRecord}
use Rattle.store.specs.declared.Message.{Message}
use Rattle.store.specs.declared.MessageState.{MessageState}
use Rattle.store.specs.Node.{Layout, Node, is_valid, has_status_bit, message_at}
use Rattle.own.specs.declared.Owner.{Owner}
use Rattle.own.specs.Own.{fields_of}
use Rattle.closing.specs.Closing.{is_received}
use Rattle.calls.specs.Relations.{deliver, close, final}
use Rattle.order.specs.Order.{In}
use Rattle.order.specs.Replicas.{LieAlike}

-- field x' of message m' in layout r mirrors field x of message m in layout s: m' is received and has m's width and sign, and the fields lie alike
pub record Mirrors (s r : Layout) (m m' : ℕ) (x x' : FieldRecord) : Type 0 where
  pub field : In x (fields_of s (Owner.Message m))
  pub field' : In x' (fields_of r (Owner.Message m'))
  pub received : is_received r m' ≡ true
  pub width : (message_at s m).width ≡ (message_at r m').width
  pub sign : (message_at s m).sign ≡ (message_at r m').sign
  pub lies : LieAlike s r x x'

-- a message in that state goes out as valid: it has no status bit, or is valid
abbrev pub goes_valid : Message → MessageState → Bool
goes_valid g s = not (has_status_bit g) || is_valid s

-- node r after frame f came to it validly with that data, and the round was closed
abbrev pub after_round : Node → ℕ → List ℕ → Node
after_round r f d = final r (deliver f true d ∷ close ∷ [])
