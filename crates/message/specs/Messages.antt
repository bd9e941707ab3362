-- What a call or a closing makes of one message: its state from the one before, by what the layout says of it.
-- Assumes nothing.
use Rattle.std.specs.Prelude.{Bool, not, cond, ◌&&◌, Option, Some, None, List, [], ◌∷◌, ℕ, ℤ}
use Rattle.packing.specs.Values.{in_range, pattern_of}
use Rattle.float.specs.Patterns.{aside}
use Rattle.agreement.specs.Agreement.{agreed}
use Rattle.agreement.specs.Floats.{floats_agreed}
use Rattle.filter.specs.Filter.{passes}
use Rattle.store.specs.declared.Message.{Message}
use Rattle.store.specs.declared.MessageState.{MessageState}
use Rattle.store.specs.Node.{is_signed, is_float, held_value, with_valid, with_status, with_held}

-- ---- sending

-- the values that a message can hold: those of its range, and of a float, whose values are patterns, the finite ones
unfoldable pub can_hold : Message → ℤ → Bool
can_hold g v = in_range (is_signed g) g.width v && not (is_float g && aside (pattern_of 32 v))

-- the message's filter passes the value; old is the value that the message holds
unfoldable pub passes_now : Message → MessageState → ℤ → Bool
passes_now g s v = passes g.filter g.sign g.x1 g.x2 v (held_value g s)

-- invalidate makes the message invalid; nothing else changes
abbrev pub invalidated : MessageState → MessageState
invalidated s = with_valid 0 s

-- the value goes to the filter: if it passes it is held and the message is valid; if not, the held value stays and the message is invalid
unfoldable pub offered : Message → MessageState → ℤ → MessageState
offered g s v = cond (passes_now g s v) (with_valid 1 (with_held (pattern_of 32 v) s)) (invalidated s)

-- ---- closing

-- how a round ends for a received message
pub data Ending : Type 0 where
  -- no frame of it was delivered
  not_received : Ending
  -- some were, but no instance counts
  invalid : Ending
  -- its agreement has no result
  failed : Ending
  -- what was agreed on does not pass its filter
  stopped : Ending
  -- what was agreed on is held
  held : Ending

-- the paper's number for each: 0 OK, 20 RDA_FAILED, 21 NOT_RECEIVED, 22 INVALIDATED
abbrev pub status_of : Ending → ℕ
status_of not_received = 21
status_of invalid = 22
status_of failed = 20
status_of stopped = 21
status_of held = 0

-- what the counting instances agree on, by the message's agreement: whole numbers, or floats
unfoldable pub agreed_by : Message → List ℤ → Option ℤ
agreed_by g l = cond (is_float g) (floats_agreed g.agreement l) (agreed g.agreement l)

-- an agreed value goes to the filter: if it passes it is held; if not, the held value stays
unfoldable pub filtered : Message → MessageState → ℤ → MessageState
filtered g s v = cond (passes_now g s v) (with_status (status_of held) (with_held (pattern_of 32 v) s)) (with_status (status_of stopped) s)

-- if there is one
abbrev pub agreed_on : Message → MessageState → Option ℤ → MessageState
agreed_on g s None = with_status (status_of failed) s
agreed_on g s (Some v) = filtered g s v

-- the state after a round in which none of its frames came, or some did, and those instances count
abbrev pub settled : Message → MessageState → Bool → List ℤ → MessageState
settled g s none [] = with_status (cond none (status_of not_received) (status_of invalid)) s
settled g s none (v ∷ l) = agreed_on g s (agreed_by g (v ∷ l))
