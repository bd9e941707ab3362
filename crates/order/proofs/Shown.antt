-- What a receive shows of a received message after a closing: the status that the closing gave it, and with 0 the value that it holds then.
-- Assumes nothing.
use mathlib.Core.Path.{◌≡◌, refl, ◌∙◌}
use mathlib.Core.Bool.{true, false, cond, not, and-eq-true_iff}
use Prim.Native.Nat.{ℕ, ◌<◌}
use native.Mathlib.Omega.{arith}
use lib.Dec.{eqb, ltb}
use lib.IntN.{ℤ}
use borrow.Author.Tests.{lt-ltb, not-true}
use Rattle.store.specs.declared.Message.{Message}
use Rattle.store.specs.declared.MessageState.{MessageState}
use Rattle.store.specs.Node.{Layout, Node, message_count, is_sent, held_value, message_at, state_at}
use Rattle.message.specs.Messages.{can_hold, passes_now, filtered}
use Rattle.node.specs.Calls.{receive_answer, received_place}
use Rattle.closing.specs.Closing.{closed_state, is_received, close_of}
use Rattle.own.specs.SoundLayout.{SoundLayout}
use Rattle.node.specs.Sound.{Sound}
use Rattle.node.proofs.Closed.{state_closed}
use Rattle.node.proofs.Kept.{pattern_held}
use Rattle.calls.specs.Relations.{close, receive, value, sees, seen_of, next}

-- a message of the layout that is not sent is received
pub is_received_lem : {l : Layout} → SoundLayout l → (m : ℕ) → m < l.message_number → is_sent (message_at l m) ≡ false → is_received l m ≡ true
unfolding is_received
is_received_lem {l} s m known received = rw (lt-ltb m (message_count l) (omega (arith, s.few_messages)), received) refl

module _ {n : Node} (s : Sound n) (m : ℕ) (received : is_received n.layout m ≡ true) where
  abbrev before : MessageState
  before = state_at n.state m

  abbrev its : Message
  its = message_at n.layout m

  pub received_closed : state_at (close_of n) m ≡ closed_state n m before
  received_closed = state_closed s m ∙ rw received refl

  -- p is what the caller's place holds
  module _ (p : ℤ) where
    pub closed_shown : (a : MessageState) → closed_state n m before ≡ a
        → seen_of (next n close) (receive m p) ≡ sees a.status (value (cond (eqb a.status 0) (held_value its a) p))
    unfolding receive_answer received_place is_received
    closed_shown a e =
        let (known, heard) = (and-eq-true_iff (ltb m (message_count n.layout)) (not (is_sent its))).0 received in
        rw (known, not-true (is_sent its) heard, received_closed ∙ e) refl

    -- a value that it can hold and its filter passes
    pub passed_shown : (v : ℤ) → can_hold its v ≡ true → passes_now its before v ≡ true → closed_state n m before ≡ filtered its before v
        → seen_of (next n close) (receive m p) ≡ sees 0 (value v)
    unfolding filtered
    passed_shown v fits passes e = rw (passes, pattern_held its v fits) at (closed_shown (filtered its before v) e)

    -- and one that its filter does not pass
    pub stopped_shown : (v : ℤ) → passes_now its before v ≡ false → closed_state n m before ≡ filtered its before v
        → seen_of (next n close) (receive m p) ≡ sees 21 (value p)
    unfolding filtered
    stopped_shown v fails e = rw fails at (closed_shown (filtered its before v) e)
