-- What a closing leaves of the state of each message, and of the delivery of each frame, of a sound node.
-- Assumes nothing.
use mathlib.Core.Path.{◌≡◌, sym, ◌∙◌}
use mathlib.Core.Bool.{true, false, cond}
use Prim.Native.Nat.{ℕ, ◌<◌, ◌≤◌}
use native.Mathlib.Decide.{dec_lt}
use native.Mathlib.Omega.{arith}
use lib.Dec.{ltb}
use lib.ListN.{length, get_or-eq_default}
use borrow.Author.Tests.{lt-ltb, le-ltb}
use Rattle.store.specs.Node.{Node, frame_count, message_count, no_delivery, no_state, delivery_at, state_at}
use Rattle.closing.specs.Closing.{closed_state, is_received, close_messages, forget, close_of}
use Rattle.node.specs.Sound.{Sound}
use Rattle.own.proofs.Lists.{changed_length, changed_at}

module _ {n : Node} (s : Sound n) where
  -- a received message is closed, and any other stays
  pub state_closed : (m : ℕ)
      → state_at (close_of n) m ≡ cond (is_received n.layout m) (closed_state n m (state_at n.state m)) (state_at n.state m)
  unfolding close_of forget close_messages is_received
  state_closed m = go (dec_lt m (length n.state.messages))
    where
      go : Dec (m < length n.state.messages)
          → state_at (close_of n) m ≡ cond (is_received n.layout m) (closed_state n m (state_at n.state m)) (state_at n.state m)
      go (yes l) = changed_at (is_received n.layout) (closed_state n) n.state.messages m no_state l
      go (no l) =
          let past : ltb m (message_count n.layout) ≡ false = le-ltb m (message_count n.layout) (omega arith) in
          let end : length (close_of n).messages ≤ m =
          rw (changed_length (is_received n.layout) (closed_state n) 0 n.state.messages) (omega arith) in
          rw past (get_or-eq_default (close_of n).messages no_state end ∙ sym (get_or-eq_default n.state.messages no_state (omega arith)))

  -- the delivery of a frame is forgotten
  pub delivery_closed : (f : ℕ) → f < n.layout.frame_number → delivery_at (close_of n) f ≡ no_delivery
  unfolding close_of forget close_messages
  delivery_closed f l =
      let known : ltb f (frame_count n.layout) ≡ true = lt-ltb f (frame_count n.layout) (omega arith) in
      rw known at (changed_at (λ i. ltb i (frame_count n.layout)) (λ i y. no_delivery) n.state.deliveries f no_delivery (omega arith))
