-- The old value is the message's value: a filter is asked with the value that the message holds, and a receive that answers 0 shows it. What a sent message
-- holds is written by a send of it alone: an invalidate writes its validity, and a closing the states of received messages.
-- Assumes nothing.
use mathlib.Core.Path.{◌≡◌, refl, ap, ◌∙◌}
use mathlib.Core.Bool.{true, and-false}
use mathlib.Core.List.{List, [], ◌∷◌}
use Prim.Native.Nat.{ℕ, ◌<◌}
use native.Mathlib.Decide.{ℕ_discrete, dec_lt}
use native.Mathlib.Omega.{arith}
use lib.Dec.{ltb}
use lib.IntN.{ℤ, pos}
use lib.ListN.{length, get_or, set}
use lib.Seq.{get_or-set_same, get_or-set_other, set_out}
use Rattle.store.specs.declared.MessageState.{MessageState}
use Rattle.store.specs.Node.{State, Node, message_count, is_sent, held_value, no_state, message_at, state_at}
use Rattle.message.specs.Messages.{passes_now}
use Rattle.own.proofs.Lists.{by_test}
use Rattle.closing.specs.Closing.{is_received}
use Rattle.node.specs.Calls.{send_answer, send_of, invalidate_answer, invalidate_of, assemble_answer, assemble_of, consumed_answer, consumed_of}
use Rattle.node.specs.Calls.{deliver_answer, deliver_of, receive_answer, received_place}
use Rattle.node.specs.Sound.{Sound}
use Rattle.node.proofs.Closed.{state_closed}
use Rattle.calls.specs.Relations.{Call, send, invalidate, assemble, consumed, read_flag, deliver, close, receive}
use Rattle.calls.specs.Relations.{Lent, nothing, buffer, flag, value, Seen, sees, seen_of, next, final}
use Rattle.order.specs.Order.{there}
use Rattle.order.specs.Flag.{with_answer, succeeded, Sent}
use Rattle.order.specs.Old.{ComparesWith}
use Rattle.order.proofs.Among.{in_eq}
use Rattle.order.proofs.Kept.{kept_layout, kept_sound}
use Rattle.order.proofs.ReceivedKept.{by_answer}

-- ---- what old is

pub old_held : (n : Node) (m : ℕ) → ComparesWith n m (held_value (message_at n.layout m) (state_at n.state m))
unfolding passes_now
old_held n m new = refl

-- the value in a place
abbrev placed : Lent → ℤ
placed nothing = pos 0
placed (buffer b) = pos 0
placed (flag k) = pos 0
placed (value v) = v

pub old_received : (n : Node) (m : ℕ) (v p : ℤ) → seen_of n (receive m p) ≡ sees 0 (value v) → ComparesWith n m v
unfolding received_place
old_received n m v p e =
    let answer : receive_answer n m ≡ 0 = ap (λ (x : Seen). x.answer) e in
    let place : received_place n m p ≡ v = ap (λ (x : Seen). placed x.lent) e in
    rw (rw answer at place) at (old_held n m)

-- ---- how long it stays

-- a state written over another that holds the same
held_after : (l : List MessageState) (i m : ℕ) (t : MessageState) → t.held ≡ (get_or l i no_state).held
    → (get_or (set l i t) m no_state).held ≡ (get_or l m no_state).held
held_after l i m t same = go (ℕ_discrete m i) (dec_lt i (length l))
  where
    go : Dec (m ≡ i) → Dec (i < length l) → (get_or (set l i t) m no_state).held ≡ (get_or l m no_state).held
    go (no other) room = ap (λ (s : MessageState). s.held) (get_or-set_other l i m t no_state other)
    go (yes e) (yes room) = rw (e, get_or-set_same l i t no_state room) same
    go (yes e) (no past) = rw (set_out l i t (omega arith)) refl

module _ {n : Node} (s : Sound n) (m : ℕ) (sent : is_sent (message_at n.layout m) ≡ true) where
  abbrev Stays : State → Type 0
  Stays k = (state_at k m).held ≡ (state_at n.state m).held

  -- a call that is not a send of the message with answer 0
  one_call : (c : Call) → ((v : ℤ) → succeeded (send m v) ≡ with_answer n c → ⊥) → Stays (next n c).state
  unfolding send_of invalidate_of assemble_of consumed_of deliver_of is_received
  one_call (send i v) none =
      by_answer Stays n (send_answer n.layout i v) _ refl
      (λ ok. ap (λ (x : MessageState). x.held) (get_or-set_other n.state.messages i m _ no_state (λ e. none v (rw (e, ok) refl))))
  one_call (invalidate i) none = by_answer Stays n (invalidate_answer n.layout i) _ refl (λ ok. held_after n.state.messages i m _ refl)
  one_call (assemble f b) none = by_answer Stays n (assemble_answer n f (length b)) _ refl (λ ok. refl)
  one_call (consumed f) none = by_answer Stays n (consumed_answer n.layout f) _ refl (λ ok. refl)
  one_call (read_flag i p) none = refl
  one_call (deliver f valid d) none =
      by_answer Stays n (deliver_answer n.layout f (length d)) _ refl (λ ok. by_test Stays valid (λ t. refl) (λ t. refl))
  one_call close none = rw (state_closed s m, sent, and-false (ltb m (message_count n.layout))) refl
  one_call (receive i p) none = refl

pub sent_kept : {n : Node} → Sound n → (m : ℕ) → is_sent (message_at n.layout m) ≡ true → (l : List Call) → (Sent n m l → ⊥)
    → (state_at (final n l).state m).held ≡ (state_at n.state m).held
sent_kept s m sent [] none = refl
sent_kept {n = n} s m sent (c ∷ l) none =
    sent_kept {n = next n c} (kept_sound s c) m (rw (kept_layout n c) sent) l (λ t. none (t.0, there t.1)) ∙ one_call s m sent c (λ v e. none (v, in_eq e))
