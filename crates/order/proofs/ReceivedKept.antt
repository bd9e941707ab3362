-- From one closing to the next no call changes the state of a message that is not sent: a send and an invalidate alone write a message's state, each
-- that of the message it names, which is a sent one where they answer 0.
-- Assumes nothing.
use mathlib.Core.Path.{◌≡◌, refl, sym, ap, ◌∙◌}
use mathlib.Core.Bool.{true, false, not, and-eq-true_iff, true≢false}
use mathlib.Core.List.{List, [], ◌∷◌}
use Prim.Native.Nat.{ℕ}
use lib.Dec.{eqb, ltb}
use lib.ListN.{length}
use lib.Seq.{get_or-set_other}
use borrow.Author.Tests.{eqb-true, not-true}
use Rattle.store.specs.Node.{Layout, State, Node, message_count, is_sent, no_state, message_at, state_at}
use Rattle.own.proofs.Lists.{by_test}
use Rattle.closing.specs.Closing.{is_received}
use Rattle.node.specs.Calls.{outcome, send_answer, send_of, invalidate_answer, invalidate_of, assemble_answer, assemble_of, consumed_answer, consumed_of}
use Rattle.node.specs.Calls.{deliver_answer, deliver_of}
use Rattle.node.proofs.Answers.{send_access, invalidate_access}
use Rattle.calls.specs.Relations.{Call, send, invalidate, assemble, consumed, read_flag, deliver, close, receive, next, final}
use Rattle.order.specs.Order.{there}
use Rattle.order.specs.Deliveries.{OneRound}
use Rattle.order.proofs.Among.{in_eq}
use Rattle.order.proofs.Kept.{kept_layout}

-- what holds of the state before and, if the answer is 0, of the new one, holds after the call
pub by_answer : (P : State → Type 0) (n : Node) (a : ℕ) (k : State) → P n.state → (a ≡ 0 → P k) → P (outcome a k n).node.state
by_answer P n a k before h = by_test P (eqb a 0) (λ t. h (eqb-true a 0 t)) (λ t. before)

module _ (n : Node) (m : ℕ) (not_sent : is_sent (message_at n.layout m) ≡ false) where
  other : (i : ℕ) → is_sent (message_at n.layout i) ≡ true → m ≡ i → ⊥
  other i sent e = true≢false (sym sent ∙ ap (λ (k : ℕ). is_sent (message_at n.layout k)) (sym e) ∙ not_sent)

  abbrev Stays : State → Type 0
  Stays k = state_at k m ≡ state_at n.state m

  one_call : (c : Call) → (c ≡ close → ⊥) → state_at (next n c).state m ≡ state_at n.state m
  unfolding send_of invalidate_of assemble_of consumed_of deliver_of
  one_call (send i v) no-close =
      by_answer Stays n (send_answer n.layout i v) _ refl
      (λ e. get_or-set_other n.state.messages i m _ no_state (other i (send_access n.layout i v e)))
  one_call (invalidate i) no-close =
      by_answer Stays n (invalidate_answer n.layout i) _ refl
      (λ e. get_or-set_other n.state.messages i m _ no_state (other i (invalidate_access n.layout i e)))
  one_call (assemble f b) no-close = by_answer Stays n (assemble_answer n f (length b)) _ refl (λ e. refl)
  one_call (consumed f) no-close = by_answer Stays n (consumed_answer n.layout f) _ refl (λ e. refl)
  one_call (read_flag i p) no-close = refl
  one_call (deliver f valid d) no-close =
      by_answer Stays n (deliver_answer n.layout f (length d)) _ refl (λ e. by_test Stays valid (λ t. refl) (λ t. refl))
  one_call close no-close = absurd (no-close refl)
  one_call (receive i p) no-close = refl

-- of all calls of a round
pub round_kept : (n : Node) (m : ℕ) → is_sent (message_at n.layout m) ≡ false → (l : List Call) → OneRound l
    → state_at (final n l).state m ≡ state_at n.state m
round_kept n m not_sent [] round = refl
round_kept n m not_sent (c ∷ l) round =
    round_kept (next n c) m (rw (kept_layout n c) not_sent) l (λ i. round (there i)) ∙ one_call n m not_sent c (λ e. round (in_eq (sym e)))

pub received_not_sent : (l : Layout) (m : ℕ) → is_received l m ≡ true → is_sent (message_at l m) ≡ false
unfolding is_received
received_not_sent l m received = not-true _ ((and-eq-true_iff (ltb m (message_count l)) (not (is_sent (message_at l m)))).0 received).1

pub received_kept : (n : Node) (m : ℕ) → is_received n.layout m ≡ true → (l : List Call) → OneRound l
    → state_at (final n l).state m ≡ state_at n.state m
received_kept n m received = round_kept n m (received_not_sent n.layout m received)
