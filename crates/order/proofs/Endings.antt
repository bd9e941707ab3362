-- How a round ends for a received message of which no value is shown, and what a send holds. Where no field of the message counts there is no instance,
-- and whether one of its frames came says 21 or 22; where one counts, no agreement says 20 and the filter 21. By cases on the ending, nothing
-- but the status changes unless it is 0.
-- Assumes nothing.
use mathlib.Core.Path.{◌≡◌, refl, sym, ap, ◌∙◌}
use mathlib.Core.Bool.{Bool, true, false, not, and-eq-true_iff, true≢false}
use mathlib.Core.List.{List, [], ◌∷◌, map}
use Prim.Native.Nat.{ℕ, ◌<◌}
use native.Mathlib.Decide.{dec_lt}
use native.Mathlib.Omega.{arith}
use lib.IntN.{ℤ}
use lib.ListN.{length, get_or, set, get_or-eq_default}
use lib.Seq.{get_or-set_same, set_out}
use borrow.Author.Tests.{eqb-true, eq-eqb}
use Rattle.std.specs.Prelude.{Option, Some, None}
use Rattle.record.specs.declared.Field.{Field as FieldRecord}
use Rattle.store.specs.declared.Message.{Message}
use Rattle.store.specs.declared.MessageState.{MessageState}
use Rattle.store.specs.Node.{Node, is_delivered, is_valid, held_value, message_at, laid_at, delivery_at, no_state, state_at, with_status}
use Rattle.message.specs.Messages.{passes_now, invalidated, offered, agreed_by, filtered, agreed_on, settled}
use Rattle.own.specs.declared.Owner.{Owner}
use Rattle.own.specs.Own.{chosen, fields_of}
use Rattle.own.proofs.Lists.{Every, chosen_each, all_every}
use Rattle.own.proofs.Owners.{fields_named}
use Rattle.closing.specs.Closing.{came, status_set, counts, value_in, instances, none_came, closed_state, is_received}
use Rattle.node.specs.Calls.{send_of}
use Rattle.node.specs.Sound.{Sound}
use Rattle.closing.proofs.Rounds.{closed_none, closed_some}
use Rattle.calls.specs.Relations.{send, close, receive, value, Seen, answer_of, sees, seen_of, next}
use Rattle.order.specs.Counting.{CountingField}
use Rattle.order.proofs.Chosen.{no_element, each_field, some_field}
use Rattle.order.proofs.Shown.{received_closed, closed_shown, stopped_shown}
use Rattle.order.proofs.ThereAndBack.{sent_state, passed_message}
use Rattle.order.proofs.Counting.{own_counting, some_instance}

-- ---- a closing

-- a status other than 0 is all that changes
settled_otherwise : (g : Message) (s : MessageState) (none : Bool) (l : List ℤ) → ((settled g s none l).status ≡ 0 → ⊥)
    → settled g s none l ≡ with_status (settled g s none l).status s
unfolding filtered
settled_otherwise g s none [] h = refl
settled_otherwise g s none (v ∷ l) h = go (agreed_by g (v ∷ l)) h
  where
    by_filter : (v : ℤ) (t : Bool) → passes_now g s v ≡ t → ((filtered g s v).status ≡ 0 → ⊥) → filtered g s v ≡ with_status (filtered g s v).status s
    by_filter v true t h = absurd (h (rw t refl))
    by_filter v false t h = rw t refl

    go : (a : Option ℤ) → ((agreed_on g s a).status ≡ 0 → ⊥) → agreed_on g s a ≡ with_status (agreed_on g s a).status s
    go None h = refl
    go (Some v) h = by_filter v (passes_now g s v) refl h

module _ {n : Node} (s : Sound n) (m : ℕ) (received : is_received n.layout m ≡ true) where
  abbrev g : Message
  g = message_at n.layout m

  abbrev before : MessageState
  before = state_at n.state m

  abbrev fields : List FieldRecord
  fields = fields_of n.layout (Owner.Message m)

  -- the frame of field d was delivered
  abbrev delivered : ℕ → Bool
  delivered d = is_delivered (delivery_at n.state (laid_at n.layout d).frame)

  no_instance : ((e : ℕ) → CountingField n m e → ⊥) → instances n m ≡ []
  unfolding instances
  no_instance none =
      ap (map (value_in n g))
      (no_element (chosen (counts n) fields)
      (chosen_each (counts n) (λ x. ⊥) fields
      (each_field n.layout (Owner.Message m) (λ x. counts n x ≡ true → ⊥) (λ d i t. none d (own_counting s m d i t)))))

  pub none_delivered : ((d : ℕ) → d < n.layout.field_number → (laid_at n.layout d).message ≡ m → delivered d ≡ false)
      → (p : ℤ) → seen_of (next n close) (receive m p) ≡ sees 21 (value p)
  unfolding counts came none_came
  none_delivered none p =
      closed_shown s m received p (with_status 21 before)
      (closed_none n m before (no_instance not_counting) ∙ rw ((all_every _ fields).1 absent) refl)
    where
      not_counting : (e : ℕ) → CountingField n m e → ⊥
      not_counting e t =
          let here = ((and-eq-true_iff (delivered e) (status_set n (laid_at n.layout e))).0 t.counting).0 in
          true≢false (sym here ∙ none e t.field t.message)

      absent : Every (λ x. not (came n.state x) ≡ true) fields
      absent =
          each_field n.layout (Owner.Message m) _
          (λ d i. let (field, names) = (fields_named s.layout (Owner.Message m) d).0 i in rw (none d field (eqb-true _ m names)) refl)

  pub none_counting : (d : ℕ) → d < n.layout.field_number → (laid_at n.layout d).message ≡ m → delivered d ≡ true
      → ((e : ℕ) → CountingField n m e → ⊥) → (p : ℤ) → seen_of (next n close) (receive m p) ≡ sees 22 (value p)
  unfolding came none_came
  none_counting d field mine here none p =
      let its = (fields_named s.layout (Owner.Message m) d).1 (field, eq-eqb _ m mine) in
      let some = (some_field n.layout (Owner.Message m) (came n.state)).1 (d, its, here) in
      closed_shown s m received p (with_status 22 before) (closed_none n m before (no_instance none) ∙ rw some refl)

  module _ (d : ℕ) (counting : CountingField n m d) where
    agreed_closed : (a : Option ℤ) → agreed_by g (instances n m) ≡ a → closed_state n m before ≡ agreed_on g before a
    agreed_closed a e = closed_some n m before (some_instance s m d counting) ∙ ap (agreed_on g before) e

    pub none_agreed : agreed_by g (instances n m) ≡ None → (p : ℤ) → seen_of (next n close) (receive m p) ≡ sees 20 (value p)
    none_agreed e p = closed_shown s m received p (with_status 20 before) (agreed_closed None e)

    pub agreed_stopped : (v : ℤ) → agreed_by g (instances n m) ≡ Some v → passes_now g before v ≡ false
        → (p : ℤ) → seen_of (next n close) (receive m p) ≡ sees 21 (value p)
    agreed_stopped v e fails p = stopped_shown s m received p v fails (agreed_closed (Some v) e)

  pub not_held : (p : ℤ) → (answer_of (next n close) (receive m p) ≡ 0 → ⊥)
      → state_at (next n close).state m ≡ with_status (answer_of (next n close) (receive m p)) before
  unfolding closed_state
  not_held p h =
      let answer = ap (λ (x : Seen). x.answer) (closed_shown s m received p _ refl) in
      received_closed s m received
      ∙ settled_otherwise g before (none_came n m) (instances n m) (λ e. h (answer ∙ e))
      ∙ ap (λ (k : ℕ). with_status k before) (sym answer)

-- ---- a send

pub sent_holds : {n : Node} → Sound n → (m : ℕ) (v : ℤ) → answer_of n (send m v) ≡ 0
    → passes_now (message_at n.layout m) (state_at n.state m) v ≡ true
    → (held_value (message_at n.layout m) (state_at (next n (send m v)).state m) ≡ v) × (is_valid (state_at (next n (send m v)).state m) ≡ true)
unfolding offered
sent_holds s m v ok passes = ((passed_message s m v ok passes).1, rw (sent_state s m v ok, passes) refl)

-- a state that has no cell for the message has it as invalid, and stays
pub filtered_holds : (n : Node) (m : ℕ) (v : ℤ) → answer_of n (send m v) ≡ 0
    → passes_now (message_at n.layout m) (state_at n.state m) v ≡ false
    → state_at (next n (send m v)).state m ≡ invalidated (state_at n.state m)
unfolding send_of offered
filtered_holds n m v ok fails = rw ok (go (dec_lt m (length states)))
  where
    states : List MessageState
    states = n.state.messages

    after : MessageState
    after = offered (message_at n.layout m) (state_at n.state m) v

    go : Dec (m < length states) → get_or (set states m after) m no_state ≡ invalidated (get_or states m no_state)
    go (yes room) = rw (get_or-set_same states m after no_state room, fails) refl
    go (no past) = rw (set_out states m after (omega arith), get_or-eq_default states no_state {n = m} (omega arith)) refl
