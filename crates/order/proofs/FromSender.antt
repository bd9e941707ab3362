-- A message at a closing to which it came from a sender in one frame alone. An assembled frame holds, at the places of each of its fields, the held
-- value and the validity of the field's message, and a field that lies alike reads the same places. So the one instance that came carries the value
-- that the sender holds, and counts exactly if the message went out as valid; alone, it is what any agreement gives. All widths and both orders are in
-- the laws of packing; of other messages in the frames and of other frames nothing is asked.
-- Assumes nothing.
use mathlib.Core.Path.{◌≡◌, refl, sym, ap, ◌∙◌}
use mathlib.Core.Bool.{Bool, true, false, cond, true≢false}
use mathlib.Core.List.{List, [], ◌∷◌, map}
use Prim.Native.Nat.{ℕ, ◌<◌}
use native.Mathlib.Decide.{ℕ_discrete}
use native.Mathlib.Omega.{arith}
use lib.Dec.{eqb}
use lib.IntN.{ℤ}
use lib.ListN.{length}
use borrow.Author.Tests.{eq-eqb, not-true}
use Rattle.record.specs.declared.Field.{Field as FieldRecord}
use Rattle.store.specs.declared.Message.{Message}
use Rattle.store.specs.declared.MessageState.{MessageState}
use Rattle.store.specs.Node.{Node, held_value, frame_at, message_at, laid_at, state_at, data_at, with_status}
use Rattle.message.specs.Messages.{can_hold, passes_now, filtered}
use Rattle.message.specs.Fields.{status_places}
use Rattle.own.specs.declared.Owner.{Owner}
use Rattle.own.specs.Own.{chosen, is_in, cells_of, fields_of}
use Rattle.own.proofs.Lists.{Every, all_every}
use Rattle.own.proofs.Owners.{fields_named}
use Rattle.node.specs.Calls.{assemble_answer, assembled}
use Rattle.closing.specs.Closing.{came, status_set, counts, value_in, instances, none_came, closed_state}
use Rattle.node.specs.Sound.{Sound}
use Rattle.node.proofs.Delivered.{data_length}
use Rattle.node.proofs.Meaning.{held_stands, status_stands}
use Rattle.closing.proofs.Rounds.{closed_none}
use Rattle.calls.specs.Relations.{close, receive, value, sees, seen_of, next}
use Rattle.order.specs.Mirror.{Mirrors, goes_valid}
use Rattle.order.proofs.Alone.{alone}
use Rattle.order.proofs.FrameOrder.{every_at, its_cell, field_order, chosen_alone}
use Rattle.order.proofs.Shown.{closed_shown, passed_shown, stopped_shown}

one_is_true : (t : Bool) → eqb (cond t 1 0) 1 ≡ t
one_is_true true = refl
one_is_true false = refl

-- frame x .frame is assembled by s over b, and is what frame x' .frame of r holds
module _ {s r : Node} (sender : Sound s) (receiver : Sound r) {m m' : ℕ} {x x' : FieldRecord} (mirror : Mirrors s.layout r.layout m m' x x')
    (b : List ℕ) (assembles : assemble_answer s x.frame (length b) ≡ 0) (same : data_at r x'.frame ≡ assembled s x.frame b) where
  abbrev g : Message
  g = message_at s.layout m

  abbrev g' : Message
  g' = message_at r.layout m'

  -- the sender's state of it, and the value that it holds
  abbrev out : MessageState
  out = state_at s.state m

  abbrev v : ℤ
  v = held_value g out

  abbrev fields : List FieldRecord
  fields = fields_of r.layout (Owner.Message m')

  -- ---- the field

  -- its cell in the sender's layout
  abbrev d : ℕ
  d = (its_cell sender.layout m mirror.field).0

  known : d < s.layout.field_number
  known = (its_cell sender.layout m mirror.field).1.0

  laid : laid_at s.layout d ≡ x
  laid = (its_cell sender.layout m mirror.field).2

  message : x.message ≡ m
  message = rw laid at (its_cell sender.layout m mirror.field).1.1

  its_number : m < s.layout.message_number
  its_number = rw (laid, message) at (sender.layout.fields d known).message

  in_frame : is_in d (cells_of s.layout (Owner.Frame x.frame)) ≡ true
  in_frame = (fields_named sender.layout (Owner.Frame x.frame) d).1 (known, eq-eqb _ _ (ap (λ (y : FieldRecord). y.frame) laid))

  size : length (data_at r x'.frame) ≡ (frame_at s.layout x.frame).length
  size =
      let (d', its, laid') = its_cell receiver.layout m' mirror.field' in
      data_length receiver x'.frame (rw laid' at (receiver.layout.fields d' its.0).frame) ∙ sym mirror.lies.length

  -- it carries its message's held value
  value_came : value_in r g' x' ≡ v
  unfolding value_in
  value_came =
      let stands = rw (laid, message, mirror.lies.order, mirror.lies.start) at (held_stands sender x.frame b assembles d in_frame) in
      rw (size, ← mirror.width, ← mirror.sign, same) stands

  -- which the receiver's message can hold too
  holds_there : can_hold g' v ≡ true
  unfolding can_hold
  holds_there = rw (← mirror.width, ← mirror.sign) (sender.state.messages m its_number).held

  -- and its status bit, if it has one, says whether the message is valid
  status_came : status_set r x' ≡ goes_valid g out
  unfolding status_set status_places
  status_came = go (ℕ_discrete g.statusbit 0)
    where
      has_bit : x.status ≡ g.statusbit
      has_bit = rw (laid, message) at (sender.layout.fields d known).status

      go : Dec (g.statusbit ≡ 0) → status_set r x' ≡ goes_valid g out
      go (yes none) = rw (← mirror.lies.status, has_bit, none) refl
      go (no some) =
          let its = sender.layout.messages m its_number in
          let one : g.statusbit ≡ 1 = omega (arith, its.statusbit) in
          let bit : x.status ≡ 1 = has_bit ∙ one in
          let bits = status_stands sender x.frame b assembles d in_frame (rw laid bit) in
          let stands = rw (laid, message, bit, mirror.lies.order, mirror.lies.place) at bits in
          rw (size, ← mirror.lies.status, bit, same, one, stands) (one_is_true _)

  -- ---- the message, at a closing

  -- x' came, and of the message's fields in other frames none counts; p is what the caller's place holds
  module _ (here : came r.state x' ≡ true)
      (others : Every (λ y. counts r y ≡ true → y.frame ≡ x'.frame) fields) (p : ℤ) where
    -- it counts exactly if m went out as valid, and no other does
    counting : (t : Bool) → goes_valid g out ≡ t → chosen (counts r) fields ≡ cond t (x' ∷ []) []
    unfolding counts
    counting t e = rw (here, status_came, e) at (chosen_alone (λ y. y.frame) (counts r) fields (field_order receiver.layout m') mirror.field' others)

    some_came : none_came r m' ≡ false
    unfolding none_came
    some_came = go (none_came r m') refl
      where
        go : (t : Bool) → none_came r m' ≡ t → t ≡ false
        go true none = absurd (true≢false (sym here ∙ not-true _ (every_at _ fields ((all_every _ fields).0 none) mirror.field')))
        go false some = refl

    -- alone, what it carries is agreed on
    agreed_there : goes_valid g out ≡ true → closed_state r m' (state_at r.state m') ≡ filtered g' (state_at r.state m') v
    unfolding closed_state instances
    agreed_there valid =
        let (d', its, laid') = its_cell receiver.layout m' mirror.field' in
        let known' : m' < r.layout.message_number = rw its.1 at (receiver.layout.fields d' its.0).message in
        rw (counting true valid, value_came, alone g' v (receiver.layout.messages m' known').agreement holds_there) refl

    -- m went out as valid: its value is put to the receiver's filter
    pub closed_passed : goes_valid g out ≡ true → passes_now g' (state_at r.state m') v ≡ true
        → seen_of (next r close) (receive m' p) ≡ sees 0 (value v)
    closed_passed valid passes = passed_shown receiver m' mirror.received p v holds_there passes (agreed_there valid)

    pub closed_stopped : goes_valid g out ≡ true → passes_now g' (state_at r.state m') v ≡ false
        → seen_of (next r close) (receive m' p) ≡ sees 21 (value p)
    closed_stopped valid fails = stopped_shown receiver m' mirror.received p v fails (agreed_there valid)

    -- as invalid: a frame came, and no instance counts
    pub closed_invalid : goes_valid g out ≡ false → seen_of (next r close) (receive m' p) ≡ sees 22 (value p)
    unfolding instances
    closed_invalid invalid =
        closed_shown receiver m' mirror.received p (with_status 22 (state_at r.state m'))
        (closed_none r m' _ (ap (map (value_in r g')) (counting false invalid)) ∙ rw some_came refl)
