-- There and back: what a node sends, a node that mirrors its field receives. What the sender assembles is delivered with its length and kept as it
-- came; the closing then shows what the sender holds, or 21 or 22. A send whose value the filter passes makes the message valid with that value; any
-- other makes it invalid, and so does invalidating, and then the message has a status bit that says so.
-- Assumes nothing.
use mathlib.Core.Path.{◌≡◌, refl, sym, subst, ◌∙◌}
use mathlib.Core.Bool.{true, false, not, and-eq-true_iff, or-true, true≢false}
use mathlib.Core.List.{List, []}
use Prim.Native.Nat.{ℕ, ◌<◌}
use native.Mathlib.Decide.{ℕ_discrete}
use native.Mathlib.Omega.{arith}
use lib.Dec.{ltb}
use lib.IntN.{ℤ}
use lib.ListN.{length}
use lib.Seq.{get_or-set_same, get_or-set_other}
use borrow.Author.Tests.{lt-ltb, eq-eqb, ne_eqb, not-true}
use Rattle.record.specs.declared.Field.{Field as FieldRecord}
use Rattle.store.specs.declared.Message.{Message}
use Rattle.store.specs.Node.{Delivery, Node, frame_count, message_count, has_status_bit, is_sent_frame, held_value, no_delivery, no_state}
use Rattle.store.specs.Node.{frame_at, message_at, delivery_at, state_at, data_at, with_delivery, node_with}
use Rattle.message.specs.Messages.{passes_now, offered, invalidated}
use Rattle.message.proofs.Passed.{true_passes}
use Rattle.own.specs.declared.Owner.{Owner}
use Rattle.own.specs.Own.{fields_of}
use Rattle.own.specs.SoundLayout.{SoundField}
use Rattle.own.proofs.Lists.{Every, every_more}
use Rattle.node.specs.Calls.{send_of, invalidate_of}
use Rattle.node.specs.Calls.{assemble_answer, assemble_of, assembled, deliver_answer, kept, deliver_of}
use Rattle.closing.specs.Closing.{came, status_set, counts, instances, is_received}
use Rattle.node.specs.Sound.{Sound}
use Rattle.node.proofs.Answers.{send_tests, send_access, invalidate_tests, invalidate_status}
use Rattle.node.proofs.Delivered.{kept_data}
use Rattle.node.proofs.Kept.{pattern_held}
use Rattle.node.proofs.Meaning.{assembled_length}
use Rattle.calls.specs.Relations.{send, invalidate, assemble, deliver, receive, value, answer_of, sees, seen_of, next}
use Rattle.order.specs.Mirror.{Mirrors, goes_valid, after_round}
use Rattle.order.proofs.Kept.{kept_sound}
use Rattle.order.proofs.Chosen.{chosen_none}
use Rattle.order.proofs.FrameOrder.{its_cell}
use Rattle.order.proofs.FromSender.{closed_passed, closed_stopped, closed_invalid}

-- ---- one round

-- what s assembles of x's frame comes to r as x''s frame, in a round in which no other instance of message m' counts; p is what the caller's place held
module _ {s r : Node} (sender : Sound s) (receiver : Sound r) {m m' : ℕ} {x x' : FieldRecord} (mirror : Mirrors s.layout r.layout m m' x x')
    (fresh : instances r m' ≡ []) (b : List ℕ) (ok : answer_of s (assemble x.frame b) ≡ 0) (p : ℤ) where
  abbrev sent : List ℕ
  sent = assembled s x.frame b

  abbrev fields : List FieldRecord
  fields = fields_of r.layout (Owner.Message m')

  assembles : assemble_answer s x.frame (length b) ≡ 0
  unfolding assemble_of
  assembles = ok

  -- x' as the receiver's layout has it
  its_field : SoundField r.layout (its_cell receiver.layout m' mirror.field').0 x'
  its_field =
      let (d, its, laid) = its_cell receiver.layout m' mirror.field' in
      subst (SoundField r.layout d) laid (receiver.layout.fields d its.0)

  its_message_lem : x'.message ≡ m'
  its_message_lem = let (d, its, laid) = its_cell receiver.layout m' mirror.field' in rw laid at its.1

  size : length sent ≡ (frame_at r.layout x'.frame).length
  size = assembled_length s x.frame b assembles ∙ mirror.lies.length

  accepted : answer_of r (deliver x'.frame true sent) ≡ 0
  unfolding deliver_of deliver_answer is_received
  accepted =
      let known : x'.frame < frame_count r.layout = omega (arith, its_field.frame, receiver.layout.few_frames) in
      let heard = not-true _ ((and-eq-true_iff (ltb m' (message_count r.layout)) _).0 mirror.received).1 in
      let direction : is_sent_frame (frame_at r.layout x'.frame) ≡ false = rw (← its_field.directions, its_message_lem) heard in
      rw (lt-ltb x'.frame (frame_count r.layout) known, direction, eq-eqb (length sent) (frame_at r.layout x'.frame).length size) refl

  abbrev came_in : Delivery
  came_in = kept (delivery_at r.state x'.frame) sent

  abbrev after : Node
  after = node_with r (with_delivery r.state x'.frame came_in)

  delivered : next r (deliver x'.frame true sent) ≡ after
  unfolding deliver_of
  delivered = rw accepted refl

  sound_after : Sound after
  sound_after = rw delivered at (kept_sound receiver (deliver x'.frame true sent))

  delivery_after : delivery_at after.state x'.frame ≡ came_in
  delivery_after =
      let room : x'.frame < length r.state.deliveries =
      omega (arith, its_field.frame, receiver.layout.few_frames, receiver.state.delivery_cells) in
      get_or-set_same r.state.deliveries x'.frame came_in no_delivery room

  data_after : data_at after x'.frame ≡ sent
  data_after =
      rw delivery_after
      (kept_data (frame_at r.layout x'.frame) (delivery_at r.state x'.frame) sent (receiver.state.deliveries x'.frame its_field.frame)
      (receiver.layout.frames x'.frame its_field.frame).length_to size)

  here : came after.state x' ≡ true
  unfolding came kept
  here = rw delivery_after refl

  -- a field in another frame counts as before, and so does not
  others : Every (λ y. counts after y ≡ true → y.frame ≡ x'.frame) fields
  unfolding instances counts came status_set
  others = every_more _ _ other fields (chosen_none (counts r) _ fields fresh)
    where
      other : (y : FieldRecord) → counts r y ≡ false → counts after y ≡ true → y.frame ≡ x'.frame
      other y none t = go (ℕ_discrete y.frame x'.frame)
        where
          go : Dec (y.frame ≡ x'.frame) → y.frame ≡ x'.frame
          go (yes same) = same
          go (no away) =
              let stays = get_or-set_other r.state.deliveries x'.frame y.frame came_in no_delivery away in
              absurd (true≢false (sym (rw stays at t) ∙ none))

  -- the value that s holds of m
  abbrev v : ℤ
  v = held_value (message_at s.layout m) (state_at s.state m)

  -- m goes out as valid: it is received with that value, or 21 if the receiver's filter does not pass it
  module _ (valid : goes_valid (message_at s.layout m) (state_at s.state m) ≡ true) where
    pub held_received : passes_now (message_at r.layout m') (state_at r.state m') v ≡ true
        → seen_of (after_round r x'.frame sent) (receive m' p) ≡ sees 0 (value v)
    held_received passes = rw delivered (closed_passed sender sound_after mirror b assembles data_after here others p valid passes)

    held_stopped : passes_now (message_at r.layout m') (state_at r.state m') v ≡ false
        → seen_of (after_round r x'.frame sent) (receive m' p) ≡ sees 21 (value p)
    held_stopped fails = rw delivered (closed_stopped sender sound_after mirror b assembles data_after here others p valid fails)

  -- as invalid: 22, and the place stays
  pub cleared_received : goes_valid (message_at s.layout m) (state_at s.state m) ≡ false
      → seen_of (after_round r x'.frame sent) (receive m' p) ≡ sees 22 (value p)
  cleared_received invalid = rw delivered (closed_invalid sender sound_after mirror b assembles data_after here others p invalid)

-- ---- the message after a call on the sender

module _ {s : Node} (sender : Sound s) (m : ℕ) where
  abbrev g : Message
  g = message_at s.layout m

  cell : m < s.layout.message_number → m < length s.state.messages
  cell l = omega (arith, sender.layout.few_messages, sender.state.message_cells)

  pub sent_state : (v : ℤ) → answer_of s (send m v) ≡ 0 → state_at (next s (send m v)).state m ≡ offered g (state_at s.state m) v
  unfolding send_of
  sent_state v ok =
      let room = cell (send_tests s.layout m v ok).0 in
      rw ok (get_or-set_same s.state.messages m (offered g (state_at s.state m) v) no_state room)

  pub passed_message : (v : ℤ) → answer_of s (send m v) ≡ 0 → passes_now g (state_at s.state m) v ≡ true
      → (goes_valid g (state_at (next s (send m v)).state m) ≡ true) × (held_value g (state_at (next s (send m v)).state m) ≡ v)
  unfolding send_of offered
  passed_message v ok passes = rw (sent_state v ok, passes) (or-true (not (has_status_bit g)), pattern_held g v (send_tests s.layout m v ok).1)

  -- a filter that does not pass is not True, and so the message, which is sent, has a status bit
  filtered_bit : (v : ℤ) → answer_of s (send m v) ≡ 0 → passes_now g (state_at s.state m) v ≡ false → has_status_bit g ≡ true
  unfolding send_of
  filtered_bit v ok fails = go (ℕ_discrete g.statusbit 0)
    where
      go : Dec (g.statusbit ≡ 0) → has_status_bit g ≡ true
      go (yes none) =
          let sent = send_access s.layout m v ok in
          let filter : g.filter ≡ 0 = (sender.layout.messages m (send_tests s.layout m v ok).0).heard sent none in
          absurd (true≢false (sym (true_passes g (state_at s.state m) v filter) ∙ fails))
      go (no some) = rw (ne_eqb g.statusbit 0 some) refl

  filtered_message : (v : ℤ) → answer_of s (send m v) ≡ 0 → passes_now g (state_at s.state m) v ≡ false
      → goes_valid g (state_at (next s (send m v)).state m) ≡ false
  unfolding offered
  filtered_message v ok fails = rw (sent_state v ok, fails, filtered_bit v ok fails) refl

  invalidated_message : answer_of s (invalidate m) ≡ 0 → goes_valid g (state_at (next s (invalidate m)).state m) ≡ false
  unfolding invalidate_of
  invalidated_message ok =
      let room = cell (invalidate_tests s.layout m ok) in
      rw (ok, get_or-set_same s.state.messages m (invalidated (state_at s.state m)) no_state room, invalidate_status s.layout m ok) refl

-- ---- there and back

module _ {s r : Node} (sender : Sound s) (receiver : Sound r) {m m' : ℕ} {x x' : FieldRecord} (mirror : Mirrors s.layout r.layout m m' x x')
    (fresh : instances r m' ≡ []) (b : List ℕ) (p : ℤ) where
  -- a value sent and passed by the sender's filter
  module _ (v : ℤ) (sent : answer_of s (send m v) ≡ 0) (passed : passes_now (message_at s.layout m) (state_at s.state m) v ≡ true)
      (ok : answer_of (next s (send m v)) (assemble x.frame b) ≡ 0) where
    -- and by the receiver's is received as sent
    pub sent_received : passes_now (message_at r.layout m') (state_at r.state m') v ≡ true
        → seen_of (after_round r x'.frame (assembled (next s (send m v)) x.frame b)) (receive m' p) ≡ sees 0 (value v)
    unfolding send_of
    sent_received passes =
        let (valid, held) = passed_message sender m v sent passed in
        rw held at (held_received (kept_sound sender (send m v)) receiver mirror fresh b ok p valid (rw held passes))

    -- and not by the receiver's: 21
    pub sent_stopped : passes_now (message_at r.layout m') (state_at r.state m') v ≡ false
        → seen_of (after_round r x'.frame (assembled (next s (send m v)) x.frame b)) (receive m' p) ≡ sees 21 (value p)
    unfolding send_of
    sent_stopped fails =
        let (valid, held) = passed_message sender m v sent passed in
        held_stopped (kept_sound sender (send m v)) receiver mirror fresh b ok p valid (rw held fails)

  -- sent and not passed: 22
  pub filtered_received : (v : ℤ) → answer_of s (send m v) ≡ 0 → passes_now (message_at s.layout m) (state_at s.state m) v ≡ false
      → answer_of (next s (send m v)) (assemble x.frame b) ≡ 0
      → seen_of (after_round r x'.frame (assembled (next s (send m v)) x.frame b)) (receive m' p) ≡ sees 22 (value p)
  unfolding send_of
  filtered_received v sent fails ok =
      cleared_received (kept_sound sender (send m v)) receiver mirror fresh b ok p (filtered_message sender m v sent fails)

  -- invalidated: 22
  pub invalidated_received : answer_of s (invalidate m) ≡ 0 → answer_of (next s (invalidate m)) (assemble x.frame b) ≡ 0
      → seen_of (after_round r x'.frame (assembled (next s (invalidate m)) x.frame b)) (receive m' p) ≡ sees 22 (value p)
  unfolding invalidate_of
  invalidated_received done ok =
      cleared_received (kept_sound sender (invalidate m)) receiver mirror fresh b ok p (invalidated_message sender m done)
