-- Every call keeps a sound node sound, whatever it is given and whether it refuses or not. No call touches the layout, so only the state is to be
-- shown: each of its three lists is as long as before, its cells are sound where those that took another's place are, and past the layout's numbers none
-- is written. A send's tests say that the message is sent, so that its fields may wait, and can hold the value, which then is that of its pattern; without
-- status bit its filter is True, and an invalidation is refused. A delivery has its frame's length, and a closing holds only values on which instances
-- that it can hold agree.
-- Assumes nothing.
use mathlib.Core.Path.{◌≡◌, refl, sym, ap, ◌∙◌}
use mathlib.Core.Bool.{Bool, true, false, not, cond, and-eq-true_iff, true≢false}
use mathlib.Core.List.{List, [], ◌∷◌}
use mathlib.Core.Logic.{inl, inr}
use Prim.Native.Nat.{ℕ, ◌+◌, ◌-◌, ◌<◌, ◌≤◌}
use native.Mathlib.Decide.{ℕ_discrete, dec_lt}
use native.Mathlib.Omega.{arith}
use lib.Dec.{eqb, ltb}
use lib.IntN.{ℤ}
use lib.ListN.{length, get_or, set, take, length-set, length-take, get_or-eq_default}
use lib.Seq.{length-paste, drop-paste, get_or-drop, get_or-set_same, get_or-set_other}
use borrow.Author.Tests.{ltb-true, eqb-true, not-true, not-false}
use Rattle.packing.specs.Values.{value_of, pattern_of}
use Rattle.packing.proofs.Values.{pattern_below, value_pattern, range_wider}
use Rattle.std.specs.Prelude.{Option, Some, None}
use Rattle.store.specs.declared.Stage.{Stage}
use Rattle.store.specs.declared.Stage.TheVariants.{Waiting, Loaded, Gone}
use Rattle.store.specs.declared.Frame.{Frame}
use Rattle.store.specs.declared.Message.{Message}
use Rattle.store.specs.declared.MessageState.{MessageState}
use Rattle.store.specs.Node.{
  Layout,
  Delivery,
  State,
  Node,
  message_count,
  is_signed,
  is_sent,
  has_status_bit,
  is_sent_frame,
  frame_at,
  message_at,
  laid_at,
  delivery_at,
  state_at,
  no_delivery,
  no_state,
  no_stage,
  with_valid,
  with_status,
  with_held,
  node_with,
}
use Rattle.message.specs.declared.Change.{Change}
use Rattle.message.specs.Messages.{can_hold, passes_now, offered, filtered, agreed_by, agreed_on, settled}
use Rattle.message.specs.Fields.{stage_after}
use Rattle.message.proofs.Held.{held_in_range}
use Rattle.message.proofs.Passed.{true_passes}
use Rattle.own.specs.declared.Owner.{Owner}
use Rattle.own.specs.Own.{changed, is_in, cells_of}
use Rattle.node.specs.Calls.{outcome, send_answer, send_of, invalidate_answer, invalidate_of}
use Rattle.node.specs.Calls.{assemble_answer, assemble_of, consumed_answer, consumed_of, deliver_answer, kept, deliver_of}
use Rattle.closing.specs.Closing.{instances, none_came, closed_state, is_received, close_messages, forget, close_of}
use Rattle.node.specs.Sound.{SoundDelivery, IsStatus, SoundMessageState, IsStage, SoundStage, SoundState, Sound}
use Rattle.own.proofs.Lists.{by_test, changed_length, changed_at}
use Rattle.own.proofs.Owners.{fields_named}
use Rattle.own.proofs.Tables.{alike_at}
use Rattle.node.proofs.Answers.{
  send_tests,
  send_access,
  invalidate_tests,
  invalidate_access,
  invalidate_status,
  deliver_tests,
  deliver_access,
}
use Rattle.closing.proofs.Instances.{agreed_in_message}

-- ---- a list of cells, the first k of which are sound, and the others hold nothing

record Cells {A : Type 0} (P : ℕ → A → Type 0) (none : A) (k size : ℕ) (l : List A) : Type 0 where
  all : length l ≡ size
  each : (j : ℕ) → j < k → P j (get_or l j none)
  rest : (j : ℕ) → k ≤ j → get_or l j none ≡ none

module _ {A : Type 0} (P : ℕ → A → Type 0) (none : A) (k size : ℕ) (few : k ≤ size) {l : List A} (c : Cells P none k size l) where
  -- one of the first k is replaced
  one_kept : (i : ℕ) (a : A) → i < k → P i a → Cells P none k size (set l i a)
  one_kept i a here new =
      record {
        all = length-set l i a ∙ c.all;
        each = λ j h. go j h (ℕ_discrete j i);
        rest = λ j h. get_or-set_other l i j a none (λ e. omega arith) ∙ c.rest j h;
      }
    where
      go : (j : ℕ) → j < k → Dec (j ≡ i) → P j (get_or (set l i a) j none)
      go j h (yes e) = let within : i < length l = omega (arith, c.all) in rw (e, get_or-set_same l i a none) new
      go j h (no n) = rw (get_or-set_other l i j a none n) (c.each j h)

  -- those that pass a test are; where nothing is, nothing comes of it
  some_kept : (p : ℕ → Bool) (g : ℕ → A → A) → ((j : ℕ) → j < k → p j ≡ true → P j (g j (get_or l j none)))
      → ((j : ℕ) → k ≤ j → p j ≡ true → g j none ≡ none) → Cells P none k size (changed p g 0 l)
  some_kept p g new nothing =
      record { all = changed_length p g 0 l ∙ c.all; each = each_after; rest = λ j h. rest_after j h (dec_lt j (length l)) }
    where
      each_after : (j : ℕ) → j < k → P j (get_or (changed p g 0 l) j none)
      each_after j h = rw (changed_at p g l j none (omega (arith, c.all))) (by_test (P j) (p j) (new j h) (λ t. c.each j h))

      rest_after : (j : ℕ) → k ≤ j → Dec (j < length l) → get_or (changed p g 0 l) j none ≡ none
      rest_after j h (yes inside) =
          rw (changed_at p g l j none inside, c.rest j h) (by_test (λ (a : A). a ≡ none) (p j) (nothing j h) (λ t. refl))
      rest_after j h (no past) = get_or-eq_default (changed p g 0 l) none (rw (changed_length p g 0 l) (omega arith))

-- ---- the state of a message

pub at_most_one : (b : Bool) → cond b 1 0 ≤ 1
at_most_one true = omega arith
at_most_one false = omega arith

-- the pattern of a value that it can hold has that value
pub pattern_held : (g : Message) (v : ℤ) → can_hold g v ≡ true → value_of (is_signed g) 32 (pattern_of 32 v) ≡ v
pattern_held g v r = value_pattern (is_signed g) 32 v (range_wider (is_signed g) g.width v (held_in_range g v r))

module _ {g : Message} where
  -- of a sent message, which without status bit is valid
  valid_kept : {s : MessageState} (k : ℕ) → k ≤ 1 → is_sent g ≡ true → (has_status_bit g ≡ false → not (eqb k 0) ≡ true) → SoundMessageState g s
      → SoundMessageState g (with_valid k s)
  valid_kept k h sent always s =
      record {
        valid = h;
        always_valid = always;
        received_valid = λ received. absurd (true≢false (sym sent ∙ received));
        sent_status = s.sent_status;
        status = s.status;
        held_word = s.held_word;
        held = s.held;
      }

  -- of a received one
  status_kept : {s : MessageState} (k : ℕ) → IsStatus k → is_sent g ≡ false → SoundMessageState g s → SoundMessageState g (with_status k s)
  status_kept k h received s =
      record {
        valid = s.valid;
        always_valid = s.always_valid;
        received_valid = s.received_valid;
        sent_status = λ sent. absurd (true≢false (sym sent ∙ received));
        status = h;
        held_word = s.held_word;
        held = s.held;
      }

  module _ (v : ℤ) (r : can_hold g v ≡ true) {s : MessageState} (h : SoundMessageState g s) where
    held_kept : SoundMessageState g (with_held (pattern_of 32 v) s)
    held_kept =
        record {
          valid = h.valid;
          always_valid = h.always_valid;
          received_valid = h.received_valid;
          sent_status = h.sent_status;
          status = h.status;
          held_word = pattern_below 32 v;
          held = rw (pattern_held g v r) r;
        }

    -- sent without status bit it has filter True, which passes every value
    offered_kept : is_sent g ≡ true → (has_status_bit g ≡ false → g.filter ≡ 0) → SoundMessageState g (offered g s v)
    unfolding offered
    offered_kept sent true-filter =
        by_test (SoundMessageState g) (passes_now g s v) (λ t. valid_kept 1 (omega arith) sent (λ none. refl) held_kept)
        (λ t. valid_kept 0 (omega arith) sent (λ none. absurd (true≢false (sym (true_passes g s v (true-filter none)) ∙ t))) h)

    filtered_kept : is_sent g ≡ false → SoundMessageState g (filtered g s v)
    unfolding filtered
    filtered_kept received =
        by_test (SoundMessageState g) (passes_now g s v) (λ t. status_kept 0 (inl refl) received held_kept)
        (λ t. status_kept 21 (inr (inr (inl refl))) received h)

  settled_kept : {s : MessageState} (none : Bool) (l : List ℤ) → ((v : ℤ) → agreed_by g l ≡ Some v → can_hold g v ≡ true) → is_sent g ≡ false
      → SoundMessageState g s → SoundMessageState g (settled g s none l)
  settled_kept none [] can received h =
      status_kept _ (by_test IsStatus none (λ t. inr (inr (inl refl))) (λ t. inr (inr (inr refl)))) received h
  settled_kept {s} none (v ∷ l) can received h = go (agreed_by g (v ∷ l)) can
    where
      go : (a : Option ℤ) → ((u : ℤ) → a ≡ Some u → can_hold g u ≡ true) → SoundMessageState g (agreed_on g s a)
      go None k = status_kept 20 (inr (inl refl)) received h
      go (Some u) k = filtered_kept u (k u refl) h received

-- ---- a delivery, and a stage

pub none_delivered : (h : Frame) → SoundDelivery h no_delivery
none_delivered h = record { delivered = omega arith; room = refl; not_delivered = λ t. refl; past_length = λ i l. alike_at 0 32 i; sent = λ t. refl }

-- data of the frame's length, and the frame is received
delivery_kept : (h : Frame) (y : Delivery) (d : List ℕ) → length d ≡ h.length → is_sent_frame h ≡ false → SoundDelivery h y → SoundDelivery h (kept y d)
unfolding kept
delivery_kept h y d size received s =
    record {
      delivered = omega arith;
      room = length-paste y.bytes 0 (take 32 d) put few (omega arith) ∙ s.room;
      not_delivered = λ t. absurd (true≢false t);
      past_length = past;
      sent = λ sent. absurd (true≢false (sym sent ∙ received));
    }
  where
    put : ℕ
    put = length (take 32 d)

    few : 0 + put ≤ length y.bytes
    few = omega (arith, length-take 32 d, s.room)

    -- what it does not put stays
    past : (i : ℕ) → h.length ≤ i → get_or (kept y d).bytes i 0 ≡ 0
    past i l =
        let over : 0 + put + (i - put) ≡ i = omega (arith, length-take 32 d) in
        let same = ap (λ (b : List ℕ). get_or b (i - put) 0) (drop-paste y.bytes 0 (take 32 d) put (omega arith) (omega arith)) in
        rw over at (sym (get_or-drop (0 + put) (kept y d).bytes (i - put) 0) ∙ same ∙ get_or-drop (0 + put) y.bytes (i - put) 0)
        ∙ s.past_length i l

-- a send is of a message that is sent; no other change takes a field out of gone
abbrev Allowed : Change → Message → Type 0
Allowed Change.Send g = is_sent g ≡ true
Allowed Change.Load g = Unit {0}
Allowed Change.Consume g = Unit {0}

stage_kept : (g : Message) (c : Change) (t : Stage) → Allowed c g → SoundStage g t → SoundStage g (stage_after c t)
stage_kept g Change.Send t sent s =
    record { stage = inl (waits t); always_gone = λ received. absurd (true≢false (sym sent ∙ received)) }
  where
    waits : (t : Stage) → stage_after Change.Send t ≡ Waiting
    waits Waiting = refl
    waits Loaded = refl
    waits (Gone k) = refl
stage_kept g Change.Load t sent s = record { stage = loads t s.stage; always_gone = λ received. rw (s.always_gone received) refl }
  where
    loads : (t : Stage) → IsStage t → IsStage (stage_after Change.Load t)
    loads Waiting h = inr (inl refl)
    loads Loaded h = h
    loads (Gone k) h = h
stage_kept g Change.Consume t sent s = record { stage = goes t s.stage; always_gone = λ received. rw (s.always_gone received) refl }
  where
    goes : (t : Stage) → IsStage t → IsStage (stage_after Change.Consume t)
    goes Waiting h = h
    goes Loaded h = inr (inr refl)
    goes (Gone k) h = h

-- ---- the three lists of a state

abbrev Deliveries : Layout → List Delivery → Type 0
Deliveries l = Cells (λ f y. SoundDelivery (frame_at l f) y) no_delivery l.frame_number 32

abbrev States : Layout → List MessageState → Type 0
States l = Cells (λ m s. SoundMessageState (message_at l m) s) no_state l.message_number 32

abbrev Stages : Layout → List Stage → Type 0
Stages l = Cells (λ d t. SoundStage (message_at l (laid_at l d).message) t) no_stage l.field_number 128

sound_state : {l : Layout} {s : State} → Deliveries l s.deliveries → States l s.messages → Stages l s.stages → SoundState l s
sound_state a b c =
    record {
      delivery_cells = a.all;
      message_cells = b.all;
      stage_cells = c.all;
      deliveries = a.each;
      no_deliveries = a.rest;
      messages = b.each;
      no_states = b.rest;
      stages = c.each;
      no_stages = c.rest;
    }

-- ---- the calls

module _ {n : Node} (s : Sound n) where
  deliveries_stay : Deliveries n.layout n.state.deliveries
  deliveries_stay = record { all = s.state.delivery_cells; each = s.state.deliveries; rest = s.state.no_deliveries }

  states_stay : States n.layout n.state.messages
  states_stay = record { all = s.state.message_cells; each = s.state.messages; rest = s.state.no_states }

  stages_stay : Stages n.layout n.state.stages
  stages_stay = record { all = s.state.stage_cells; each = s.state.stages; rest = s.state.no_stages }

  one_delivery : (f : ℕ) (y : Delivery) → f < n.layout.frame_number → SoundDelivery (frame_at n.layout f) y
      → Deliveries n.layout (set n.state.deliveries f y)
  one_delivery = one_kept _ _ _ _ s.layout.few_frames deliveries_stay

  one_state : (m : ℕ) (t : MessageState) → m < n.layout.message_number → SoundMessageState (message_at n.layout m) t
      → States n.layout (set n.state.messages m t)
  one_state = one_kept _ _ _ _ s.layout.few_messages states_stay

  -- the fields of a message or a frame move on
  stages_move : (c : Change) (o : Owner)
      → ((d : ℕ) → is_in d (cells_of n.layout o) ≡ true → Allowed c (message_at n.layout (laid_at n.layout d).message))
      → Stages n.layout (changed (λ d. is_in d (cells_of n.layout o)) (λ d t. stage_after c t) 0 n.state.stages)
  stages_move c o allowed =
      some_kept _ _ _ _ s.layout.few_fields stages_stay _ _ (λ d l t. stage_kept _ c _ (allowed d t) (s.state.stages d l))
      (λ d past t. absurd (omega (arith, ((fields_named s.layout o d).0 t).0)))

  -- a refused call leaves the node
  either_way : {after : State} (a : ℕ) → (a ≡ 0 → SoundState n.layout after) → Sound (outcome a after n).node
  either_way a h =
      record { layout = s.layout; state = by_test (SoundState n.layout) (eqb a 0) (λ t. h (eqb-true a 0 t)) (λ t. s.state) }

  pub send_kept : (m : ℕ) (v : ℤ) → Sound (send_of n m v).node
  unfolding send_of
  send_kept m v =
      either_way (send_answer n.layout m v)
      (λ e. let (known, value) = send_tests n.layout m v e in
      let sent = send_access n.layout m v e in
      let heard = (s.layout.messages m known).heard sent in
      let after = offered_kept v value (s.state.messages m known) sent (λ none. heard (eqb-true _ 0 (not-false _ none))) in
      sound_state deliveries_stay (one_state m _ known after)
      (stages_move Change.Send (Owner.Message m)
      (λ d mine. rw (eqb-true _ m ((fields_named s.layout (Owner.Message m) d).0 mine).1) sent)))

  pub invalidate_kept : (m : ℕ) → Sound (invalidate_of n m).node
  unfolding invalidate_of
  invalidate_kept m =
      either_way (invalidate_answer n.layout m)
      (λ e. let known = invalidate_tests n.layout m e in
      let bit = invalidate_status n.layout m e in
      let sent = invalidate_access n.layout m e in
      let after = valid_kept 0 (omega arith) sent (λ none. absurd (true≢false (sym bit ∙ none))) (s.state.messages m known) in
      sound_state deliveries_stay (one_state m _ known after) stages_stay)

  pub assemble_kept : (f size : ℕ) → Sound (assemble_of n f size).node
  unfolding assemble_of
  assemble_kept f size =
      either_way (assemble_answer n f size)
      (λ e. sound_state deliveries_stay states_stay (stages_move Change.Load (Owner.Frame f) (λ d mine. tt)))

  pub consumed_kept : (f : ℕ) → Sound (consumed_of n f).node
  unfolding consumed_of
  consumed_kept f =
      either_way (consumed_answer n.layout f)
      (λ e. sound_state deliveries_stay states_stay (stages_move Change.Consume (Owner.Frame f) (λ d mine. tt)))

  pub deliver_kept : (f : ℕ) (ok : Bool) (d : List ℕ) → Sound (deliver_of n f ok d).node
  unfolding deliver_of
  deliver_kept f ok d =
      either_way (deliver_answer n.layout f (length d))
      (λ e. let (known, size) = deliver_tests n.layout f (length d) e in
      let here : f < n.layout.frame_number = omega arith in
      let received = deliver_access n.layout f (length d) e in
      let after = delivery_kept (frame_at n.layout f) (delivery_at n.state f) d size received (s.state.deliveries f here) in
      by_test (SoundState n.layout) ok (λ t. sound_state (one_delivery f _ here after) states_stay stages_stay) (λ t. s.state))

  closed_kept : (m : ℕ) → m < n.layout.message_number → is_received n.layout m ≡ true
      → SoundMessageState (message_at n.layout m) (closed_state n m (state_at n.state m))
  unfolding closed_state is_received
  closed_kept m l t =
      let g = s.layout.messages m l in
      let received = not-true _ ((and-eq-true_iff (ltb m (message_count n.layout)) _).0 t).1 in
      settled_kept (none_came n m) (instances n m) (λ v. agreed_in_message n m v g.width g.float_width) received (s.state.messages m l)

  -- no message of the layout is past its number
  not_past : (m : ℕ) → n.layout.message_number ≤ m → is_received n.layout m ≡ true → ⊥
  unfolding is_received
  not_past m past t = omega (arith, ltb-true m (message_count n.layout) ((and-eq-true_iff (ltb m (message_count n.layout)) _).0 t).0)

  pub close_kept : Sound (node_with n (close_of n))
  unfolding close_of forget close_messages
  close_kept =
      let forgotten = some_kept _ _ _ _ s.layout.few_frames deliveries_stay _ _ (λ f l t. none_delivered _) (λ f past t. refl) in
      let closed = some_kept _ _ _ _ s.layout.few_messages states_stay _ _ closed_kept (λ m past t. absurd (not_past m past t)) in
      record { layout = s.layout; state = sound_state forgotten closed stages_stay }
