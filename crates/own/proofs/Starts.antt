-- The layout part of the node of an accepted file is sound. The cells hold what the file's records say, so what is demanded of the records holds of the
-- cells; the fields are sorted by message, so those of a message are a stretch from the first on, and those of a frame have messages that rise, so there
-- are no more of them than messages. The index has a frame's fields in one run, in the order of the file.
-- Assumes nothing.
use mathlib.Core.Path.{◌≡◌, refl, sym, ap, ◌∙◌}
use mathlib.Core.Bool.{Bool}
use mathlib.Core.List.{List}
use mathlib.Core.Logic.{inl, inr, ⊎_elim}
use Prim.Native.Nat.{ℕ, zero, suc, ◌+◌, ◌-◌, ◌<◌, ◌≤◌}
use native.Mathlib.Nat.{eq-or-lt_of_le}
use native.Mathlib.Omega.{arith}
use lib.Dec.{eqb}
use borrow.Author.Tests.{lt-leb, le-leb, lt-ltb, le-ltb, eqb-true, eq-eqb}
use Rattle.packing.specs.Places.{bit_places, places, in_frame}
use Rattle.packing.specs.Values.{is_width}
use Rattle.record.specs.Numbers.{tally}
use Rattle.record.specs.Records as records
use Rattle.record.specs.declared.Field.{Field as FieldRecord}
use Rattle.record.proofs.Tests.{meanings}
use Rattle.layout.specs.Verdict.{is_field_of, fields_among}
use Rattle.layout.specs.WellLaid.{Below, the_field, its_message, its_frame, WellLaid}
use Rattle.layout.proofs.Accepted.{kinds, none_before}
use Rattle.layout.proofs.Node.{few_frames, few_messages, together, frames_rise, message_placed, status_placed, own_disjoint, fields_separate}
use Rattle.layout.proofs.Node as laid
use Rattle.store.specs.declared.Frame.{Frame}
use Rattle.store.specs.declared.Message.{Message}
use Rattle.store.specs.Node.{Layout, no_frame, no_message, not_laid, frame_at, message_at, laid_at, listed_at}
use Rattle.start.specs.Start.{
  lies_in,
  lies_before,
  laid_frame,
  start_frame,
  is_instance,
  first_field,
  start_message,
  start_message_or_none,
  start_laid,
  start_frames,
  start_messages,
  start_fields,
  start_layout,
}
use Rattle.start.proofs.Tables.{length_table, table_at}
use Rattle.start.proofs.Index.{run_ends, start_index_length, none_listed, has_place, run_lies, run_rises}
use Rattle.message.specs.Fields.{status_places}
use Rattle.own.specs.SoundLayout.{
  SoundFrame,
  SoundMessage,
  message_places,
  its_status_places,
  Listed,
  SoundField,
  Apart,
  SoundLayout,
}
use Rattle.own.proofs.Stretches.{tally_from, tally_keys, Stretch, stretch}
use Rattle.own.proofs.Tables.{table_past}

-- of two fields of one frame the later is of a later message
later_message : (p r : FieldRecord) → p.frame ≡ r.frame → Below p r → p.message < r.message
later_message p r same (inl h) = h
later_message p r same (inr h) = absurd (omega arith)

module _ (s : List ℕ) (F M D : ℕ) where
  abbrev layout : Layout
  layout = start_layout s F M D

  -- field d of the file, and whether its frame has big order
  abbrev field : ℕ → FieldRecord
  field d = the_field s F M d

  abbrev is_big : ℕ → Bool
  is_big d = eqb (its_frame s F M (field d)).order 1

  -- where the fields of frame f begin in the index, and how many of the first d fields it has
  abbrev place : ℕ → ℕ
  place f = tally (lies_before s (F + M) f) D

  abbrev carried : ℕ → ℕ → ℕ
  carried f d = tally (lies_in s (F + M) f) d

  -- what the node holds of frame f and of message m
  abbrev frame_cell : ℕ → Frame
  frame_cell f =
      record {
        length = (records.frame_at s f).length;
        order = (records.frame_at s f).order;
        direction = (records.frame_at s f).direction;
        trigger = (records.frame_at s f).trigger;
        first = place f;
        fields = carried f D;
      }

  abbrev message_cell : ℕ → Message
  message_cell m = start_message s F (F + M) D m

  -- the first field of message m, and how many it has
  abbrev first : ℕ → ℕ
  first m = first_field s (F + M) D m

  abbrev count : ℕ → ℕ
  count m = tally (is_instance s (F + M) m) D

  module _ (w : WellLaid s F M D) where
    -- ---- what the cells hold

    no_frame_lem : (f : ℕ) → F ≤ f → frame_at layout f ≡ no_frame
    unfolding start_layout start_frames laid_frame
    no_frame_lem f l = table_past (start_frame s F (F + M) D) no_frame 32 f (rw (le-leb F f l) refl)

    frame_at_lem : (f : ℕ) → f < F → frame_at layout f ≡ frame_cell f
    unfolding start_layout start_frames laid_frame
    frame_at_lem f l =
        let inside : f < 32 = omega (arith, few_frames s F M D w) in
        rw (table_at (start_frame s F (F + M) D) no_frame 32 f inside, lt-leb F f l)

    no_message_lem : (m : ℕ) → M ≤ m → message_at layout m ≡ no_message
    unfolding start_layout start_messages start_message_or_none
    no_message_lem m l = table_past (start_message_or_none s F M D) no_message 32 m (rw (le-ltb m M l) refl)

    pub message_at_lem : (m : ℕ) → m < M → message_at layout m ≡ message_cell m
    unfolding start_layout start_messages start_message_or_none
    message_at_lem m l =
        let inside : m < 32 = omega (arith, few_messages s F M D w) in
        rw (table_at (start_message_or_none s F M D) no_message 32 m inside, lt-ltb m M l)

    no_field_lem : (d : ℕ) → D ≤ d → laid_at layout d ≡ not_laid
    unfolding start_layout start_fields start_laid
    no_field_lem d l = table_past (start_laid s (F + M) D) not_laid 128 d (rw (le-leb D d l) refl)

    laid_at_lem : (d : ℕ) → d < D → laid_at layout d ≡ field d
    unfolding start_layout start_fields start_laid
    laid_at_lem d l =
        let inside : d < 128 = omega (arith, w.fields_few) in
        rw (table_at (start_laid s (F + M) D) not_laid 128 d inside, lt-leb D d l)

    -- ---- a frame

    module _ (f : ℕ) (l : f < F) where
      small : f < 32
      small = omega (arith, few_frames s F M D w)

      -- it carries no message twice
      carries_few : carried f D ≤ 32
      carries_few =
          tally_keys (lies_in s (F + M) f) (λ d. (field d).message) 32 D (λ d b here. omega (arith, (w.fields d b).message, few_messages s F M D w))
          (λ d e h b one other. later_message (field d) (field e) (eqb-true _ _ one ∙ sym (eqb-true _ _ other)) (w.rising d e h b))

      sound_frame : SoundFrame layout (frame_cell f)
      unfolding start_layout
      sound_frame =
          let r = w.frames f l in
          record {
            length_from = r.length_from;
            length_to = r.length_to;
            order = r.order;
            direction = r.direction;
            trigger = r.trigger;
            few_fields = carries_few;
            in_count = run_ends s (F + M) D f;
          }

      run_carries : (i : ℕ) → (frame_at layout f).first ≤ i → i < (frame_at layout f).first + (frame_at layout f).fields
          → (listed_at layout i < D) × ((laid_at layout (listed_at layout i)).frame ≡ f)
      unfolding start_layout
      run_carries =
          rw (frame_at_lem f l)
          (λ i low high.
          let there : place f + (i - place f) ≡ i = omega arith in
          let (below, here) = rw there at (run_lies s (F + M) D w.fields_few f (i - place f) small (omega arith)) in
          (below, rw (laid_at_lem _ below) (eqb-true _ _ here)))

      run_rising : (i j : ℕ) → (frame_at layout f).first ≤ i → i < j → j < (frame_at layout f).first + (frame_at layout f).fields
          → listed_at layout i < listed_at layout j
      unfolding start_layout
      run_rising =
          rw (frame_at_lem f l)
          (λ i j low h high.
          let here : place f + (i - place f) ≡ i = omega arith in
          let there : place f + (j - place f) ≡ j = omega arith in
          rw (here, there) at (run_rises s (F + M) D w.fields_few f (i - place f) (j - place f) small (omega arith) (omega arith)))

    -- ---- a message

    -- the message's fields in the file are those in the node
    counted : (m : ℕ) → fields_among s m (F + M + D) ≡ count m
    unfolding is_field_of records.is_field
    counted m =
        let all = tally_from (is_field_of s m) (is_instance s (F + M) m) (F + M) D (λ k l. rw (w.fields k l).kind) in
        omega (arith, all, none_before s F M D (kinds s F M D w) m)

    module _ (m : ℕ) (l : m < M) where
      some_field : 1 ≤ count m
      some_field = rw (counted m) at (w.some_field m l)

      run : Stretch (is_instance s (F + M) m) D (first m) (count m)
      run = stretch (is_instance s (F + M) m) D some_field (simp meanings (together s F M D w m))

      first_below : first m < D
      first_below = omega (arith, some_field, run.ends)

      first_names : (field (first m)).message ≡ m
      first_names = eqb-true _ _ (run.inside (first m) (omega arith) (omega (arith, some_field)))

      sound_message : SoundMessage layout (message_cell m)
      unfolding start_message start_layout is_width
      sound_message =
          let r = w.messages m l in
          let its-first = w.fields (first m) first_below in
          record {
            width = simp meanings (r.width_from, r.width_to);
            sign = r.sign;
            float_width = λ float. r.float_width (eqb-true _ _ float);
            direction = r.direction;
            agreement = r.agreement;
            sent_agreement = λ sent. r.sent_agreement (eqb-true _ _ sent);
            filter = r.filter;
            float_filter = λ float. r.float_filter (eqb-true _ _ float);
            statusbit = its-first.status;
            heard = λ sent. rw first_names at its-first.heard (eqb-true _ _ sent);
            x1 = r.x1.fits;
            x2 = r.x2.fits;
            finite_x1 = λ float. r.x1.finite (eqb-true _ _ float);
            finite_x2 = λ float. r.x2.finite (eqb-true _ _ float);
            unused_x1 = r.x1.unused;
            unused_x2 = r.x2.unused;
            some_field = some_field;
            few_fields = rw (counted m) at (w.eight_fields m l);
            in_count = run.ends;
          }

      run_names : (d : ℕ) → (message_at layout m).first ≤ d → d < (message_at layout m).first + (message_at layout m).fields → (laid_at layout d).message ≡ m
      unfolding start_message
      run_names =
          rw (message_at_lem m l) (λ d low high. rw (laid_at_lem d (omega (arith, run.ends))) (eqb-true _ _ (run.inside d low high)))

    -- ---- a field

    module _ (d : ℕ) (l : d < D) where
      its_message_lem : message_at layout (field d).message ≡ message_cell (field d).message
      its_message_lem = message_at_lem (field d).message (w.fields d l).message

      its_frame_lem : frame_at layout (field d).frame ≡ frame_cell (field d).frame
      its_frame_lem = frame_at_lem (field d).frame (w.fields d l).frame

      in_run_lem : (first (field d).message ≤ d) × (d < first (field d).message + count (field d).message)
      in_run_lem = (run (field d).message (w.fields d l).message).only d l (eq-eqb (field d).message (field d).message refl)

      in_index : Listed layout (frame_cell (field d).frame) d
      unfolding start_layout
      in_index =
          let f = (field d).frame in
          let here = has_place s (F + M) D w.fields_few f d (small f (w.fields d l).frame) l (eq-eqb f f refl) in
          record { place = place f + carried f d; from = omega arith; to = here.0; number = here.1 }

      status_alike : (field d).status ≡ (field (first (field d).message)).status
      status_alike =
          let m = (field d).message in
          ⊎_elim (λ (same : first m ≡ d). ap (λ (k : ℕ). (field k).status) (sym same))
          (λ (earlier : first m < d). sym (w.alike (first m) d earlier l (first_names m (w.fields d l).message)))
          (eq-or-lt_of_le in_run_lem.0)

      -- the bits of the field lie where the file says
      message_places_lem : message_places layout (field d) ≡ laid.record_places (is_big d) (its_message s F M (field d)) (field d)
      unfolding start_message
      message_places_lem = rw (its_message_lem, its_frame_lem) (message_placed s F M D w d l)

      status_places_lem : its_status_places layout (field d) ≡ laid.record_status (is_big d) (field d)
      unfolding status_places places bit_places
      status_places_lem = rw its_frame_lem (go (field d).status refl (w.fields d l).status)
        where
          go :
              (k : ℕ) → (field d).status ≡ k → k ≤ 1
              → status_places (its_frame s F M (field d)).length (frame_cell (field d).frame) (field d) ≡ laid.record_status (is_big d) (field d)
          go zero absent few = rw absent refl
          go (suc zero) present few = rw present (rw present at (status_placed s F M D w d l present))
          go (suc (suc k)) more few = absurd (omega arith)

      sound_field : SoundField layout d (field d)
      unfolding start_layout start_message in_frame
      sound_field =
          let r = w.fields d l in
          let g = w.messages (field d).message r.message in
          let last = (field d).start + (its_message s F M (field d)).width - 1 in
          record {
            message = r.message;
            frame = r.frame;
            directions = rw (its_message_lem, its_frame_lem) r.directions;
            status = rw its_message_lem status_alike;
            run_from = rw its_message_lem in_run_lem.0;
            run_to = rw its_message_lem in_run_lem.1;
            listed = rw its_frame_lem in_index;
            lies = rw (its_message_lem, its_frame_lem) (simp meanings (g.width_to, omega (arith, r.inside last (inl (omega arith)))));
            status_lies = λ present. rw its_frame_lem (simp meanings (omega (arith, r.inside (field d).place (inr (present, refl)))));
            once = rw (message_places_lem, status_places_lem) (own_disjoint s F M D w d l);
          }

    -- ---- two fields of one frame, and the layout

    fields_apart : (d e : ℕ) → d < e → e < D → (field d).frame ≡ (field e).frame → Apart layout (field d) (field e)
    fields_apart d e h l same =
        let b : d < D = omega arith in
        let separate = fields_separate s F M D w d b e l (omega arith) same in
        record {
          bits_bits = rw (message_places_lem d b, message_places_lem e l, ← same) separate.message_message;
          bits_status = rw (message_places_lem d b, status_places_lem e l, ← same) separate.message_status;
          status_bits = rw (status_places_lem d b, message_places_lem e l, ← same) separate.status_message;
          status_status = rw (status_places_lem d b, status_places_lem e l, ← same) separate.status_status;
        }

    pub sound_layout : SoundLayout layout
    unfolding start_layout start_frames start_messages start_fields
    sound_layout =
        record {
          frame_cells = length_table _ 0 32;
          message_cells = length_table _ 0 32;
          field_cells = length_table _ 0 128;
          index_cells = start_index_length s (F + M) D w.fields_few;
          few_frames = few_frames s F M D w;
          few_messages = few_messages s F M D w;
          few_fields = w.fields_few;
          frames = λ f l. rw (frame_at_lem f l) (sound_frame f l);
          no_frames = no_frame_lem;
          messages = λ m l. rw (message_at_lem m l) (sound_message m l);
          no_messages = no_message_lem;
          fields = λ d l. rw (laid_at_lem d l) (sound_field d l);
          no_fields = no_field_lem;
          none_listed = none_listed s (F + M) D w.fields_few;
          run = λ m d l. run_names m l d;
          rising = λ d e h l. rw (laid_at_lem d (omega arith), laid_at_lem e l) (frames_rise s F M D w d e h l);
          frame_run = λ f i l. run_carries f l i;
          frame_rising = λ f i j l. run_rising f l i j;
          apart = λ d e h l. rw (laid_at_lem d (omega arith), laid_at_lem e l) (fields_apart d e h l);
        }
