-- One input, one outcome: a row for each public entry point of every crate, with what its contract says of an outcome. Those that C links cite the
-- relations `Does` and `Loads` themselves; of the others the row says what the source does.
-- Assumes nothing.
use Rattle.std.specs.Prelude.{◌≡◌, Bool, List, ◌++◌, ℕ, ◌≤◌, min, T, ltb, ℤ, length, take, drop, replicate, Option, Result}
use Rattle.std.specs.Float.{binary32}
use Rattle.std.specs.Float.Ieee.{fits}
use Rattle.whole.specs.Whole.{word}
use Rattle.packing.specs.Places.{places_in, packed, unpacked}
use Rattle.packing.specs.Values.{in_range, value_of, pattern_of, extended}
use Rattle.float.specs.Patterns.{aside, rank_of}
use Rattle.float.specs.Running.{none, more, finish, running_of}
use Rattle.float.specs.declared.FloatSum.{FloatSum}
use Rattle.agreement.specs.Agreement.{agreed}
use Rattle.agreement.specs.Floats.{floats_agreed}
use Rattle.filter.specs.Filter.{passes}
use Rattle.record.specs.Records.{byte_at, record_bytes, frame_at as frame_record, message_at as message_record, field_at as field_record, record_at, pair_below}
use Rattle.ranges.specs.Ranges.{RecordFinding, range_fault}
use Rattle.record.specs.Runs.{status_run, past_end, meet}
use Rattle.record.specs.declared.Frame.{Frame as FrameRecord}
use Rattle.record.specs.declared.Message.{Message as MessageRecord}
use Rattle.record.specs.declared.Field.{Field as FieldRecord}
use Rattle.record.specs.declared.Record.{Record}
use Rattle.ranges.specs.declared.RangeFault.{RangeFault}
use Rattle.record.specs.declared.Run.{Run}
use Rattle.used.specs.Used.{any_used, with_run}
use Rattle.layout.specs.Counts.{counted_by}
use Rattle.layout.specs.Numbers.{number_of, byte_of}
use Rattle.layout.specs.Verdict.{Verdict, verdict}
use Rattle.layout.specs.declared.Refusal.{Refusal}
use Rattle.layout.specs.declared.Counts.{Counts}
use Rattle.listing.specs.Put.{Put}
use Rattle.listing.specs.Text.{listing}
use Rattle.store.specs.declared.Stage.{Stage}
use Rattle.store.specs.declared.Frame.{Frame}
use Rattle.store.specs.declared.Message.{Message}
use Rattle.store.specs.declared.MessageState.{MessageState}
use Rattle.store.specs.declared.Field.{Field}
use Rattle.store.specs.Node.{
  layout_of,
  state_of,
  node_of,
  room_of,
  counts_of,
  frame_count,
  message_count,
  frame_at,
  message_at,
  laid_at,
  listed_at,
  delivery_at,
  state_at,
  field_at,
  data_at,
  no_message,
  no_delivery,
  no_state,
  marked,
  filled,
  with_deliveries,
  with_delivery,
  with_state,
  with_stage,
  node_with,
  is_big,
  is_sent_frame,
  is_event,
  is_signed,
  is_float,
  is_sent,
  has_status_bit,
  is_valid,
  stage_of,
  code_of,
}
use Rattle.store.specs.Writing.{empty_node, with_numbers, with_frame, with_message, with_laid, with_listed}
use Rattle.start.specs.Start.{start_of}
use Rattle.message.specs.declared.Change.{Change}
use Rattle.message.specs.Messages.{can_hold, offered, invalidated, settled}
use Rattle.message.specs.Fields.{stage_after, is_gone, writes}
use Rattle.std.specs.declared.ops.Range.{Range}
use Rattle.own.specs.declared.Owner.{Owner}
use Rattle.own.specs.declared.Places.{Places}
use Rattle.own.specs.Own.{places_of, range_of, cell_at, Given, owns, stored_of}
use Rattle.closing.specs.Closing.{close_of}
use Rattle.calls.specs.Relations.{Call, Seen, Memory, Does, Loads}

-- what a contract says of an outcome holds of one at most
abbrev pub Single : {A : Type 0} → (A → Type 0) → Type 0
Single {A} Contract = (a b : A) → Contract a → Contract b → a ≡ b

-- what a call leaves: what its caller sees, and the node's memory
pub record Ended : Type 0 where
  pub seen : Seen
  pub memory : List ℕ

-- what a load leaves, and what the listing does
pub record Returned : Type 0 where
  pub answer : ℕ
  pub memory : List ℕ

pub record Once : Type 0 where
  -- packing
  pub pack : (frame : List ℕ) (big : Bool) (start width pattern : ℕ)
      → Single (λ (after : List ℕ). after ≡ packed (places_in (length frame) big start width) pattern frame)
  pub unpack : (frame : List ℕ) (big : Bool) (start width : ℕ) → Single (λ (r : ℕ). r ≡ unpacked (places_in (length frame) big start width) frame)
  pub unpack_in : (room : List ℕ) (n : ℕ) (big : Bool) (start width : ℕ)
      → Single (λ (r : ℕ). r ≡ unpacked (places_in n big start width) (take n room))
  pub in_range_lem : (value : ℤ) (width : ℕ) (signed : Bool) → Single (λ (r : Bool). r ≡ in_range signed width value)
  pub value_of_lem : (pattern width : ℕ) (signed : Bool) → Single (λ (r : ℤ). r ≡ value_of signed width pattern)
  pub pattern_of_lem : (value : ℤ) → Single (λ (r : ℕ). r ≡ pattern_of 32 value)
  pub word_of : (a b c d : ℕ) → Single (λ (r : ℕ). r ≡ word a b c d)
  pub is_extended : (pattern width : ℕ) (signed : Bool) → Single (λ (r : Bool). r ≡ extended signed width pattern)
  -- float; a value of type f32 has a pattern of its own
  pub is_aside : (x : ℕ) → Single (λ (r : Bool). r ≡ aside x)
  pub no_sum : Single (λ (r : FloatSum). T (fits binary32 r.sum) × (running_of r ≡ none))
  pub add : (s : FloatSum) (x : ℕ) → Single (λ (r : FloatSum). T (fits binary32 r.sum) × (running_of r ≡ more (running_of s) x))
  pub divide : (s : FloatSum) → Single (λ (r : Option ℕ). r ≡ finish (running_of s))
  pub rank_of_lem : (x : ℕ) → Single (λ (r : ℤ). r ≡ rank_of x)
  -- agreement, filter
  pub agree : (agreement : ℕ) (instances : List ℤ) → Single (λ (r : Option ℤ). r ≡ agreed agreement instances)
  pub agree_floats : (agreement : ℕ) (instances : List ℤ) → Single (λ (r : Option ℤ). r ≡ floats_agreed agreement instances)
  pub pass : (filter sign x1 x2 : ℕ) (new old : ℤ) → Single (λ (r : Bool). r ≡ passes filter sign x1 x2 new old)
  -- record
  pub byte_at_lem : (file : List ℕ) (i k : ℕ) → Single (λ (r : ℕ). r ≡ byte_at file i k)
  pub record_bytes_lem : (file : List ℕ) (i : ℕ) → Single (λ (r : List ℕ). r ≡ record_bytes file i)
  pub frame_record_lem : (file : List ℕ) (i : ℕ) → Single (λ (r : FrameRecord). r ≡ frame_record file i)
  pub message_record_lem : (file : List ℕ) (i : ℕ) → Single (λ (r : MessageRecord). r ≡ message_record file i)
  pub field_record_lem : (file : List ℕ) (i : ℕ) → Single (λ (r : FieldRecord). r ≡ field_record file i)
  pub any_record : (file : List ℕ) (i : ℕ) → Single (λ (r : Record). r ≡ record_at file i)
  pub pair_below_lem : (p r : FieldRecord) → Single (λ (b : Bool). b ≡ pair_below p r)
  pub range_fault_lem : (file : List ℕ) (i : ℕ) → Single (λ (f : RecordFinding). f ≡ range_fault file i)
  pub past_end_lem : (n : ℕ) (a : Run) → Single (λ (b : Bool). b ≡ past_end n a)
  pub runs_meet : (a b : Run) → Single (λ (t : Bool). t ≡ meet a b)
  pub status_run_lem : (r : FieldRecord) → Single (λ (a : Run). a ≡ status_run r)
  -- used
  pub is_used : (t : List ℕ) (f : ℕ) (a : Run) → Single (λ (b : Bool). b ≡ any_used t f a)
  pub add_used : (t : List ℕ) (f : ℕ) (a : Run) → Single (λ (e : List ℕ). e ≡ with_run t f a)
  -- layout, reader
  pub counts_with : (c : Counts) (read : Result Record Refusal) → Single (λ (r : Counts). r ≡ counted_by c read)
  pub byte_refusal : (wrong : RangeFault) → Single (λ (n : Refusal). n ≡ Refusal.Byte wrong)
  pub number_of_lem : (n : Refusal) → Single (λ (r : ℕ). r ≡ number_of n)
  pub byte_of_lem : (n : Refusal) → Single (λ (r : ℕ). r ≡ byte_of n)
  pub read_layout : (file : List ℕ) → Single (λ (v : Verdict). v ≡ verdict file)
  -- store
  pub is_big_lem : (h : Frame) → Single (λ (r : Bool). r ≡ is_big h)
  pub is_sent_frame_lem : (h : Frame) → Single (λ (r : Bool). r ≡ is_sent_frame h)
  pub is_event_lem : (h : Frame) → Single (λ (r : Bool). r ≡ is_event h)
  pub is_signed_lem : (g : Message) → Single (λ (r : Bool). r ≡ is_signed g)
  pub is_float_lem : (g : Message) → Single (λ (r : Bool). r ≡ is_float g)
  pub is_sent_lem : (g : Message) → Single (λ (r : Bool). r ≡ is_sent g)
  pub has_status_bit_lem : (g : Message) → Single (λ (r : Bool). r ≡ has_status_bit g)
  pub is_valid_lem : (s : MessageState) → Single (λ (r : Bool). r ≡ is_valid s)
  pub stage_of_lem : (k : ℕ) → Single (λ (r : Stage). r ≡ stage_of k)
  pub code_of_lem : (t : Stage) → Single (λ (r : ℕ). r ≡ code_of t)
  pub no_message_lem : Single (λ (r : Message). r ≡ no_message)
  pub no_state_lem : Single (λ (r : MessageState). r ≡ no_state)
  pub counts_of_lem : (b : List ℕ) → Single (λ (r : Counts). r ≡ counts_of (layout_of b))
  pub has_frame : (b : List ℕ) (f : ℕ) → Single (λ (r : Bool). r ≡ ltb f (frame_count (layout_of b)))
  pub has_message : (b : List ℕ) (m : ℕ) → Single (λ (r : Bool). r ≡ ltb m (message_count (layout_of b)))
  pub frame_at_lem : (b : List ℕ) (f : ℕ) → Single (λ (r : Frame). r ≡ frame_at (layout_of b) f)
  pub message_at_lem : (b : List ℕ) (m : ℕ) → Single (λ (r : Message). r ≡ message_at (layout_of b) m)
  pub laid_at_lem : (b : List ℕ) (d : ℕ) → Single (λ (r : FieldRecord). r ≡ laid_at (layout_of b) d)
  pub listed_at_lem : (b : List ℕ) (i : ℕ) → Single (λ (r : ℕ). r ≡ listed_at (layout_of b) i)
  pub mark_at : (b : List ℕ) (f : ℕ) → Single (λ (r : ℕ). r ≡ (delivery_at (state_of b) f).delivered)
  pub data_length : (h : Frame) → Single (λ (r : ℕ). r ≡ min h.length 32)
  pub data_at_lem : (b : List ℕ) (f : ℕ) → Single (λ (r : List ℕ). r ≡ data_at (node_of b) f)
  pub room_at : (b : List ℕ) (f : ℕ) → Single (λ (r : List ℕ). r ≡ room_of b f)
  pub state_at_lem : (b : List ℕ) (m : ℕ) → Single (λ (r : MessageState). r ≡ state_at (state_of b) m)
  pub field_at_lem : (b : List ℕ) (d : ℕ) → Single (λ (r : Field). r ≡ field_at (node_of b) d)
  pub put_mark : (b : List ℕ) (f k : ℕ)
      → Single (λ (e : List ℕ). Memory e × (node_of e ≡ node_with (node_of b) (with_delivery (state_of b) f (marked k (delivery_at (state_of b) f)))))
  pub put_data : (b : List ℕ) (f : ℕ) (bytes : List ℕ)
      → Single (λ (e : List ℕ). Memory e × (node_of e ≡ node_with (node_of b) (with_delivery (state_of b) f (filled (delivery_at (state_of b) f) bytes))))
  pub forget_deliveries : (b : List ℕ) (n : ℕ)
      → Single (λ (e : List ℕ).
      Memory e × (node_of e ≡ node_with (node_of b) (with_deliveries (state_of b) (replicate n no_delivery ++ drop n (state_of b).deliveries))))
  pub put_state : (b : List ℕ) (m : ℕ) (s : MessageState)
      → Single (λ (e : List ℕ). Memory e × (node_of e ≡ node_with (node_of b) (with_state (state_of b) m s)))
  pub put_stage : (b : List ℕ) (d : ℕ) (t : Stage) → Single (λ (e : List ℕ). Memory e × (node_of e ≡ node_with (node_of b) (with_stage (state_of b) d t)))
  pub clear : Single (λ (e : List ℕ). Memory e × (node_of e ≡ empty_node))
  pub put_counts : (b : List ℕ) (frames messages fields : ℕ)
      → Single (λ (e : List ℕ). Memory e × (node_of e ≡ record { layout = with_numbers (layout_of b) frames messages fields; state = state_of b }))
  pub put_frame : (b : List ℕ) (f : ℕ) (h : Frame)
      → Single (λ (e : List ℕ). Memory e × (node_of e ≡ record { layout = with_frame (layout_of b) f h; state = state_of b }))
  pub put_message : (b : List ℕ) (m : ℕ) (g : Message)
      → Single (λ (e : List ℕ). Memory e × (node_of e ≡ record { layout = with_message (layout_of b) m g; state = state_of b }))
  pub put_laid : (b : List ℕ) (d : ℕ) (x : FieldRecord)
      → Single (λ (e : List ℕ). Memory e × (node_of e ≡ record { layout = with_laid (layout_of b) d x; state = state_of b }))
  pub put_listed : (b : List ℕ) (i d : ℕ) → Single (λ (e : List ℕ). Memory e × (node_of e ≡ record { layout = with_listed (layout_of b) i d; state = state_of b }))
  -- the library's `min`, where store had its own
  pub smaller : (a b : ℕ) → Single (λ (r : ℕ). r ≡ min a b)
  -- start
  pub start : (file : List ℕ) (frames messages fields : ℕ)
      → Single (λ (e : List ℕ). Memory e × (node_of e ≡ start_of file frames messages fields))
  -- message
  pub can_hold_lem : (g : Message) (value : ℤ) → Single (λ (r : Bool). r ≡ can_hold g value)
  pub offered_state : (g : Message) (s : MessageState) (value : ℤ) → Single (λ (r : MessageState). r ≡ offered g s value)
  pub invalidated_state : (s : MessageState) → Single (λ (r : MessageState). r ≡ invalidated s)
  pub settled_state : (g : Message) (s : MessageState) (none : Bool) (instances : List ℤ)
      → Single (λ (r : MessageState). r ≡ settled g s none instances)
  pub stage_after_lem : (change : Change) (x : Field) → Single (λ (r : Stage). r ≡ stage_after change x.stage)
  pub is_gone_lem : (x : Field) → Single (λ (r : Bool). r ≡ is_gone x.stage)
  pub write_field : (buffer : List ℕ) (h : Frame) (g : Message) (s : MessageState) (x : FieldRecord)
      → Single (λ (after : List ℕ). after ≡ writes h g s x buffer)
  -- own
  pub places_of_lem : (b : List ℕ) (o : Owner) → Single (λ (r : Places). (r ≡ places_of (layout_of b) o) × (r.end ≤ 128))
  pub range_of_lem : (p : Places) → Single (λ (r : Range ℕ). r ≡ range_of p)
  pub cell_at_lem : (b : List ℕ) (o : Owner) (i : ℕ) → Single (λ (r : ℕ). (r ≡ cell_at (layout_of b) o i) × Given o r)
  -- of an owner's fields: all that come
  pub fields_lem : (b : List ℕ) (o : Owner) → Single (λ (r : List Field). r ≡ stored_of (node_of b) o)
  pub own : (b : List ℕ) (o : Owner) (d : ℕ) → Single (λ (r : Bool). r ≡ owns (layout_of b) o d)
  -- closing
  pub close_round : (b : List ℕ) → Single (λ (e : List ℕ). Memory e × (node_of e ≡ node_with (node_of b) (close_of (node_of b))))
  -- mondgurt, and node with the same outcomes: the eight calls, and loading
  pub call : (b : List ℕ) (c : Call) → Single (λ (o : Ended). Memory o.memory × Does b c o.seen o.memory)
  pub load : (b file : List ℕ) → Single (λ (o : Returned). Memory o.memory × Loads b file o.answer o.memory)
  -- listing
  pub list_file : (file out : List ℕ) → Single (λ (o : Returned). Put out o.memory 0 o.answer (listing file) 4096)
