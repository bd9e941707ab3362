-- What holds of the layout part of every node that a load makes; no other call changes it. No call asks for it: it is what makes "own fields" mean what
-- the paper says.
-- Assumes nothing.
use Rattle.std.specs.Prelude.{◌≡◌, true, false, List, ℕ, ◌+◌, ◌<◌, ◌≤◌, length}
use Rattle.packing.specs.Places.{in_frame, places_in, Disjoint}
use Rattle.packing.specs.Values.{is_width, extended}
use Rattle.float.specs.Patterns.{aside}
use Rattle.ranges.specs.Ranges.{uses_x1, uses_x2, is_mask}
use Rattle.record.specs.declared.Field.{Field as FieldRecord}
use Rattle.store.specs.declared.Frame.{Frame}
use Rattle.store.specs.declared.Message.{Message}
use Rattle.store.specs.Node.{Layout, is_signed, is_float, is_sent, is_big, no_frame, no_message, not_laid, frame_at, message_at, laid_at, listed_at}
use Rattle.message.specs.Fields.{status_places}

-- a frame is as its record says, and has its fields in one run of the index
pub record SoundFrame (l : Layout) (h : Frame) : Type 0 where
  pub length_from : 1 ≤ h.length
  pub length_to : h.length ≤ 32
  pub order : h.order ≤ 1
  pub direction : h.direction ≤ 1
  pub trigger : h.trigger ≤ 1
  pub few_fields : h.fields ≤ 32
  pub in_count : h.first + h.fields ≤ l.field_number

-- a message is as its record says, and has its fields in one run
pub record SoundMessage (l : Layout) (g : Message) : Type 0 where
  pub width : is_width g.width ≡ true
  pub sign : g.sign ≤ 2
  pub float_width : is_float g ≡ true → g.width ≡ 32
  pub direction : g.direction ≤ 1
  pub agreement : g.agreement ≤ 2
  pub sent_agreement : is_sent g ≡ true → g.agreement ≡ 0
  pub filter : g.filter ≤ 13
  pub float_filter : is_float g ≡ true → is_mask g.filter ≡ false
  pub statusbit : g.statusbit ≤ 1
  pub heard : is_sent g ≡ true → g.statusbit ≡ 0 → g.filter ≡ 0
  pub x1 : extended (is_signed g) g.width g.x1 ≡ true
  pub x2 : extended (is_signed g) g.width g.x2 ≡ true
  pub finite_x1 : is_float g ≡ true → aside g.x1 ≡ false
  pub finite_x2 : is_float g ≡ true → aside g.x2 ≡ false
  pub unused_x1 : uses_x1 g.filter ≡ false → g.x1 ≡ 0
  pub unused_x2 : uses_x2 g.filter ≡ false → g.x2 ≡ 0
  pub some_field : 1 ≤ g.fields
  pub few_fields : g.fields ≤ 8
  pub in_count : g.first + g.fields ≤ l.field_number

-- the places of a field's message bits, and of its status bit
abbrev pub message_places : Layout → FieldRecord → List ℕ
message_places l x =
    places_in (frame_at l x.frame).length (is_big (frame_at l x.frame)) x.start (message_at l x.message).width

abbrev pub its_status_places : Layout → FieldRecord → List ℕ
its_status_places l x = status_places (frame_at l x.frame).length (frame_at l x.frame) x

-- field d has a place in the run of a frame
pub record Listed (l : Layout) (h : Frame) (d : ℕ) : Type 0 where
  pub place : ℕ
  pub from : h.first ≤ place
  pub to : place < h.first + h.fields
  pub number : listed_at l place ≡ d

-- field d belongs to a message and a frame of one direction, stands in their runs, lies in its frame, and uses no bit twice
pub record SoundField (l : Layout) (d : ℕ) (x : FieldRecord) : Type 0 where
  pub message : x.message < l.message_number
  pub frame : x.frame < l.frame_number
  pub directions : (message_at l x.message).direction ≡ (frame_at l x.frame).direction
  pub status : x.status ≡ (message_at l x.message).statusbit
  pub run_from : (message_at l x.message).first ≤ d
  pub run_to : d < (message_at l x.message).first + (message_at l x.message).fields
  pub listed : Listed l (frame_at l x.frame) d
  pub lies : in_frame (frame_at l x.frame).length x.start (message_at l x.message).width ≡ true
  pub status_lies : x.status ≡ 1 → in_frame (frame_at l x.frame).length x.place 1 ≡ true
  pub once : Disjoint (message_places l x) (its_status_places l x)

-- two fields share no bit
pub record Apart (l : Layout) (x y : FieldRecord) : Type 0 where
  pub bits_bits : Disjoint (message_places l x) (message_places l y)
  pub bits_status : Disjoint (message_places l x) (its_status_places l y)
  pub status_bits : Disjoint (its_status_places l x) (message_places l y)
  pub status_status : Disjoint (its_status_places l x) (its_status_places l y)

-- a layout with a cell for each place, whose frames, messages and fields are sound; past their numbers there is none, and the index lists none
pub record SoundLayout (l : Layout) : Type 0 where
  pub frame_cells : length l.frames ≡ 32
  pub message_cells : length l.messages ≡ 32
  pub field_cells : length l.fields ≡ 128
  pub index_cells : length l.index ≡ 128
  pub few_frames : l.frame_number ≤ 32
  pub few_messages : l.message_number ≤ 32
  pub few_fields : l.field_number ≤ 128
  pub frames : (f : ℕ) → f < l.frame_number → SoundFrame l (frame_at l f)
  pub no_frames : (f : ℕ) → l.frame_number ≤ f → frame_at l f ≡ no_frame
  pub messages : (m : ℕ) → m < l.message_number → SoundMessage l (message_at l m)
  pub no_messages : (m : ℕ) → l.message_number ≤ m → message_at l m ≡ no_message
  pub fields : (d : ℕ) → d < l.field_number → SoundField l d (laid_at l d)
  pub no_fields : (d : ℕ) → l.field_number ≤ d → laid_at l d ≡ not_laid
  pub none_listed : (i : ℕ) → l.field_number ≤ i → listed_at l i ≡ 0
  -- every cell of a message's run names it, and its frames rise
  pub run : (m d : ℕ) → m < l.message_number → (message_at l m).first ≤ d → d < (message_at l m).first + (message_at l m).fields → (laid_at l d).message ≡ m
  pub rising : (d e : ℕ) → d < e → e < l.field_number → (laid_at l d).message ≡ (laid_at l e).message → (laid_at l d).frame < (laid_at l e).frame
  -- every field in a frame's run names it, and their numbers rise, so that each stands there once
  pub frame_run : (f i : ℕ) → f < l.frame_number → (frame_at l f).first ≤ i → i < (frame_at l f).first + (frame_at l f).fields
      → (listed_at l i < l.field_number) × ((laid_at l (listed_at l i)).frame ≡ f)
  pub frame_rising : (f i j : ℕ) → f < l.frame_number → (frame_at l f).first ≤ i → i < j → j < (frame_at l f).first + (frame_at l f).fields
      → listed_at l i < listed_at l j
  -- two fields of one frame share no bit
  pub apart : (d e : ℕ) → d < e → e < l.field_number → (laid_at l d).frame ≡ (laid_at l e).frame → Apart l (laid_at l d) (laid_at l e)
