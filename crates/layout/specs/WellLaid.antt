-- What the paper demands of a layout file, record by record and in its own words: a file of F frames, M messages and D fields is well laid out.
-- Frame f is record f, message m is record F + m, field d is record F + M + d. proofs/Accepted.antt shows that exactly these files are accepted.
-- Assumes nothing.
use Rattle.std.specs.Prelude.{◌≡◌, Bool, true, false, List, ◌⊎◌, ℕ, ◌+◌, ◌*◌, ◌<◌, ◌≤◌, eqb, length}
use Rattle.packing.specs.Values.{extended}
use Rattle.float.specs.Patterns.{aside}
use Rattle.record.specs.Records.{byte_at, frame_at, message_at, field_at}
use Rattle.ranges.specs.Ranges.{uses_x1, uses_x2, is_mask}
use Rattle.record.specs.declared.Frame.{Frame}
use Rattle.record.specs.declared.Message.{Message}
use Rattle.record.specs.declared.Field.{Field}
use Rattle.layout.specs.Verdict.{fields_among}

-- bytes a to 23 of record i are zero
abbrev pub ZeroFrom : ℕ → List ℕ → ℕ → Type 0
ZeroFrom a s i = (k : ℕ) → a ≤ k → k < 24 → byte_at s i k ≡ 0

-- record i is that of frame f
pub record FrameRecord (s : List ℕ) (i f : ℕ) : Type 0 where
  pub kind : byte_at s i 0 ≡ 1
  pub number : (frame_at s i).number ≡ f
  pub number_below : f < 32
  pub length_from : 1 ≤ (frame_at s i).length
  pub length_to : (frame_at s i).length ≤ 32
  pub order : (frame_at s i).order ≤ 1
  pub direction : (frame_at s i).direction ≤ 1
  pub trigger : (frame_at s i).trigger ≤ 1
  pub zeros : ZeroFrom 6 s i

-- a word of a message is extended from the width, that of a float is finite, and it is zero where the filter does not use it
pub record Word (g : Message) (used : Bool) (x : ℕ) : Type 0 where
  pub fits : extended (eqb g.sign 1) g.width x ≡ true
  pub finite : g.sign ≡ 2 → aside x ≡ false
  pub unused : used ≡ false → x ≡ 0

-- record i is that of message m
pub record MessageRecord (s : List ℕ) (i m : ℕ) : Type 0 where
  pub kind : byte_at s i 0 ≡ 2
  pub number : (message_at s i).number ≡ m
  pub number_below : m < 32
  pub width_from : 1 ≤ (message_at s i).width
  pub width_to : (message_at s i).width ≤ 32
  pub sign : (message_at s i).sign ≤ 2
  pub float_width : (message_at s i).sign ≡ 2 → (message_at s i).width ≡ 32
  pub direction : (message_at s i).direction ≤ 1
  pub agreement : (message_at s i).agreement ≤ 2
  pub sent_agreement : (message_at s i).direction ≡ 1 → (message_at s i).agreement ≡ 0
  pub filter : (message_at s i).filter ≤ 13
  pub float_filter : (message_at s i).sign ≡ 2 → is_mask (message_at s i).filter ≡ false
  pub x1 : Word (message_at s i) (uses_x1 (message_at s i).filter) (message_at s i).x1
  pub x2 : Word (message_at s i) (uses_x2 (message_at s i).filter) (message_at s i).x2
  pub initial : Word (message_at s i) true (message_at s i).initial
  pub zero_seven : byte_at s i 7 ≡ 0
  pub zeros : ZeroFrom 20 s i

-- a field of message g uses frame bit b for one of its message's bits; for its status bit; for either
abbrev pub UsesForMessage : Message → Field → ℕ → Type 0
UsesForMessage g r b = (r.start ≤ b) × (b < r.start + g.width)

abbrev pub UsesForStatus : Field → ℕ → Type 0
UsesForStatus r b = (r.status ≡ 1) × (b ≡ r.place)

abbrev pub Uses : Message → Field → ℕ → Type 0
Uses g r b = UsesForMessage g r b ⊎ UsesForStatus r b

-- record i is that of a field, of message g and in frame h
pub record FieldRecord (s : List ℕ) (F M i : ℕ) (g : Message) (h : Frame) : Type 0 where
  pub kind : byte_at s i 0 ≡ 3
  pub message : (field_at s i).message < M
  pub frame : (field_at s i).frame < F
  pub directions : g.direction ≡ h.direction
  pub status : (field_at s i).status ≤ 1
  pub no_status : (field_at s i).status ≡ 0 → (field_at s i).place ≡ 0
  pub heard : g.direction ≡ 1 → (field_at s i).status ≡ 0 → g.filter ≡ 0
  pub inside : (b : ℕ) → Uses g (field_at s i) b → b < h.length * 8
  pub once : (b : ℕ) → UsesForMessage g (field_at s i) b → UsesForStatus (field_at s i) b → ⊥
  pub zeros : ZeroFrom 6 s i

-- the (message, frame) pair of p is below that of r
abbrev pub Below : Field → Field → Type 0
Below p r = (p.message < r.message) ⊎ ((p.message ≡ r.message) × (p.frame < r.frame))

module _ (s : List ℕ) (F M : ℕ) where
  abbrev pub the_field : ℕ → Field
  the_field d = field_at s (F + M + d)

  -- the message and the frame of a field
  abbrev pub its_message : Field → Message
  its_message r = message_at s (F + r.message)

  abbrev pub its_frame : Field → Frame
  its_frame r = frame_at s r.frame

pub record WellLaid (s : List ℕ) (F M D : ℕ) : Type 0 where
  pub size : length s ≡ (F + M + D) * 24
  pub fields_few : D ≤ 128
  pub frames : (f : ℕ) → f < F → FrameRecord s f f
  pub messages : (m : ℕ) → m < M → MessageRecord s (F + m) m
  pub fields : (d : ℕ) → d < D → FieldRecord s F M (F + M + d) (its_message s F M (the_field s F M d)) (its_frame s F M (the_field s F M d))
  -- the fields' pairs rise; the fields of a message all have a status bit or none has; two fields of one frame share no bit
  pub rising : (d e : ℕ) → d < e → e < D → Below (the_field s F M d) (the_field s F M e)
  pub alike : (d e : ℕ) → d < e → e < D → (the_field s F M d).message ≡ (the_field s F M e).message → (the_field s F M d).status ≡ (the_field s F M e).status
  pub apart :
      (d e : ℕ) → d < e → e < D → (the_field s F M d).frame ≡ (the_field s F M e).frame → (b : ℕ)
      → Uses (its_message s F M (the_field s F M d)) (the_field s F M d) b
      → Uses (its_message s F M (the_field s F M e)) (the_field s F M e) b
      → ⊥
  -- a message has one to eight fields
  pub some_field : (m : ℕ) → m < M → 1 ≤ fields_among s m (F + M + D)
  pub eight_fields : (m : ℕ) → m < M → fields_among s m (F + M + D) ≤ 8
