-- The records of a layout file, their bytes and words by the paper's names. The file is the list of its bytes; record i is the 24 of them from
-- 24 * i on, and what lies past the end of the file reads as zero.
-- Assumes nothing.
use Rattle.std.specs.Prelude.{Bool, cond, ◌&&◌, ◌||◌, List, ℕ, ◌+◌, ◌*◌, eqb, ltb, get_or, take, drop}
use Rattle.whole.specs.Whole.{word}
use Rattle.record.specs.declared.Frame.{Frame}
use Rattle.record.specs.declared.Message.{Message}
use Rattle.record.specs.declared.Field.{Field}
use Rattle.record.specs.declared.Record.{Record}

-- byte k of record i
unfoldable pub byte_at : List ℕ → ℕ → ℕ → ℕ
byte_at s i k = get_or s (i * 24 + k) 0

-- its bytes by themselves
unfoldable pub record_bytes : List ℕ → ℕ → List ℕ
record_bytes s i = take 24 (drop (i * 24) s)

-- the four-byte word at byte k of record i, little-endian
unfoldable pub word_at : List ℕ → ℕ → ℕ → ℕ
word_at s i k = word (byte_at s i k) (byte_at s i (k + 1)) (byte_at s i (k + 2)) (byte_at s i (k + 3))

-- ---- the three kinds

unfoldable pub is_frame : List ℕ → ℕ → Bool
is_frame s i = eqb (byte_at s i 0) 1

unfoldable pub is_message : List ℕ → ℕ → Bool
is_message s i = eqb (byte_at s i 0) 2

unfoldable pub is_field : List ℕ → ℕ → Bool
is_field s i = eqb (byte_at s i 0) 3

-- record i read as a frame: order 0 little, 1 big; direction 0 received, 1 sent; trigger 0 time, 1 event
unfoldable pub frame_at : List ℕ → ℕ → Frame
frame_at s i =
    record {
      number = byte_at s i 1;
      length = byte_at s i 2;
      order = byte_at s i 3;
      direction = byte_at s i 4;
      trigger = byte_at s i 5;
    }

-- read as a message: sign 0 unsigned, 1 signed, 2 float
unfoldable pub message_at : List ℕ → ℕ → Message
message_at s i =
    record {
      number = byte_at s i 1;
      width = byte_at s i 2;
      sign = byte_at s i 3;
      direction = byte_at s i 4;
      agreement = byte_at s i 5;
      filter = byte_at s i 6;
      x1 = word_at s i 8;
      x2 = word_at s i 12;
      initial = word_at s i 16;
    }

-- read as a field: status 1 where its status bit is present, at that place
unfoldable pub field_at : List ℕ → ℕ → Field
field_at s i =
    record {
      message = byte_at s i 1;
      frame = byte_at s i 2;
      start = byte_at s i 3;
      status = byte_at s i 4;
      place = byte_at s i 5;
    }

-- read by its kind
unfoldable pub record_at : List ℕ → ℕ → Record
record_at s i = cond (is_frame s i) (Record.Frame (frame_at s i)) (cond (is_message s i) (Record.Message (message_at s i)) (Record.Field (field_at s i)))

-- the (message, frame) pair of p is below that of r
unfoldable pub pair_below : Field → Field → Bool
pair_below p r = ltb p.message r.message || (eqb p.message r.message && ltb p.frame r.frame)
