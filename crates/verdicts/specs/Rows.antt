-- Files and their verdicts: the paper's example, the empty file, for each refusal files that earn it, what floats earn, for each kind of record what a
-- wrong byte earns, byte by byte; and a file of 128 fields and one of 129. antt computes each verdict from the definitions.
-- Assumes nothing.
use Rattle.std.specs.Prelude.{◌≡◌, List, [], ◌∷◌, ◌++◌, map, ℕ, zero, suc, ◌+◌, ◌/◌, ◌%◌, replicate, set, Ok, Err}
use Rattle.ranges.specs.declared.Fault.{Fault}
use Rattle.ranges.specs.Ranges.{wrong_byte}
use Rattle.layout.specs.Counts.{counts}
use Rattle.layout.specs.Paper.{record_of, paper}
use Rattle.layout.specs.Verdict.{Verdict, refused_at, verdict}
use Rattle.layout.specs.declared.Refusal.{Refusal}

-- a received frame of so many bytes; message 0, received and of so many bits; a field of message 0, in a frame and from a start bit on
unfoldable pub frame : ℕ → ℕ → List ℕ
frame number bytes = record_of (1 ∷ number ∷ bytes ∷ [])

unfoldable pub message : ℕ → List ℕ
message bits = record_of (2 ∷ 0 ∷ bits ∷ [])

unfoldable pub field : ℕ → ℕ → List ℕ
field number start = record_of (3 ∷ 0 ∷ number ∷ start ∷ [])

-- n frames, and a field in each of them
unfoldable pub frames : ℕ → List ℕ
frames zero = []
frames (suc n) = frames n ++ frame n 2

unfoldable pub fields : ℕ → List ℕ
fields zero = []
fields (suc n) = fields n ++ field n 0

-- n messages of one bit
unfoldable pub messages : ℕ → List ℕ
messages zero = []
messages (suc n) = messages n ++ record_of (2 ∷ n ∷ 1 ∷ [])

-- record r is refused for this byte
abbrev pub wrong : ℕ → Fault → ℕ → Verdict
wrong r fault k = Err (refused_at (Refusal.Byte (wrong_byte fault k)) r)

pub record Row : Type 0 where
  pub file : List ℕ
  pub answer : Verdict

unfoldable pub row : List ℕ → Verdict → Row
row f v = record { file = f; answer = v }

-- ---- a wrong byte

-- n numbers from a on
unfoldable pub from : ℕ → ℕ → List ℕ
from a zero = []
from a (suc n) = a ∷ from (a + 1) n

-- a frame, a message of one bit with this filter, and a field of it
unfoldable pub small : ℕ → List ℕ
small filter = frame 0 2 ++ record_of (2 ∷ 0 ∷ 1 ∷ 0 ∷ 0 ∷ 0 ∷ filter ∷ []) ++ field 0 3

-- the file with byte k changed to 255, then the one with the byte after it, and on, with these answers
unfoldable pub each_byte : List ℕ → ℕ → List Verdict → List Row
each_byte s k [] = []
each_byte s k (v ∷ l) = row (set s k 255) v ∷ each_byte s (k + 1) l

-- kind and number are ORDER's; bytes 2 to 5 have ranges, and the rest is reserved
unfoldable pub frame_answers : List Verdict
frame_answers = replicate 2 (Err (refused_at Refusal.Order 0)) ++ map (wrong 0 Fault.Range) (from 2 4) ++ map (wrong 0 Fault.Reserved) (from 6 18)

-- bytes 2 to 6 have ranges, and a word's byte is its first
unfoldable pub message_answers : Fault → List Verdict
message_answers word =
    replicate 2 (Err (refused_at Refusal.Order 1))
    ++ map (wrong 1 Fault.Range) (from 2 5)
    ++ map (wrong 1 Fault.Reserved) (from 7 1)
    ++ replicate 4 (wrong 1 word 8)
    ++ replicate 4 (wrong 1 word 12)
    ++ replicate 4 (wrong 1 Fault.Width 16)
    ++ map (wrong 1 Fault.Reserved) (from 20 4)

-- message and frame are REF's, the start bit is PLACE's; no status bit is present, so byte 5 is 0
unfoldable pub field_answers : List Verdict
field_answers =
    replicate 1 (Err (refused_at Refusal.Order 2))
    ++ replicate 2 (Err (refused_at Refusal.Ref 2))
    ++ replicate 1 (Err (refused_at Refusal.Place 2))
    ++ map (wrong 2 Fault.Range) (from 4 2)
    ++ map (wrong 2 Fault.Reserved) (from 6 18)

-- filter 0 uses neither x1 nor x2, and UNUSED comes before WIDTH; filter 2 uses both
unfoldable pub byte_rows : List Row
byte_rows =
    each_byte (small 0) 0 frame_answers
    ++ each_byte (small 0) 24 (message_answers Fault.Unused)
    ++ each_byte (small 2) 24 (message_answers Fault.Width)
    ++ each_byte (small 0) 48 field_answers

-- ---- floats

-- message 0, a received float with this filter, and the bytes of its words
unfoldable pub float : ℕ → List ℕ → List ℕ
float filter words = record_of ((2 ∷ 0 ∷ 32 ∷ 2 ∷ 0 ∷ 0 ∷ filter ∷ 0 ∷ []) ++ words)

-- the words 00000000 and 80000000, and 7F800000 and FFC00000, which are not finite
unfoldable pub zero_word : List ℕ
zero_word = replicate 4 0

unfoldable pub minus_zero : List ℕ
minus_zero = 0 ∷ 0 ∷ 0 ∷ 128 ∷ []

unfoldable pub infinity : List ℕ
infinity = 0 ∷ 0 ∷ 128 ∷ 127 ∷ []

unfoldable pub not_a_number : List ℕ
not_a_number = 0 ∷ 0 ∷ 192 ∷ 255 ∷ []

unfoldable pub float_rows : List Row
float_rows =
    -- filter 8 from -0 to the greatest float, and the least above 0 as the initial value
    row (frame 0 4 ++ float 8 (minus_zero ++ 255 ∷ 255 ∷ 127 ∷ 127 ∷ 1 ∷ []) ++ field 0 0) (Ok (counts 1 1 1))
    -- RANGE: sign 3; a float of 31 bits, and of 33, where the width's byte is the lower
    ∷ row (record_of (2 ∷ 0 ∷ 32 ∷ 3 ∷ [])) (wrong 0 Fault.Range 3)
    ∷ row (record_of (2 ∷ 0 ∷ 31 ∷ 2 ∷ [])) (wrong 0 Fault.Range 3)
    ∷ row (record_of (2 ∷ 0 ∷ 33 ∷ 2 ∷ [])) (wrong 0 Fault.Range 2)
    -- RANGE: each mask
    ∷ row (float 2 []) (wrong 0 Fault.Range 6)
    ∷ row (float 3 []) (wrong 0 Fault.Range 6)
    ∷ row (float 6 []) (wrong 0 Fault.Range 6)
    ∷ row (float 7 []) (wrong 0 Fault.Range 6)
    -- WIDTH: x1, x2 and an initial value that are not finite
    ∷ row (float 8 not_a_number) (wrong 0 Fault.Width 8)
    ∷ row (float 8 (zero_word ++ not_a_number)) (wrong 0 Fault.Width 12)
    ∷ row (float 0 (zero_word ++ zero_word ++ infinity)) (wrong 0 Fault.Width 16)
    -- UNUSED: an x1 that filter 0 does not use, finite or not
    ∷ row (float 0 minus_zero) (wrong 0 Fault.Unused 8)
    ∷ row (float 0 infinity) (wrong 0 Fault.Unused 8)
    -- in an unsigned message that word is right, and only a field is lacking
    ∷ row (record_of (2 ∷ 0 ∷ 32 ∷ 0 ∷ 0 ∷ 0 ∷ 8 ∷ 0 ∷ infinity)) (Err (refused_at Refusal.NoField 0))
    ∷ []

-- ---- the table

unfoldable pub rows : List Row
rows =
    row paper (Ok (counts 1 1 1))
    ∷ row [] (Ok (counts 0 0 0))
    -- SIZE: one byte; 193 records
    ∷ row (1 ∷ []) (Err (refused_at Refusal.Size 0))
    ∷ row (replicate 4632 0) (Err (refused_at Refusal.Size 0))
    -- ORDER: a frame after a message; a field twice
    ∷ row (message 10 ++ frame 0 2) (Err (refused_at Refusal.Order 1))
    ∷ row (frame 0 2 ++ message 10 ++ field 0 3 ++ field 0 3) (Err (refused_at Refusal.Order 3))
    -- RANGE: a frame of no bytes; frame 32, message 32; a sent message with an agreement
    ∷ row (frame 0 2 ++ frame 1 0) (wrong 1 Fault.Range 2)
    ∷ row (frames 33) (wrong 32 Fault.Range 1)
    ∷ row (messages 33) (wrong 32 Fault.Range 1)
    ∷ row (record_of (2 ∷ 0 ∷ 10 ∷ 0 ∷ 1 ∷ 2 ∷ [])) (wrong 0 Fault.Range 5)
    -- UNUSED: an x2 with filter 7, which uses x1 alone
    ∷ row (record_of (2 ∷ 0 ∷ 10 ∷ 0 ∷ 0 ∷ 0 ∷ 7 ∷ 0 ∷ 1 ∷ 0 ∷ 0 ∷ 0 ∷ 1 ∷ [])) (wrong 0 Fault.Unused 12)
    -- WIDTH: 1,024 as the initial value of 10 bits; 511 and 512 as x2 of 10 signed bits
    ∷ row (record_of (2 ∷ 0 ∷ 10 ∷ 0 ∷ 0 ∷ 0 ∷ 0 ∷ 0 ∷ 0 ∷ 0 ∷ 0 ∷ 0 ∷ 0 ∷ 0 ∷ 0 ∷ 0 ∷ 0 ∷ 4 ∷ [])) (wrong 0 Fault.Width 16)
    ∷ row (record_of (2 ∷ 0 ∷ 10 ∷ 1 ∷ 0 ∷ 0 ∷ 8 ∷ 0 ∷ 0 ∷ 0 ∷ 0 ∷ 0 ∷ 255 ∷ 1 ∷ [])) (Err (refused_at Refusal.NoField 0))
    ∷ row (record_of (2 ∷ 0 ∷ 10 ∷ 1 ∷ 0 ∷ 0 ∷ 8 ∷ 0 ∷ 0 ∷ 0 ∷ 0 ∷ 0 ∷ 0 ∷ 2 ∷ [])) (wrong 0 Fault.Width 12)
    -- the lowest decides: RANGE at 3 before RESERVED at 7; RESERVED at 7 before UNUSED at 8; WIDTH at 8 before UNUSED at 12
    ∷ row (record_of (2 ∷ 0 ∷ 10 ∷ 2 ∷ 0 ∷ 0 ∷ 0 ∷ 1 ∷ [])) (wrong 0 Fault.Range 3)
    ∷ row (record_of (2 ∷ 0 ∷ 10 ∷ 0 ∷ 0 ∷ 0 ∷ 0 ∷ 1 ∷ 1 ∷ [])) (wrong 0 Fault.Reserved 7)
    ∷ row (record_of (2 ∷ 0 ∷ 10 ∷ 0 ∷ 0 ∷ 0 ∷ 6 ∷ 0 ∷ 0 ∷ 4 ∷ 0 ∷ 0 ∷ 1 ∷ [])) (wrong 0 Fault.Width 8)
    -- REF: a field of no message; a sent message in a received frame
    ∷ row (frame 0 2 ++ field 0 3) (Err (refused_at Refusal.Ref 1))
    ∷ row (frame 0 2 ++ record_of (2 ∷ 0 ∷ 10 ∷ 0 ∷ 1 ∷ []) ++ field 0 3) (Err (refused_at Refusal.Ref 2))
    -- GROUP: eight fields of a message, and nine; a sent message with filter 1 and no status bit
    ∷ row (frames 9 ++ message 10 ++ fields 8) (Ok (counts 9 1 8))
    ∷ row (frames 9 ++ message 10 ++ fields 9) (Err (refused_at Refusal.Group 18))
    ∷ row (record_of (1 ∷ 0 ∷ 2 ∷ 0 ∷ 1 ∷ []) ++ record_of (2 ∷ 0 ∷ 10 ∷ 0 ∷ 1 ∷ 0 ∷ 1 ∷ []) ++ field 0 3) (Err (refused_at Refusal.Group 2))
    -- PLACE: 32 bits at the end of a frame, and one past it; a status bit among the field's own
    ∷ row (frame 0 32 ++ message 32 ++ field 0 224) (Ok (counts 1 1 1))
    ∷ row (frame 0 32 ++ message 32 ++ field 0 225) (Err (refused_at Refusal.Place 2))
    ∷ row (frame 0 2 ++ message 10 ++ record_of (3 ∷ 0 ∷ 0 ∷ 3 ∷ 1 ∷ 12 ∷ [])) (Err (refused_at Refusal.Place 2))
    -- NOFIELD
    ∷ row (frame 0 2 ++ message 10) (Err (refused_at Refusal.NoField 1))
    ∷ float_rows ++ byte_rows

-- ---- 128 fields, and 129

-- a record of these bytes and zeros, and the rest of the file
unfoldable pub led : ℕ → ℕ → ℕ → ℕ → List ℕ → List ℕ
led a b c d t = a ∷ b ∷ c ∷ d ∷ 0 ∷ 0 ∷ 0 ∷ 0 ∷ 0 ∷ 0 ∷ 0 ∷ 0 ∷ 0 ∷ 0 ∷ 0 ∷ 0 ∷ 0 ∷ 0 ∷ 0 ∷ 0 ∷ 0 ∷ 0 ∷ 0 ∷ 0 ∷ t

-- n frames of three bytes, n messages of one bit and n fields, from number k on: field k is of message k / 8, in frame k % 8, at bit k / 8; and the rest
unfoldable pub wide : ℕ → ℕ → List ℕ → List ℕ
wide k zero t = t
wide k (suc n) t = led 1 k 3 0 (wide (k + 1) n t)

unfoldable pub narrow : ℕ → ℕ → List ℕ → List ℕ
narrow k zero t = t
narrow k (suc n) t = led 2 k 1 0 (narrow (k + 1) n t)

unfoldable pub spread : ℕ → ℕ → List ℕ
spread k zero = []
spread k (suc n) = led 3 (k / 8) (k % 8) (k / 8) (spread (k + 1) n)

-- eight frames, m messages and n fields
unfoldable pub many : ℕ → ℕ → List ℕ
many m n = wide 0 8 (narrow 0 m (spread 0 n))

-- ---- what is computed

pub record Rows : Type 0 where
  -- each file of the table has the verdict beside it
  pub table : map (λ r. verdict r.file) rows ≡ map (λ r. r.answer) rows
  -- 128 / 129 fields, all else right: accepted / GROUP
  pub fields_128 : verdict (many 16 128) ≡ Ok (counts 8 16 128)
  pub fields_129 : verdict (many 17 129) ≡ Err (refused_at Refusal.Group 153)
