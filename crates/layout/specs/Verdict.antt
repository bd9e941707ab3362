-- What each layout refusal says, and the verdict on a file. Each refusal is a list of faults, one for each clause of the paper's table, in its
-- order; RANGE, RESERVED, UNUSED and WIDTH look at one record only, and stand in ranges/specs/Ranges.antt. Of record i, c counts the records before it.
-- Assumes nothing.
use Rattle.std.specs.Prelude.{Bool, not, cond, ◌&&◌, List, [], ◌∷◌, ℕ, ◌+◌, ◌-◌, ◌/◌, ◌%◌, eqb, ltb, leb, length, Result, Ok, Err}
use Rattle.record.specs.Numbers.{within, tally, any_below, least_below, one_of}
use Rattle.record.specs.Records.{byte_at, is_frame, is_message, is_field, field_at, record_at, pair_below}
use Rattle.ranges.specs.Ranges.{RecordFinding, range_fault, is_fault}
use Rattle.record.specs.Runs.{message_run, status_run, past_end, meet, clash}
use Rattle.record.specs.declared.Message.{Message}
use Rattle.record.specs.declared.Field.{Field}
use Rattle.layout.specs.Counts.{counts_before, frame_numbered, message_numbered}
use Rattle.layout.specs.declared.Counts.{Counts}
use Rattle.layout.specs.declared.Refusal.{Refusal}
use Rattle.record.specs.declared.Record.{Record}
use Rattle.layout.specs.declared.Refused.{Refused}

-- what is said of a file: its counts, or why it is refused
abbrev pub Verdict : Type 0
Verdict = Result Counts Refused

-- this refusal, at record r
abbrev pub refused_at : Refusal → ℕ → Refused
refused_at n r = record { refusal = n; «record» = r }

-- ---- 1 SIZE

-- length not a multiple of 24, or above 4,608
unfoldable pub size_fault : List ℕ → Bool
size_fault s = one_of (not (eqb (length s % 24) 0) ∷ ltb 4608 (length s) ∷ [])

-- ---- 2 ORDER

-- kind not 1..3, or below the kind before; frame number, message number not the next from 0; a field's pair not above the field's before it
unfoldable pub order_fault : List ℕ → ℕ → Counts → Bool
order_fault s i c =
    one_of
    (not (within 1 3 (byte_at s i 0))
    ∷ (ltb 0 i && ltb (byte_at s i 0) (byte_at s (i - 1) 0))
    ∷ (is_frame s i && not (eqb (byte_at s i 1) c.frames))
    ∷ (is_message s i && not (eqb (byte_at s i 1) c.messages))
    ∷ (ltb 0 i && (is_field s (i - 1) && (is_field s i && not (pair_below (field_at s (i - 1)) (field_at s i)))))
    ∷ [])

-- ---- 4 REF, of a field record

-- the field names an absent message, an absent frame, or their directions differ
unfoldable pub ref_fault : List ℕ → ℕ → Counts → Bool
ref_fault s i c =
    is_field s i
    && one_of
    (leb c.messages (field_at s i).message
    ∷ leb c.frames (field_at s i).frame
    ∷ not (eqb (message_numbered s c (field_at s i).message).direction (frame_numbered s (field_at s i).frame).direction)
    ∷ [])

-- ---- 5 GROUP, of a field record

-- record k is a field of message m
unfoldable pub is_field_of : List ℕ → ℕ → ℕ → Bool
is_field_of s m k = is_field s k && eqb (field_at s k).message m

-- how many of the first n records are fields of message m
abbrev pub fields_among : List ℕ → ℕ → ℕ → ℕ
fields_among s m n = tally (is_field_of s m) n

-- record k is a field of r's message, and one of the two has a status bit and the other not
unfoldable pub unlike : List ℕ → Field → ℕ → Bool
unlike s r k = is_field_of s r.message k && not (eqb (field_at s k).status r.status)

-- a sent message with a filter other than 0 and no status bit
abbrev pub mute : Message → Field → Bool
mute g r = eqb g.direction 1 && (not (eqb g.filter 0) && eqb r.status 0)

-- a message's ninth field; the 129th field; a status bit here and none in an earlier field of the message, or the reverse; a sent message with a filter
-- other than 0 and no status bit
unfoldable pub group_fault : List ℕ → ℕ → Counts → Bool
group_fault s i c =
    is_field s i
    && one_of
    (leb 8 (fields_among s (field_at s i).message i)
    ∷ leb 128 c.fields
    ∷ any_below (unlike s (field_at s i)) i
    ∷ mute (message_numbered s c (field_at s i).message) (field_at s i)
    ∷ [])

-- ---- 6 PLACE, of a field record

-- record k is a field of r's frame that has a bit in common with r
unfoldable pub clash_at : List ℕ → Counts → Message → Field → ℕ → Bool
clash_at s c g r k = is_field s k && (eqb (field_at s k).frame r.frame && clash g r (message_numbered s c (field_at s k).message) (field_at s k))

-- a bit of the field or its status bit lies past the frame's end; or is used twice: by both, or by an earlier field
unfoldable pub place_fault : List ℕ → ℕ → Counts → Bool
place_fault s i c =
    is_field s i
    && one_of
    (past_end (frame_numbered s (field_at s i).frame).length (message_run (message_numbered s c (field_at s i).message) (field_at s i))
    ∷ past_end (frame_numbered s (field_at s i).frame).length (status_run (field_at s i))
    ∷ meet (message_run (message_numbered s c (field_at s i).message) (field_at s i)) (status_run (field_at s i))
    ∷ any_below (clash_at s c (message_numbered s c (field_at s i).message) (field_at s i)) i
    ∷ [])

-- ---- reading a record

-- record i fails one of the tests
unfoldable pub fails : List ℕ → ℕ → Counts → Bool
fails s i c = one_of (order_fault s i c ∷ is_fault (range_fault s i) ∷ ref_fault s i c ∷ group_fault s i c ∷ place_fault s i c ∷ [])

-- what is wrong at a byte, or what comes next
abbrev pub byte_or : RecordFinding → Refusal → Refusal
byte_or (Ok u) next = next
byte_or (Err wrong) next = Refusal.Byte wrong

-- the first that it fails decides: 2, then 3 and 8 to 10, then 4, 5, 6
unfoldable pub refusal_of : List ℕ → ℕ → Counts → Refusal
refusal_of s i c =
    cond (order_fault s i c) Refusal.Order
    (byte_or (range_fault s i)
    (cond (ref_fault s i c) Refusal.Ref
    (cond (group_fault s i c) Refusal.Group
    Refusal.Place)))

-- reading record i answers that refusal, or the record
unfoldable pub read_at : List ℕ → ℕ → Counts → Result Record Refusal
read_at s i c = cond (fails s i c) (Err (refusal_of s i c)) (Ok (record_at s i))

-- ---- 7 NOFIELD

-- message m has no field among the first n records
unfoldable pub no_field : List ℕ → ℕ → ℕ → Bool
no_field s n m = eqb (fields_among s m n) 0

-- n records that pass their tests: the lowest message without a field is refused, with its record
unfoldable pub complete : List ℕ → ℕ → Counts → Verdict
complete s n c =
    cond (any_below (no_field s n) c.messages)
    (Err (refused_at Refusal.NoField (c.frames + least_below (no_field s n) c.messages)))
    (Ok c)

-- ---- the verdict

unfoldable pub fails_at : List ℕ → ℕ → Bool
fails_at s i = fails s i (counts_before s i)

-- the refusal of a record that fails
unfoldable pub refusal_at : List ℕ → ℕ → Verdict
refusal_at s i = Err (refused_at (refusal_of s i (counts_before s i)) i)

-- of n records the first that fails decides; where none does, NOFIELD is left
unfoldable pub judged : List ℕ → ℕ → Verdict
judged s n = cond (any_below (fails_at s) n) (refusal_at s (least_below (fails_at s) n)) (complete s n (counts_before s n))

-- SIZE comes first, with record 0
unfoldable pub verdict : List ℕ → Verdict
verdict s = cond (size_fault s) (Err (refused_at Refusal.Size 0)) (judged s (length s / 24))
