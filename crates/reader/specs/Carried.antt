-- What the reader carries from record to record, so that no record is held against all those before it: the counts, how many fields of the message
-- at hand came, the lowest message without a field, and the table of used bits. The verdict's definition knows nothing of it.
-- Assumes nothing.
use Rattle.std.specs.Prelude.{◌≡◌, Bool, true, false, not, cond, ◌&&◌, ◌||◌, List, ℕ, ◌+◌, ◌-◌, ◌<◌, ◌≤◌, eqb, ltb, length}
use Rattle.record.specs.Numbers.{any_below}
use Rattle.record.specs.Records.{byte_at, is_field, frame_at, message_at, field_at}
use Rattle.record.specs.Runs.{message_run, status_run, past_end, meet}
use Rattle.record.specs.declared.Run.{Run}
use Rattle.used.specs.Used.{table_size, any_used}
use Rattle.layout.specs.Counts.{counts_before}
use Rattle.layout.specs.Verdict.{fields_among, unlike, no_field, fails_at}
use Rattle.layout.specs.declared.Counts.{Counts}

-- ---- the fields of a message

-- the message at hand is that of the last record: how many of the first i records are fields of it
unfoldable pub at_hand : List ℕ → ℕ → ℕ
at_hand s i = fields_among s (field_at s (i - 1)).message i

-- field i is of the message at hand
unfoldable pub is_at_hand : List ℕ → ℕ → Bool
is_at_hand s i = ltb 0 i && (is_field s (i - 1) && eqb (field_at s (i - 1)).message (field_at s i).message)

-- how many fields of field i's message come before it, where of the message at hand that number does
unfoldable pub earlier_by : List ℕ → ℕ → ℕ → ℕ
earlier_by s i number = cond (is_at_hand s i) number 0

-- that is so of record i, if it is a field; and of its earlier fields the last tells whether one is unlike it
pub record Earlier (s : List ℕ) (i earlier : ℕ) : Type 0 where
  pub number : byte_at s i 0 ≡ 3 → fields_among s (field_at s i).message i ≡ earlier
  pub status : byte_at s i 0 ≡ 3 → any_below (unlike s (field_at s i)) i ≡ (ltb 0 earlier && not (eqb (field_at s (i - 1)).status (field_at s i).status))

-- how many fields of the message at hand there are with record i
unfoldable pub fields_after : List ℕ → ℕ → ℕ → ℕ
fields_after s i number = cond (is_field s i) (earlier_by s i number + 1) 0

-- message m is the lowest without a field among the first i records
pub record Lacks (s : List ℕ) (i m : ℕ) : Type 0 where
  pub some_field : (k : ℕ) → k < m → no_field s i k ≡ false
  pub no_field_lem : no_field s i m ≡ true

-- which it is with record i
unfoldable pub lacking_after : List ℕ → ℕ → ℕ → ℕ
lacking_after s i m = cond (is_field s i && eqb (field_at s i).message m) (m + 1) m

-- ---- used bits; the messages stand after F frames

-- record k is a field of frame f that uses a bit of run a
unfoldable pub uses_of : List ℕ → ℕ → ℕ → Run → ℕ → Bool
uses_of s F f a k =
    is_field s k
    && (eqb (field_at s k).frame f && (meet a (message_run (message_at s (F + (field_at s k).message)) (field_at s k)) || meet a (status_run (field_at s k))))

-- in the table of the first i records a run has a used bit exactly if one of their fields uses a bit of it
pub record TableOf (s : List ℕ) (F i : ℕ) (t : List ℕ) : Type 0 where
  pub size : length t ≡ table_size
  pub used : (f : ℕ) (a : Run) → f < 32 → a.start + a.width ≤ 256 → any_used t f a ≡ any_below (uses_of s F f a) i

-- record i, if it is a field, is as its tests before PLACE leave it: its frame has a row in the table, and is no longer; its message has 1 to 32 bits; and
-- where it has no status bit the place of one is 0
pub record HasRow (s : List ℕ) (F i : ℕ) : Type 0 where
  pub frame : byte_at s i 0 ≡ 3 → (field_at s i).frame < 32
  pub length : byte_at s i 0 ≡ 3 → (frame_at s (field_at s i).frame).length ≤ 32
  pub width_from : byte_at s i 0 ≡ 3 → 1 ≤ (message_at s (F + (field_at s i).message)).width
  pub width_to : byte_at s i 0 ≡ 3 → (message_at s (F + (field_at s i).message)).width ≤ 32
  pub status : byte_at s i 0 ≡ 3 → (field_at s i).status ≤ 1
  pub no_status : byte_at s i 0 ≡ 3 → (field_at s i).status ≡ 0 → (field_at s i).place ≡ 0

-- and its bits lie in the frame
pub record Fits (s : List ℕ) (F i : ℕ) : Type 0 where
  pub row : HasRow s F i
  pub message : byte_at s i 0 ≡ 3 → past_end (frame_at s (field_at s i).frame).length (message_run (message_at s (F + (field_at s i).message)) (field_at s i)) ≡ false
  pub status : byte_at s i 0 ≡ 3 → past_end (frame_at s (field_at s i).frame).length (status_run (field_at s i)) ≡ false

-- ---- what is carried to record i, each record before which passes its tests

pub record Carried (s : List ℕ) (i : ℕ) (c : Counts) (number : ℕ) (t : List ℕ) : Type 0 where
  pub passes : any_below (fails_at s) i ≡ false
  pub counts : c ≡ counts_before s i
  pub hand : number ≡ at_hand s i
  pub table : TableOf s c.frames i t
