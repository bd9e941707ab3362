-- The records before record i: how many there are of each kind, and by these counts the frame and the message of a number.
-- Assumes nothing.
use Rattle.std.specs.Prelude.{List, ℕ, ◌+◌, Result, Ok, Err}
use Rattle.record.specs.Numbers.{tally}
use Rattle.record.specs.Records.{is_frame, is_message, is_field, frame_at, message_at}
use Rattle.record.specs.declared.Frame.{Frame}
use Rattle.record.specs.declared.Message.{Message}
use Rattle.record.specs.declared.Record.{Record}
use Rattle.layout.specs.declared.Counts.{Counts}
use Rattle.layout.specs.declared.Refusal.{Refusal}

-- so many frames, messages and fields
abbrev pub counts : ℕ → ℕ → ℕ → Counts
counts f m d = record { frames = f; messages = m; fields = d }

-- how many there are of each kind
unfoldable pub counts_before : List ℕ → ℕ → Counts
counts_before s i = counts (tally (is_frame s) i) (tally (is_message s) i) (tally (is_field s) i)

-- the counts with one record more; a refused one does not count
abbrev pub counted_by : Counts → Result Record Refusal → Counts
counted_by c (Ok (Record.Frame h)) = counts (c.frames + 1) c.messages c.fields
counted_by c (Ok (Record.Message g)) = counts c.frames (c.messages + 1) c.fields
counted_by c (Ok (Record.Field r)) = counts c.frames c.messages (c.fields + 1)
counted_by c (Err n) = c

-- frame f is record f, and message m is record m after the frames, which c counts
abbrev pub frame_numbered : List ℕ → ℕ → Frame
frame_numbered s f = frame_at s f

abbrev pub message_numbered : List ℕ → Counts → ℕ → Message
message_numbered s c m = message_at s (c.frames + m)
