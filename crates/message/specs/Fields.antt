-- What a call makes of one field: the stage that it moves on to, and the bits that it writes into its frame.
-- Assumes nothing.
use Rattle.std.specs.Prelude.{Bool, true, false, cond, List, [], ℕ, eqb, length}
use Rattle.packing.specs.Places.{places_in, packed}
use Rattle.record.specs.declared.Field.{Field as FieldRecord}
use Rattle.store.specs.declared.Stage.{Stage}
use Rattle.store.specs.declared.Stage.TheVariants.{Waiting, Loaded, Gone}
use Rattle.store.specs.declared.Frame.{Frame}
use Rattle.store.specs.declared.Message.{Message}
use Rattle.store.specs.declared.MessageState.{MessageState}
use Rattle.store.specs.Node.{is_valid, is_big}
use Rattle.message.specs.declared.Change.{Change}

-- ---- stages

-- a sending makes a field waiting at whatever stage it is; an assembly makes a waiting one loaded; consuming makes a loaded one gone
abbrev pub stage_after : Change → Stage → Stage
stage_after Change.Send Waiting = Waiting
stage_after Change.Send Loaded = Waiting
stage_after Change.Send (Gone k) = Waiting
stage_after Change.Load Waiting = Loaded
stage_after Change.Load Loaded = Loaded
stage_after Change.Load (Gone k) = Gone k
stage_after Change.Consume Waiting = Waiting
stage_after Change.Consume Loaded = Gone 2
stage_after Change.Consume (Gone k) = Gone k

abbrev pub is_gone : Stage → Bool
is_gone Waiting = false
is_gone Loaded = false
is_gone (Gone k) = true

-- ---- bits

-- a field's status bit in a frame of that many bytes: no place where it has none
unfoldable pub status_places : ℕ → Frame → FieldRecord → List ℕ
status_places size h x = cond (eqb x.status 1) (places_in size (is_big h) x.place 1) []

-- a field of message g in state s writes the held value and, if present, its status bit
unfoldable pub writes : Frame → Message → MessageState → FieldRecord → List ℕ → List ℕ
writes h g s x b =
    packed (status_places (length b) h x) (cond (is_valid s) 1 0) (packed (places_in (length b) (is_big h) x.start g.width) s.held b)
