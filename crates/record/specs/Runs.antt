-- The runs of frame bits that a field uses: whether a run goes past the end of a frame, and whether two have a bit in common.
-- Assumes nothing.
use Rattle.std.specs.Prelude.{Bool, ◌&&◌, [], ◌∷◌, ℕ, ◌+◌, ◌*◌, ltb}
use Rattle.record.specs.Numbers.{one_of}
use Rattle.record.specs.declared.Message.{Message}
use Rattle.record.specs.declared.Field.{Field}
use Rattle.record.specs.declared.Run.{Run}

-- the frame bits of a field's message bits, and of its status bit: a run of width 0 where it is absent
abbrev pub message_run : Message → Field → Run
message_run g r = record { start = r.start; width = g.width }

abbrev pub status_run : Field → Run
status_run r = record { start = r.place; width = r.status }

-- a bit of the run lies past the end of a frame of n bytes
unfoldable pub past_end : ℕ → Run → Bool
past_end n a = ltb 0 a.width && ltb (n * 8) (a.start + a.width)

-- two runs have a bit in common
unfoldable pub meet : Run → Run → Bool
meet a b = ltb 0 a.width && (ltb 0 b.width && (ltb a.start (b.start + b.width) && ltb b.start (a.start + a.width)))

-- two fields, r of message g and q of message e, have a bit in common
unfoldable pub clash : Message → Field → Message → Field → Bool
clash g r e q =
    one_of
    (meet (message_run g r) (message_run e q)
    ∷ meet (message_run g r) (status_run q)
    ∷ meet (status_run r) (message_run e q)
    ∷ meet (status_run r) (status_run q)
    ∷ [])
