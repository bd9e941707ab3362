-- PLACE: a record of another kind passes; of a field, with what each callee ensures put in, the code's tests are the definition's list, the last of
-- which the table answers.
-- Assumes nothing.
use mathlib.Core.Path.{◌≡◌, refl}
use mathlib.Core.Bool.{Bool, ◌||◌, false}
use mathlib.Core.List.{List}
use Prim.Native.Nat.{ℕ, ◌+◌, ◌≤◌}
use Rattle.record.specs.Records.{byte_at, is_field, message_at, field_at}
use Rattle.record.specs.Runs.{message_run, status_run, past_end, meet}
use Rattle.record.proofs.Tests.{or_clear}
use Rattle.layout.specs.Counts.{frame_numbered, message_numbered}
use Rattle.layout.specs.Verdict.{place_fault}
use Rattle.reader.proofs.Reading.{kind_three}
use Rattle.reader.proofs.Bits.{message_in_row, status_in_row, clashes}
use Rattle.reader.proofs.At.place_fault.Goals.{After-runs_meet, Else-not-is_field, Else-past_end-runs_meet}
use Rattle.reader.proofs.At.place_fault.Goals as goal

-- what is known of a field: its kind, and what the code's first three tests say
kind :
    (c : Else-not-is_field)
    → let a = c.args.self.now in
    byte_at a.file.now a.i 0 ≡ 3
kind c = kind_three _ _ c.is_field.ensures c.if-not-is_field.false

told :
    (c : After-runs_meet) {b : Bool}
    → ((c.past_end.result || c.past_end-2.result) || c.runs_meet.result) ≡ b
    → let a = c.args.self.now in
    let r = field_at a.file.now a.i in
    let g = message_numbered a.file.now a.c r.message in
    let h = frame_numbered a.file.now r.frame in
    ((past_end h.length (message_run g r) || past_end h.length (status_run r)) || meet (message_run g r) (status_run r)) ≡ b
told c e =
    rw (
      c.past_end.ensures,
      c.past_end-2.ensures,
      c.runs_meet.ensures,
      c.message_run-a.ensures,
      c.status_run-b.ensures,
      c.frame_at-h.ensures,
      c.field-r.ensures,
    )
    at e

-- and that its runs lie in its frame's row
record InRow (s : List ℕ) (F i : ℕ) : Type 0 where
  pub message : (field_at s i).start + (message_at s (F + (field_at s i).message)).width ≤ 256
  pub status : (field_at s i).place + (field_at s i).status ≤ 256

in_row :
    (c : Else-past_end-runs_meet)
    → let a = c.args.self.now in
    let r = field_at a.file.now a.i in
    let g = message_numbered a.file.now a.c r.message in
    let h = frame_numbered a.file.now r.frame in
    byte_at a.file.now a.i 0 ≡ 3
    → ((past_end h.length (message_run g r) || past_end h.length (status_run r)) || meet (message_run g r) (status_run r)) ≡ false
    → InRow a.file.now a.c.frames a.i
in_row c k none =
    let a = c.args.self.now in
    let row = c.requires.row in
    let r = field_at a.file.now a.i in
    let g = message_numbered a.file.now a.c r.message in
    let h = frame_numbered a.file.now r.frame in
    let both = or_clear (past_end h.length (message_run g r) || past_end h.length (status_run r)) (meet (message_run g r) (status_run r)) in
    let each = or_clear (past_end h.length (message_run g r)) (past_end h.length (status_run r)) in
    let clear = each.0 (both.0 none).0 in
    record { message = message_in_row _ _ _ k row clear.0; status = status_in_row _ _ _ k row clear.1 }

pub is_used-requires : goal.is_used-requires
is_used-requires c =
    let row = c.requires.row in
    let k = kind (goal.at.is_used-requires c).Else-not-is_field in
    let inside = in_row (goal.at.is_used-requires c).Else-past_end-runs_meet k (told (goal.at.is_used-requires c).After-runs_meet c.if-past_end-runs_meet.false) in
    rw (c.message_run-a.ensures, c.field-r.ensures) (row.frame k, row.width_to k, inside.message)

pub returns : goal.returns
unfolding place_fault is_field
returns c =
    let a = c.args.self.now in
    let k = kind (goal.at.returns c).Else-not-is_field in
    let clear = told (goal.at.returns c).After-runs_meet c.if-past_end-runs_meet.false in
    let inside = in_row (goal.at.returns c).Else-past_end-runs_meet k clear in
    rw (
      k,
      clear,
      ← clashes _ a.i a.c c.requires.table (c.requires.row.frame k) inside.message inside.status,
      c.is_used.ensures,
      c.is_used-2.ensures,
      c.message_run-a.ensures,
      c.status_run-b.ensures,
      c.field-r.ensures,
    )
    refl
