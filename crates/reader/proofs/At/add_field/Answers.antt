-- A field that fits is added by its two runs; after another record the table is what it was.
-- Assumes nothing.
use Rattle.reader.proofs.Reading.{kind_three, kind_other}
use Rattle.reader.proofs.Bits.{may_message, field_added, not_added}
use Rattle.reader.proofs.At.add_field.Goals as goal

pub add-requires : goal.add-requires
add-requires c =
    let k = kind_three _ _ c.is_field.ensures c.if-is_field.true in
    let may = may_message _ _ _ c.args.table.now k c.requires.fits c.requires.table.size in
    rw (c.message_run.ensures, c.field-r.ensures) (may.frame, may.few, may.inside)

pub returns-then-is_field : goal.returns-then-is_field
returns-then-is_field c =
    let k = kind_three _ _ c.is_field.ensures c.if-is_field.true in
    let first = rw (c.message_run.ensures, c.field-r.ensures) at c.add.ensures in
    let second = rw (c.status_run.ensures, c.field-r.ensures, first) at c.add-then-is_field.ensures in
    rw second (field_added _ _ _ k c.requires.fits c.requires.table)

pub returns-else-is_field : goal.returns-else-is_field
returns-else-is_field c = not_added _ _ _ (kind_other _ _ c.is_field.ensures c.if-is_field.false) c.requires.table
