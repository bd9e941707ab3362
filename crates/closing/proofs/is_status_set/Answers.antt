-- `closing::is_status_set` meets its contract, by whether the field has a status bit: if so it is read where it lies in the frame's data.
-- Assumes nothing.
use mathlib.Core.Path.{refl}
use borrow.Author.Tests.{eq-eqb, ne_eqb}
use Rattle.message.specs.Fields.{status_places}
use Rattle.closing.specs.Closing.{status_set}
use Rattle.closing.proofs.is_status_set.Goals as goal

pub returns-then-x-ne1 : goal.returns-then-x-ne1
unfolding status_set
returns-then-x-ne1 c = rw (ne_eqb _ _ c.if-x-ne1.true) refl

pub returns : goal.returns
unfolding status_set status_places
returns c = rw (eq-eqb _ _ c.if-x-ne1.false, ← c.data_at.ensures, ← c.frame_at-h.ensures, ← c.is_big.ensures, ← c.unpack.ensures) refl
