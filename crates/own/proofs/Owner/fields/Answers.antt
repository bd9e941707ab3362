-- `Owner::fields` meets its contract: from its first place on, all the owner's fields are left. Assumes nothing.
use mathlib.Core.Path.{refl}
use Rattle.own.specs.Own.{cells_of}
use Rattle.own.proofs.Owner.fields.Goals as goal

pub returns : goal.returns
unfolding cells_of
returns c = rw (c.into_iter.ensures.into_iter_gives, c.places_of.ensures.0) refl
