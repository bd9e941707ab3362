-- `filter::bound_of` meets its contract: what `value_of` answers is read back from its bits. Assumes nothing.
use mathlib.Core.Path.{◌∙◌}
use mir.Syntax.{w64}
use mir.ValLaws.{to_z-of_z}
use Rattle.filter.specs.Filter.{bound}
use Rattle.filter.proofs.bound_of.Goals as goal

pub returns : goal.returns
unfolding bound
returns c = to_z-of_z w64 c.value_of.result (record { sfits = c.value_of.type_inv }) ∙ c.value_of.ensures
