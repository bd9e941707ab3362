-- `filter::rank_of` meets its contract: the value is read back from its bits, and so is its rank. Assumes nothing.
use mathlib.Core.Path.{ap, ◌∙◌}
use mir.Syntax.{w64}
use mir.ValLaws.{to_z-of_z}
use Rattle.packing.specs.Values.{pattern_of}
use Rattle.float.specs.Patterns.{rank_of}
use Rattle.filter.proofs.rank_of.Goals as goal

pub returns : goal.returns
returns c =
    to_z-of_z w64 c.rank_of.result (record { sfits = c.rank_of.type_inv })
    ∙ c.rank_of.ensures
    ∙ ap rank_of (c.pattern_of.ensures ∙ ap (pattern_of 32) (to_z-of_z w64 c.args.value c.ranges.value))
