-- `filter::mask` meets its contract: the code's `&` is `bit_and`. Assumes nothing.
use mir.Syntax.{w64}
use mir.ValLaws.{to_z-of_z}
use Rattle.filter.specs.Filter.{masked}
use Rattle.filter.proofs.mask.Goals as goal

pub returns : goal.returns
unfolding masked
returns c =
    rw (c.pattern_of.ensures, to_z-of_z w64 c.args.value c.ranges.value)
