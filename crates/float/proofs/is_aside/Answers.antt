-- `float::is_aside` meets its contract: the test is the definition's. Assumes nothing.
use mathlib.Core.Path.{refl}
use Rattle.float.specs.Patterns.{aside}
use Rattle.float.proofs.is_aside.Goals as goal

pub returns : goal.returns
unfolding aside
returns c = refl
