-- `mondgurt::mondgurt_send` meets its contract: the value is read back from its bits. Assumes nothing.
use mathlib.Core.Path.{refl}
use mir.Syntax.{w64}
use mir.ValLaws.{to_z-of_z}
use Rattle.mondgurt.proofs.mondgurt_send.Goals as goal

pub returns : goal.returns
returns c =
    (rw (to_z-of_z w64 c.args.value c.ranges.value) at c.send.ensures, refl)
