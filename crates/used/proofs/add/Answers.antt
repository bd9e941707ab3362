-- `used::add` meets its contract: the row that is lent comes back with ones in the run.
-- Assumes nothing.
use native.Mathlib.Omega.{arith}
use Rattle.used.proofs.Rows.{came_back}
use Rattle.used.proofs.add.Goals as goal

pub returns : goal.returns
returns c =
    let a = c.args in
    came_back a.table.now a.f a.a c.requires.0 c.requires.1 c.requires.2 (omega arith) c.pack.ensures
