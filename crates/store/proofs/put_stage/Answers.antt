-- `store::put_stage` meets its contract: a stage is one byte, which is written where it lies, and the stage is read back from it.
-- Assumes nothing.
use native.Mathlib.Omega.{arith}
use Rattle.store.specs.Node.{code_of}
use Rattle.store.proofs.Places.{stage_written}
use Rattle.store.proofs.put_stage.Goals as goal

pub returns : goal.returns
returns c =
    let a = c.args in
    cc (c.into.ensures, stage_written a.node.now (omega arith) a.d (code_of a.s) c.requires.0, c.requires.1)
