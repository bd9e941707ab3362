-- `store::put_counts` meets its contract: the first three bytes are written, and the regions lie behind them.
-- Assumes nothing.
use mathlib.Core.Path.{ap, ◌∙◌}
use mathlib.Core.List.{[], ◌∷◌}
use native.Mathlib.Omega.{arith}
use lib.Seq.{sets-eq}
use Rattle.store.specs.Node.{node_of}
use Rattle.store.proofs.Places.{numbers_written}
use Rattle.store.proofs.put_counts.Goals as goal

pub returns : goal.returns
returns c =
    let a = c.args in
    ap node_of (sets-eq (a.frames ∷ a.messages ∷ a.fields ∷ []) a.node.now 0 (omega arith))
    ∙ numbers_written a.node.now (omega arith) a.frames a.messages a.fields
