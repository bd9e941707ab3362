-- `store::data_at` meets its contract: what is lent is where the data of the frame lie.
-- Assumes nothing.
use mathlib.Core.Path.{ap, sym, ◌∙◌}
use Prim.Native.Nat.{ℕ, ◌+◌, ◌*◌}
use native.Mathlib.Omega.{arith}
use Rattle.store.specs.Memory.{part}
use Rattle.store.specs.Node.{deliveries_at}
use Rattle.store.proofs.Parts.{part_lent}
use Rattle.store.proofs.Places.{data_read}
use Rattle.store.proofs.data_at.Goals as goal

pub returns : goal.returns
returns c =
    let node = c.args.node.now in
    let from : ℕ = deliveries_at + c.args.f * 33 + 1 in
    part_lent node from c.min.result
    ∙ ap (part node from) c.min.ensures
    ∙ sym (data_read node (omega arith) c.args.f c.requires)
