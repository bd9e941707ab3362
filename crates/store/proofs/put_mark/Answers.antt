-- `store::put_mark` meets its contract: the byte is the first of the delivery's cell, so that its write is a write of that cell.
-- Assumes nothing.
use mathlib.Core.Path.{◌≡◌, ◌∙◌}
use mathlib.Core.List.{List}
use Prim.Native.Nat.{ℕ, ◌+◌, ◌*◌}
use native.Mathlib.Omega.{arith}
use lib.ListN.{length, set, length-set}
use Rattle.store.specs.Memory.{part}
use Rattle.store.specs.Node.{deliveries_at}
use Rattle.store.proofs.Parts.{first_within, length_part}
use Rattle.store.proofs.Cells.{delivery_marked}
use Rattle.store.proofs.Places.{delivery_read, delivery_written}
use Rattle.store.proofs.put_mark.Goals as goal

pub returns : goal.returns
returns c =
    let node = c.args.node.now in
    let f = c.args.f in
    let k = c.args.k in
    let at : ℕ = deliveries_at + f * 33 in
    let cell : List ℕ = part node at 33 in
    let size : length cell ≡ 33 = length_part node at 33 (omega arith) in
    cc (
      first_within node at 33 k (omega arith) (omega arith),
      delivery_written node (omega arith) f (set cell 0 k) c.requires (length-set cell 0 k ∙ size),
      delivery_marked cell k size,
      delivery_read node f c.requires,
    )
