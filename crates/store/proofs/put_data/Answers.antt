-- `store::put_data` meets its contract: the data lie in the delivery's cell behind its first byte, so that their write is a write of that cell.
-- Assumes nothing.
use mathlib.Core.Path.{refl, ◌≡◌, ◌∙◌}
use mathlib.Core.List.{List}
use Prim.Native.Nat.{ℕ, ◌+◌, ◌*◌}
use native.Mathlib.Omega.{arith}
use lib.ListN.{length}
use Rattle.store.specs.Memory.{part, overwritten}
use Rattle.store.specs.Node.{deliveries_at}
use Rattle.store.proofs.Parts.{part_back, length_part, length_over, over_within}
use Rattle.store.proofs.Cells.{delivery_filled}
use Rattle.store.proofs.Places.{delivery_read, delivery_written}
use Rattle.store.proofs.put_data.Goals as goal

pub returns : goal.returns
returns c =
    let node = c.args.node.now in
    let bytes = c.args.bytes.now in
    let f = c.args.f in
    let n : ℕ = length bytes in
    let at : ℕ = deliveries_at + f * 33 in
    let cell : List ℕ = part node at 33 in
    let size : length cell ≡ 33 = length_part node at 33 (omega arith) in
    cc (
      part_back node (at + 1) n c.copy.ensures,
      over_within node at 33 1 n bytes (omega arith) (omega arith),
      delivery_written node (omega arith) f (overwritten cell 1 n bytes) c.requires.0 (length_over cell 1 n bytes (omega arith) refl ∙ size),
      delivery_filled cell bytes size,
      delivery_read node f c.requires.0,
    )
