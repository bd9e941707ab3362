-- `store::forget_deliveries` meets its contract: the part that is lent comes back as zeros.
-- Assumes nothing.
use mathlib.Core.Path.{ap, ◌∙◌}
use mathlib.Core.List.{List}
use Prim.Native.Nat.{ℕ, ◌*◌}
use native.Mathlib.Omega.{arith}
use lib.ListN.{length, replicate}
use Rattle.store.specs.Node.{deliveries_at, node_of}
use Rattle.store.proofs.Parts.{length_part, part_back, part_lent}
use Rattle.store.proofs.Forgotten.{forgotten}
use Rattle.store.proofs.forget_deliveries.Goals as goal

pub returns : goal.returns
returns c =
    let b = c.args.node.now in
    let n = c.args.n in
    let zeros = c.fill.ensures ∙ ap (λ (l : List ℕ). replicate (length l) 0) (part_lent b deliveries_at (n * 33)) ∙ ap (λ (k : ℕ). replicate k 0) (length_part b deliveries_at (n * 33) (omega arith)) in
    ap node_of (part_back b deliveries_at (n * 33) zeros) ∙ forgotten b (omega arith) n c.requires
