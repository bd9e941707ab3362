-- `Stretch::read_eight` meets its contract: the kit reads the bytes as eight of `window_of`, in either order.
-- Assumes nothing.
use mathlib.Core.Path.{◌≡◌, ◌∙◌}
use Prim.Native.Nat.{◌-◌}
use native.Mathlib.Omega.{arith}
use lib.ListN.{drop, take}
use Rattle.packing.proofs.Windows.{little_eight, big_eight}
use Rattle.packing.proofs.Stretch.read_eight.Goals.{After-unwrap-bytes}
use Rattle.packing.proofs.Stretch.read_eight.Goals as goal

lent : (c : After-unwrap-bytes) → c.unwrap-bytes.result.now ≡ take 8 (drop c.args.self.first c.args.frame.now)
lent c =
    let e : c.args.self.past - c.args.self.first ≡ 8 = omega arith in
    rw e at (rw c.unwrap-bytes.ensures at c.as_array.ensures.cases).same

pub returns-then-self : goal.returns-then-self
returns-then-self c =
    let s = c.args.self in
    rw (c.if-self.true, c.requires.0)
    (c.from_be_bytes.ensures ∙ big_eight s.first c.args.frame.now _ (lent (goal.at.returns-then-self c).After-unwrap-bytes))

pub returns-else-self : goal.returns-else-self
returns-else-self c =
    let s = c.args.self in
    rw (c.if-self.false, c.requires.0)
    (c.from_le_bytes.ensures ∙ little_eight s.first c.args.frame.now _ (lent (goal.at.returns-else-self c).After-unwrap-bytes))
