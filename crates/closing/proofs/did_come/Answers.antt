-- `closing::did_come` meets its contract: the mark read is that of the field's frame, and past the deliveries none came. Assumes nothing.
use mathlib.Core.Path.{refl}
use native.Mathlib.Omega.{arith}
use lib.ListN.{get_or-eq_default}
use borrow.Author.Tests.{le-ltb}
use Rattle.store.specs.Node.{state_of, no_delivery}
use Rattle.store.proofs.Laws.{deliveries_length}
use Rattle.closing.specs.Closing.{came}
use Rattle.closing.proofs.did_come.Goals as goal

pub returns-then-x-lt32 : goal.returns-then-x-lt32
unfolding came
returns-then-x-lt32 c = rw c.mark_at.ensures refl

pub returns-else-x-lt32 : goal.returns-else-x-lt32
unfolding came
returns-else-x-lt32 c =
    let a = c.args in
    let b = a.node.now in
    rw (le-ltb a.x.frame 32 (omega arith), get_or-eq_default (state_of b).deliveries no_delivery {n = a.x.frame} (omega (arith, deliveries_length b))) refl
