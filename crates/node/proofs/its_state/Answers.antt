-- `node::its_state` meets its contract: a number past the cells has none. Assumes nothing.
use mathlib.Core.Path.{sym, ◌∙◌}
use native.Mathlib.Omega.{arith}
use lib.ListN.{get_or-eq_default}
use Rattle.store.specs.Node.{state_of, no_state}
use Rattle.store.proofs.Laws.{states_length}
use Rattle.node.proofs.its_state.Goals as goal

pub returns : goal.returns
returns c =
    let b = c.args.node.now in
    c.no_state.ensures ∙ sym (get_or-eq_default (state_of b).messages no_state (omega (arith, states_length b)))
