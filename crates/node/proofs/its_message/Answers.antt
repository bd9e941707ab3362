-- `node::its_message` meets its contract: a number past the cells has none. Assumes nothing.
use mathlib.Core.Path.{sym, ◌∙◌}
use native.Mathlib.Omega.{arith}
use lib.ListN.{get_or-eq_default}
use Rattle.store.specs.Node.{layout_of, no_message}
use Rattle.store.proofs.Laws.{messages_length}
use Rattle.node.proofs.its_message.Goals as goal

pub returns : goal.returns
returns c =
    let b = c.args.node.now in
    c.no_message.ensures ∙ sym (get_or-eq_default (layout_of b).messages no_message (omega (arith, messages_length b)))
