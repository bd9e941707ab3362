-- `node::read_flag` meets its contract: refused, it leaves the place; done, the place holds the flag. Assumes nothing.
use mathlib.Core.Path.{refl, ap, sym, ◌∙◌}
use mathlib.Core.Bool.{Bool, cond}
use Rattle.whole.proofs.Integers.{as_number}
use Rattle.store.specs.Node.{layout_of}
use Rattle.node.specs.Calls.{flag_answer, flag_of, flag_place}
use Rattle.node.specs.declared.Way.{Way}
use Rattle.node.proofs.Answers.{message_passed, not_sent}
use Rattle.node.proofs.read_flag.Goals as goal

pub returns-in-Err : goal.returns-in-Err
unfolding flag_place
returns-in-Err c =
    let a = c.args in
    let refused = not_sent (layout_of a.node.now) a.message c.message_of.ensures c.in-Err.is in
    (c.from-in-Err.ensures ∙ sym refused, rw refused refl)

pub returns-in-Ok : goal.returns-in-Ok
unfolding flag_place flag_of flag_answer
returns-in-Ok c =
    let a = c.args in
    let (room, known, sent, m, g) = message_passed (layout_of a.node.now) a.message Way.Sent c.message_of.ensures c.in-Ok.is in
    (rw (known, sent) refl, rw (known, sent) (c.from.ensures ∙ as_number c.all_gone.result ∙ ap (λ (t : Bool). cond t 1 0) (rw m at c.all_gone.ensures)))
