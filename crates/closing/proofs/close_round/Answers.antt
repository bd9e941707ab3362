-- `closing::close_round` meets its contract: the messages are closed, and then the deliveries forgotten.
-- Assumes nothing.
use mathlib.Core.Path.{ap, ◌∙◌}
use Rattle.layout.specs.declared.Counts.{Counts}
use Rattle.store.specs.Node.{Node, node_with}
use Rattle.closing.specs.Closing.{forget, close_of}
use Rattle.closing.proofs.Rounds.{forgotten}
use Rattle.closing.proofs.close_round.Goals as goal

pub returns : goal.returns
unfolding close_of
returns c =
    c.forget_deliveries.ensures
    ∙ forgotten _ (ap (λ (r : Counts). r.frames) c.counts_of-frames.ensures)
    ∙ ap (λ (i : Node). node_with i (forget i.layout i.state)) c.close_messages.ensures
