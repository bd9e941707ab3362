-- `node::all_gone` meets its contract: a test of the owner's fields is one of their cells. Assumes nothing.
use mathlib.Core.Path.{◌≡◌, ◌∙◌}
use mathlib.Core.Bool.{Bool, true, false}
use borrow.Author.Rules.{rules}
use borrow.Author.Tests.{tests}
use Rattle.std.proofs.lemmas.Iterator.{cases_from_all}
use Rattle.std.proofs.lemmas.Iterator.Consumers.{YieldsList-from_first}
use Rattle.store.specs.declared.Field.{Field}
use Rattle.store.specs.Node.{node_of, field_at}
use Rattle.message.specs.Fields.{is_gone}
use Rattle.own.specs.declared.Owner.{Owner}
use Rattle.own.specs.Ahead.{fields_left}
use Rattle.own.specs.Own.{cells_of, stored_of}
use Rattle.own.proofs.Lists.{all_answer}
use Rattle.own.proofs.Tables.{all_map}
use Rattle.node.proofs.all_gone.Goals as goal

gone : Field → Bool
gone x = is_gone x.stage

pub returns : goal.returns
unfolding gone
returns c =
    let n = node_of c.args.node.now in
    let o = Owner.Message c.args.message in
    all_answer gone (stored_of n o) c.all.result
    (cases_from_all c.all.new.self _ _ (λ x. gone x ≡ true) (λ x. gone x ≡ false) c.all.ensures.ran
    (YieldsList-from_first (λ x. x) fields_left (stored_of n o) c.fields.ensures) (λ x q k. search (rules, tests)) (λ x q k. search (rules, tests)))
    ∙ all_map (field_at n) gone (cells_of n.layout o)
