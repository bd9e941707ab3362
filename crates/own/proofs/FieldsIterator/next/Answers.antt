use mathlib.Core.Path.{sym, ◌∙◌}
use native.Mathlib.Omega.{arith}
use Rattle.own.proofs.Ahead.{inside, none_stored, own_stored, other_stored}
use Rattle.own.proofs.FieldsIterator.next.Goals as goal

pub field_at-requires : goal.field_at-requires
field_at-requires c = inside _ _ c.owns.ensures c.if-owns.true

pub returns-then-owns-clause-steps : goal.returns-then-owns-clause-steps
returns-then-owns-clause-steps c =
    let (end, (some, first, on)) = c.in-Some.ensures.steps in
    sym c.loop-i.invariant ∙ rw (c.field_at.ensures) (own_stored _ _ some first c.cell_at-d.ensures.0 c.owns.ensures on end c.if-owns.true)

pub returns-then-owns-clause-goes : goal.returns-then-owns-clause-goes
returns-then-owns-clause-goes c =
    let (end, (some, first, on)) = c.in-Some.ensures.steps in
    let gone = sym c.loop-i.invariant ∙ own_stored _ _ some first c.cell_at-d.ensures.0 c.owns.ensures on end c.if-owns.true in
    record { on = λ f. (tt, tt, rw gone (omega arith)); keeps = tt; rests = λ f. tt }

pub returns-clause-steps : goal.returns-clause-steps
returns-clause-steps c =
    let (end, (none, on)) = c.in_default.ensures.steps in
    let left = c.loop-i.self in (
      sym c.loop-i.invariant ∙ none_stored left.node.now left.owner left.places.start left.places.end (omega (arith, none)),
      none_stored left.node.now left.owner c.next.new.self.start c.next.new.self.end (omega (arith, none, on, end)),
    )

pub loop-i-preserved : goal.loop-i-preserved
loop-i-preserved c =
    let (end, (some, first, on)) = c.in-Some.ensures.steps in
    sym (other_stored _ _ some first c.cell_at-d.ensures.0 c.owns.ensures on end c.if-owns.false) ∙ c.loop-i.invariant
