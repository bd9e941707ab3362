use mathlib.Core.Path.{◌≡◌, refl, ap, sym, ◌∙◌}
use Prim.Native.Nat.{◌<◌, ◌≤◌}
use native.Mathlib.Omega.{arith}
use Rattle.store.specs.Node.{Node, layout_of, state_of, node_of, node_with}
use Rattle.store.proofs.Laws.{stage_stored}
use Rattle.message.specs.declared.Change.{Change}
use Rattle.own.specs.declared.Owner.{Owner}
use Rattle.own.specs.Own.{end_place, range_of}
use Rattle.node.specs.Calls.{written}
use Rattle.own.proofs.Ahead.{end_few, first_ahead, last_ahead, here_ahead, inside, own_ahead, other_ahead}
use Rattle.node.proofs.Turns.{after_stored, move_begin, move_turn, move_skip, move_end}
use Rattle.node.proofs.load_fields.Goals.{At-loop-i}
use Rattle.node.proofs.load_fields.Goals as goal

module _ (c : At-loop-i) where
  same_layout : layout_of c.loop-i.node ≡ layout_of c.args.node.now
  same_layout = ap (λ (k : Node). k.layout) c.loop-i.invariant.1

  same_states : (state_of c.loop-i.node).messages ≡ (state_of c.args.node.now).messages
  same_states = ap (λ (k : Node). k.state.messages) c.loop-i.invariant.1

pub loop-i-init : goal.loop-i-init
loop-i-init c =
    let n = node_of c.args.node.now in
    let owner = Owner.Frame c.args.frame in
    let places = c.into_iter-i-iterator.ensures.into_iter_gives ∙ ap range_of c.places_of-i-items.ensures.0 in
    rw places (refl, ap (node_with n) (move_begin Change.Load owner n), rw (first_ahead n.layout owner) refl)

pub cell_at-d-requires : goal.cell_at-d-requires
cell_at-d-requires c =
    let (end, (some, first, on)) = c.in-Some.ensures.steps in
    omega (arith, some, first, c.loop-i.invariant.0, end_few (layout_of c.args.node.now) (Owner.Frame c.args.frame))

pub laid_at-x-requires : goal.laid_at-x-requires
laid_at-x-requires c = inside _ _ c.owns.ensures c.if-owns.true

pub field_at-y-requires : goal.field_at-y-requires
field_at-y-requires c = inside _ _ c.owns.ensures c.if-owns.true

pub put_stage-requires : goal.put_stage-requires
put_stage-requires c =
    let stored = after_stored Change.Load _ (stage_stored c.loop-i.node c.cell_at-d.result) in
    (inside _ _ c.owns.ensures c.if-owns.true, rw (c.stage_after.ensures, c.field_at-y.ensures) stored)

pub loop-i-preserved-then-owns : goal.loop-i-preserved-then-owns
unfolding written
loop-i-preserved-then-owns c =
    let n = node_of c.loop-i.node in
    let l = layout_of c.args.node.now in
    let owner = Owner.Frame c.args.frame in
    let start = c.loop-i.i-iterator.start in
    let (end, (some, first, on)) = c.in-Some.ensures.steps in
    let loop = (goal.at.loop-i-preserved-then-owns c).At-loop-i in
    let here = here_ahead l owner some c.loop-i.invariant.0 in
    let here_now : start < end_place n.layout owner = rw (same_layout loop) here in
    let told = rw first at c.cell_at-d.ensures.0 in
    let told_there = rw (same_layout loop) at told in
    let own_there = rw (same_layout loop) at c.owns.ensures in
    let put = rw (c.stage_after.ensures, c.field_at-y.ensures) at c.put_stage.ensures in
    rw (end, on) (
      c.loop-i.invariant.0,
      move_turn Change.Load owner n start here_now told c.owns.ensures c.if-owns.true put ∙ c.loop-i.invariant.1,
      rw (c.write_field.ensures, c.its_message.ensures, c.its_state.ensures, c.laid_at-x.ensures, same_layout loop, same_states loop)
          (rw (own_ahead l owner start here told_there own_there c.if-owns.true) at c.loop-i.invariant.2),
    )

pub loop-i-preserved : goal.loop-i-preserved
loop-i-preserved c =
    let n = node_of c.loop-i.node in
    let l = layout_of c.args.node.now in
    let owner = Owner.Frame c.args.frame in
    let start = c.loop-i.i-iterator.start in
    let (end, (some, first, on)) = c.in-Some.ensures.steps in
    let loop = (goal.at.loop-i-preserved c).At-loop-i in
    let here = here_ahead l owner some c.loop-i.invariant.0 in
    let here_now : start < end_place n.layout owner = rw (same_layout loop) here in
    let told = rw first at c.cell_at-d.ensures.0 in
    let told_there = rw (same_layout loop) at told in
    let own_there = rw (same_layout loop) at c.owns.ensures in
    rw (end, on) (
      c.loop-i.invariant.0,
      ap (node_with n) (move_skip Change.Load owner n start here_now told c.owns.ensures c.if-owns.false) ∙ c.loop-i.invariant.1,
      rw (other_ahead l owner start here told_there own_there c.if-owns.false) at c.loop-i.invariant.2,
    )

pub returns : goal.returns
unfolding written
returns c =
    let n = node_of c.loop-i.node in
    let owner = Owner.Frame c.args.frame in
    let (end, (none, on)) = c.in-None.ensures.steps in
    let past : end_place (layout_of c.args.node.now) owner ≤ c.loop-i.i-iterator.start = omega (arith, none, c.loop-i.invariant.0) in
    let past_now : end_place n.layout owner ≤ c.loop-i.i-iterator.start = rw (same_layout (goal.at.returns c).At-loop-i) past in (
      ap (node_with n) (sym (move_end Change.Load owner n c.loop-i.i-iterator.start past_now)) ∙ c.loop-i.invariant.1,
      rw (last_ahead (layout_of c.args.node.now) owner c.loop-i.i-iterator.start past) at c.loop-i.invariant.2,
    )
