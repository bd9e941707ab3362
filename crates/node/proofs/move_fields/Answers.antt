use mathlib.Core.Path.{◌≡◌, refl, ap, sym, ◌∙◌}
use Prim.Native.Nat.{◌≤◌}
use native.Mathlib.Omega.{arith}
use Rattle.store.specs.Node.{Node, layout_of, node_of, node_with}
use Rattle.store.proofs.Laws.{stage_stored}
use Rattle.own.specs.Own.{end_place, range_of}
use Rattle.own.proofs.Ahead.{end_few, here_ahead, inside}
use Rattle.node.proofs.Turns.{after_stored, move_begin, move_turn, move_skip, move_end}
use Rattle.node.proofs.move_fields.Goals.{At-loop-i}
use Rattle.node.proofs.move_fields.Goals as goal

same_layout : (c : At-loop-i) → layout_of c.loop-i.node ≡ layout_of c.args.node.now
same_layout c = ap (λ (k : Node). k.layout) c.loop-i.invariant.1

same_end : (c : At-loop-i) → c.loop-i.i-iterator.end ≡ end_place (layout_of c.loop-i.node) c.args.owner
same_end c = rw (same_layout c) c.loop-i.invariant.0

pub loop-i-init : goal.loop-i-init
loop-i-init c =
    let n = node_of c.args.node.now in
    let places = c.into_iter-i-iterator.ensures.into_iter_gives ∙ ap range_of c.places_of-i-items.ensures.0 in
    rw places (refl, ap (node_with n) (move_begin c.args.change c.args.owner n))

pub cell_at-d-requires : goal.cell_at-d-requires
cell_at-d-requires c =
    let (end, (some, first, on)) = c.in-Some.ensures.steps in
    omega (arith, some, first, same_end (goal.at.cell_at-d-requires c).At-loop-i, end_few (layout_of c.loop-i.node) c.args.owner)

pub field_at-x-requires : goal.field_at-x-requires
field_at-x-requires c = inside _ _ c.owns.ensures c.if-owns.true

pub put_stage-requires : goal.put_stage-requires
put_stage-requires c =
    let stored = after_stored c.args.change _ (stage_stored c.loop-i.node c.cell_at-d.result) in
    (inside _ _ c.owns.ensures c.if-owns.true, rw (c.stage_after.ensures, c.field_at-x.ensures) stored)

pub loop-i-preserved-then-owns : goal.loop-i-preserved-then-owns
loop-i-preserved-then-owns c =
    let args = c.args in
    let n = node_of c.loop-i.node in
    let (end, (some, first, on)) = c.in-Some.ensures.steps in
    let here = here_ahead n.layout args.owner some (same_end (goal.at.loop-i-preserved-then-owns c).At-loop-i) in
    let put = rw (c.stage_after.ensures, c.field_at-x.ensures) at c.put_stage.ensures in
    rw (end, on) (
      c.loop-i.invariant.0,
      move_turn args.change args.owner n c.loop-i.i-iterator.start here (rw first at c.cell_at-d.ensures.0) c.owns.ensures c.if-owns.true put ∙ c.loop-i.invariant.1,
    )

pub loop-i-preserved : goal.loop-i-preserved
loop-i-preserved c =
    let args = c.args in
    let n = node_of c.loop-i.node in
    let (end, (some, first, on)) = c.in-Some.ensures.steps in
    let here = here_ahead n.layout args.owner some (same_end (goal.at.loop-i-preserved c).At-loop-i) in
    rw (end, on) (
      c.loop-i.invariant.0,
      ap (node_with n) (move_skip args.change args.owner n c.loop-i.i-iterator.start here (rw first at c.cell_at-d.ensures.0) c.owns.ensures c.if-owns.false)
          ∙ c.loop-i.invariant.1,
    )

pub returns : goal.returns
returns c =
    let args = c.args in
    let n = node_of c.loop-i.node in
    let (end, (none, on)) = c.in-None.ensures.steps in
    let past : end_place n.layout args.owner ≤ c.loop-i.i-iterator.start = omega (arith, none, same_end (goal.at.returns c).At-loop-i) in
    ap (node_with n) (sym (move_end args.change args.owner n c.loop-i.i-iterator.start past)) ∙ c.loop-i.invariant.1
