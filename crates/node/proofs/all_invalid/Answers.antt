use mathlib.Core.Path.{◌≡◌, refl, ap, ◌∙◌}
use mathlib.Core.Bool.{true, false}
use Prim.Native.Nat.{◌≤◌}
use native.Mathlib.Omega.{arith}
use Rattle.store.specs.Node.{layout_of, state_of, laid_at}
use Rattle.own.specs.declared.Owner.{Owner}
use Rattle.own.specs.Own.{end_place, range_of}
use Rattle.own.proofs.Ahead.{end_few, here_ahead, inside}
use Rattle.node.specs.Calls.{invalid_in}
use Rattle.node.proofs.Turns.{invalid_begin, invalid_turn, invalid_skip, invalid_stop, invalid_end}
use Rattle.node.proofs.all_invalid.Goals as goal

pub loop-i-init : goal.loop-i-init
loop-i-init c =
    let b = c.args.node.now in
    let places = c.into_iter-i-iterator.ensures.into_iter_gives ∙ ap range_of c.places_of-i-items.ensures.0 in
    rw places (refl, invalid_begin (layout_of b) (Owner.Frame c.args.frame) (state_of b))

pub cell_at-d-requires : goal.cell_at-d-requires
cell_at-d-requires c =
    let (end, (some, first, on)) = c.in-Some.ensures.steps in
    omega (arith, some, first, c.loop-i.invariant.0, end_few (layout_of c.args.node.now) (Owner.Frame c.args.frame))

pub laid_at-requires : goal.laid_at-requires
laid_at-requires c = inside _ _ c.owns.ensures c.if-owns.true

pub returns-then-is_valid : goal.returns-then-is_valid
returns-then-is_valid c =
    let l = layout_of c.args.node.now in
    let o = Owner.Frame c.args.frame in
    let s = state_of c.args.node.now in
    let (end, (some, first, on)) = c.in-Some.ensures.steps in
    let here = here_ahead l o some c.loop-i.invariant.0 in
    let valid : invalid_in s (laid_at l c.cell_at-d.result) ≡ false = rw (← c.laid_at.ensures, ← c.its_state.ensures, ← c.is_valid.ensures, c.if-is_valid.true) refl in
    invalid_stop l o s c.loop-i.i-iterator.start here (rw first at c.cell_at-d.ensures.0) c.owns.ensures c.loop-i.some c.loop-i.invariant.1 c.if-owns.true valid

pub loop-i-preserved-then-owns : goal.loop-i-preserved-then-owns
loop-i-preserved-then-owns c =
    let l = layout_of c.args.node.now in
    let o = Owner.Frame c.args.frame in
    let s = state_of c.args.node.now in
    let (end, (some, first, on)) = c.in-Some.ensures.steps in
    let here = here_ahead l o some c.loop-i.invariant.0 in
    let invalid : invalid_in s (laid_at l c.cell_at-d.result) ≡ true = rw (← c.laid_at.ensures, ← c.its_state.ensures, ← c.is_valid.ensures, c.if-is_valid.false) refl in
    rw (end, on) (
      c.loop-i.invariant.0,
      invalid_turn l o s c.loop-i.i-iterator.start here (rw first at c.cell_at-d.ensures.0) c.owns.ensures c.loop-i.some c.loop-i.invariant.1 c.if-owns.true invalid,
    )

pub loop-i-preserved : goal.loop-i-preserved
loop-i-preserved c =
    let l = layout_of c.args.node.now in
    let o = Owner.Frame c.args.frame in
    let s = state_of c.args.node.now in
    let (end, (some, first, on)) = c.in-Some.ensures.steps in
    let here = here_ahead l o some c.loop-i.invariant.0 in
    rw (end, on) (
      c.loop-i.invariant.0,
      invalid_skip l o s c.loop-i.i-iterator.start here (rw first at c.cell_at-d.ensures.0) c.owns.ensures c.loop-i.some c.loop-i.invariant.1 c.if-owns.false,
    )

pub returns : goal.returns
returns c =
    let l = layout_of c.args.node.now in
    let o = Owner.Frame c.args.frame in
    let (end, (none, on)) = c.in-None.ensures.steps in
    let past : end_place l o ≤ c.loop-i.i-iterator.start = omega (arith, none, c.loop-i.invariant.0) in
    invalid_end l o (state_of c.args.node.now) c.loop-i.i-iterator.start past c.loop-i.invariant.1
