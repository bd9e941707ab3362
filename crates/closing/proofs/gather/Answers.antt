use mathlib.Core.Path.{refl, ap, ap₂, sym, ◌∙◌}
use mathlib.Core.List.{List, [], ◌∷◌, ◌++◌, map, append_assoc}
use Prim.Native.Nat.{◌+◌, ◌≤◌}
use native.Mathlib.Omega.{arith}
use lib.IntN.{ℤ}
use lib.ListN.{length-append}
use mir.Syntax.{w64}
use mir.ValLaws.{to_z-of_z}
use Rattle.store.specs.Node.{layout_of, node_of, laid_at}
use Rattle.own.specs.declared.Owner.{Owner}
use Rattle.own.specs.Own.{end_place, range_of}
use Rattle.own.proofs.Ahead.{first_ahead, last_ahead, here_ahead, own_ahead, other_ahead, fields_ahead, cells_few}
use Rattle.closing.specs.Closing.{value_in}
use Rattle.closing.proofs.Rounds.{came_known, gather_begin, gather_end, counts_turn, unset_turn, absent_turn, none_turn, none_absent}
use Rattle.closing.proofs.gather.Goals as goal

pub loop-i-init : goal.loop-i-init
loop-i-init c =
    let l = layout_of c.args.node.now in
    let o = Owner.Message c.args.message in
    let places = c.into_iter-i-iterator.ensures.into_iter_gives ∙ ap range_of c.places_of-i-items.ensures.0 in
    let (counting, none) = gather_begin (node_of c.args.node.now) c.args.message in
    rw (places, c.requires.1, first_ahead l o) (refl, omega (arith, cells_few l c.args.message), counting, none)

pub is_status_set-requires : goal.is_status_set-requires
is_status_set-requires c = came_known _ _ (sym c.did_come.ensures ∙ c.if-did_come.true)

pub value_in-requires : goal.value_in-requires
value_in-requires c = came_known _ _ (sym c.did_come.ensures ∙ c.if-did_come.true)

pub push-requires : goal.push-requires
push-requires c =
    let node = node_of c.args.node.now in
    let l = layout_of c.args.node.now in
    let m = c.args.message in
    let o = Owner.Message m in
    let start = c.loop-i.i-iterator.start in
    let (end, (some, first, on)) = c.in-Some.ensures.steps in
    let here = here_ahead l o some c.loop-i.invariant.0 in
    let told = rw first at c.cell_at-d.ensures.0 in
    let few = rw (own_ahead l o start here told c.owns.ensures c.if-owns.true) at c.loop-i.invariant.1 in
    omega (arith, few)

pub loop-i-preserved-then-is_status_set : goal.loop-i-preserved-then-is_status_set
loop-i-preserved-then-is_status_set c =
    let node = node_of c.args.node.now in
    let l = layout_of c.args.node.now in
    let m = c.args.message in
    let o = Owner.Message m in
    let start = c.loop-i.i-iterator.start in
    let (end, (some, first, on)) = c.in-Some.ensures.steps in
    let here = here_ahead l o some c.loop-i.invariant.0 in
    let told = rw first at c.cell_at-d.ensures.0 in
    let mine = own_ahead l o start here told c.owns.ensures c.if-owns.true in
    let rest = fields_ahead l o (start + 1) in
    let x = laid_at l c.cell_at-d.result in
    let few = rw mine at c.loop-i.invariant.1 in
    let so_far = rw mine at c.loop-i.invariant.2 in
    let none = rw mine at c.loop-i.invariant.3 in
    let came = rw c.laid_at-x.ensures at (sym c.did_come.ensures ∙ c.if-did_come.true) in
    let set = rw c.laid_at-x.ensures at (sym c.is_status_set.ensures ∙ c.if-is_status_set.true) in
    let value = c.value_in.ensures ∙ ap₂ (value_in node) c.message_at-g.ensures c.laid_at-x.ensures in
    let back = to_z-of_z w64 c.value_in.result (record { sfits = c.value_in.type_inv }) in
    let taken = c.loop-i.values.items in
    rw (end, on, c.push.ensures.items, back) (
      c.loop-i.invariant.0,
      rw length-append (omega (arith, few)),
      so_far ∙ ap (λ (r : List ℤ). taken ++ r) (counts_turn node m x rest came set) ∙ rw (← value) (sym (append_assoc taken (c.value_in.result ∷ []) _)),
      none ∙ none_turn node m x rest c.loop-i.none came,
    )

pub loop-i-preserved-else-is_status_set : goal.loop-i-preserved-else-is_status_set
loop-i-preserved-else-is_status_set c =
    let node = node_of c.args.node.now in
    let l = layout_of c.args.node.now in
    let m = c.args.message in
    let o = Owner.Message m in
    let start = c.loop-i.i-iterator.start in
    let (end, (some, first, on)) = c.in-Some.ensures.steps in
    let here = here_ahead l o some c.loop-i.invariant.0 in
    let told = rw first at c.cell_at-d.ensures.0 in
    let mine = own_ahead l o start here told c.owns.ensures c.if-owns.true in
    let rest = fields_ahead l o (start + 1) in
    let x = laid_at l c.cell_at-d.result in
    let few = rw mine at c.loop-i.invariant.1 in
    let so_far = rw mine at c.loop-i.invariant.2 in
    let none = rw mine at c.loop-i.invariant.3 in
    let came = rw c.laid_at-x.ensures at (sym c.did_come.ensures ∙ c.if-did_come.true) in
    let unset = rw c.laid_at-x.ensures at (sym c.is_status_set.ensures ∙ c.if-is_status_set.false) in
    rw (end, on) (
      c.loop-i.invariant.0,
      omega (arith, few),
      so_far ∙ ap (λ (r : List ℤ). c.loop-i.values.items ++ r) (unset_turn node m x rest came unset),
      none ∙ none_turn node m x rest c.loop-i.none came,
    )

pub loop-i-preserved-else-did_come : goal.loop-i-preserved-else-did_come
loop-i-preserved-else-did_come c =
    let node = node_of c.args.node.now in
    let l = layout_of c.args.node.now in
    let m = c.args.message in
    let o = Owner.Message m in
    let start = c.loop-i.i-iterator.start in
    let (end, (some, first, on)) = c.in-Some.ensures.steps in
    let here = here_ahead l o some c.loop-i.invariant.0 in
    let told = rw first at c.cell_at-d.ensures.0 in
    let mine = own_ahead l o start here told c.owns.ensures c.if-owns.true in
    let rest = fields_ahead l o (start + 1) in
    let x = laid_at l c.cell_at-d.result in
    let few = rw mine at c.loop-i.invariant.1 in
    let so_far = rw mine at c.loop-i.invariant.2 in
    let none = rw mine at c.loop-i.invariant.3 in
    let away = rw c.laid_at-x.ensures at (sym c.did_come.ensures ∙ c.if-did_come.false) in
    rw (end, on) (
      c.loop-i.invariant.0,
      omega (arith, few),
      so_far ∙ ap (λ (r : List ℤ). c.loop-i.values.items ++ r) (absent_turn node m x rest away),
      none ∙ none_absent node m x rest c.loop-i.none away,
    )

pub loop-i-preserved : goal.loop-i-preserved
loop-i-preserved c =
    let node = node_of c.args.node.now in
    let l = layout_of c.args.node.now in
    let m = c.args.message in
    let o = Owner.Message m in
    let start = c.loop-i.i-iterator.start in
    let (end, (some, first, on)) = c.in-Some.ensures.steps in
    let here = here_ahead l o some c.loop-i.invariant.0 in
    let told = rw first at c.cell_at-d.ensures.0 in
    let others = other_ahead l o start here told c.owns.ensures c.if-owns.false in
    rw (end, on) (c.loop-i.invariant.0, rw others at c.loop-i.invariant.1, rw others at c.loop-i.invariant.2, rw others at c.loop-i.invariant.3)

pub returns : goal.returns
returns c =
    let l = layout_of c.args.node.now in
    let o = Owner.Message c.args.message in
    let (end, (none, on)) = c.in-None.ensures.steps in
    let past : end_place l o ≤ c.loop-i.i-iterator.start = omega (arith, none, c.loop-i.invariant.0) in
    gather_end (node_of c.args.node.now) c.args.message (ap (map (laid_at l)) (last_ahead l o c.loop-i.i-iterator.start past)) c.loop-i.invariant.2
    c.loop-i.invariant.3
