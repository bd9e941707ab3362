-- `node::all_invalid` meets its contract. The invariant: the answer is what is left of it for the cells that are ahead, where `some` says that the
-- frame has a field behind.
-- Assumes nothing.
use mathlib.Core.Path.{◌≡◌}
use Rattle.store.specs.Node.{layout_of, state_of}
use Rattle.own.specs.declared.Owner.{Owner}
use Rattle.own.specs.Own.{end_place, fields_of}
use Rattle.node.specs.Calls.{all_invalid}
use Rattle.node.proofs.Turns.{invalid_ahead}
use Rattle.node.proofs.all_invalid.Given as goal

abbrev pub invariant-loop-i : goal.invariant-loop-i
invariant-loop-i l =
    let o = Owner.Frame l.frame in
    (l.i-iterator.end ≡ end_place (layout_of l.node) o)
    × (all_invalid (state_of l.node) (fields_of (layout_of l.node) o) ≡ invalid_ahead (layout_of l.node) o (state_of l.node) l.some l.i-iterator.start)
