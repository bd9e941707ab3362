-- `closing::gather` meets its contract. The invariant: the instances are those so far and then those of the fields ahead, and no frame came just if none did
-- so far and none of those ahead. A message has at most eight fields. Assumes nothing.
use mathlib.Core.Path.{◌≡◌}
use mathlib.Core.List.{◌++◌}
use Prim.Native.Nat.{◌+◌, ◌≤◌}
use lib.ListN.{length}
use Rattle.store.specs.Node.{layout_of, node_of}
use Rattle.own.specs.declared.Owner.{Owner}
use Rattle.own.specs.Own.{end_place}
use Rattle.closing.specs.Closing.{instances, none_came}
use Rattle.own.proofs.Ahead.{ahead, fields_ahead}
use Rattle.closing.proofs.Rounds.{counted, none_so_far}
use Rattle.closing.proofs.gather.Given as goal

abbrev pub invariant-loop-i : goal.invariant-loop-i
invariant-loop-i l =
    let o = Owner.Message l.message in
    let start = l.i-iterator.start in
    (l.i-iterator.end ≡ end_place (layout_of l.node) o)
    × (length l.values.items + length (ahead (layout_of l.node) o start) ≤ 8)
    × (instances (node_of l.node) l.message ≡ l.values.items ++ counted (node_of l.node) l.message (fields_ahead (layout_of l.node) o start))
    × (none_came (node_of l.node) l.message ≡ none_so_far (node_of l.node) l.message l.none (fields_ahead (layout_of l.node) o start))
