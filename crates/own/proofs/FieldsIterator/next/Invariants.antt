-- `next` gives what it says. The invariant: the places that were passed gave none of the owner's fields. Assumes nothing.
use mathlib.Core.Path.{◌≡◌}
use Prim.Native.Nat.{◌-◌}
use Rattle.own.specs.Ahead.{fields_left}
use Rattle.own.proofs.FieldsIterator.next.Given as goal

abbrev pub invariant-loop-i : goal.invariant-loop-i
invariant-loop-i l = fields_left l.self ≡ fields_left l.initial.self

abbrev pub decreases-loop-i : goal.decreases-loop-i
decreases-loop-i l = l.self.places.end - l.self.places.start
