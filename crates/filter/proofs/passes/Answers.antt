-- `filter::passes` meets its contract: at each number the code's test is the rule of that number in the table, once the values that were passed on as
-- their bits are read back. Assumes nothing.
use mathlib.Core.Path.{◌≡◌, ap, sym, ◌∙◌}
use mathlib.Core.Bool.{false, not}
use Prim.Native.Nat.{ℕ, ◌≤◌}
use lib.IntN.{ℤ}
use lib.ListN.{get_or-eq_default}
use mir.Syntax.{w64}
use mir.Val.{SFits, to_z, of_z}
use mir.ValLaws.{to_z-of_z}
use Rattle.whole.proofs.Integers.{bits_eq}
use Rattle.std.specs.Prelude.{Result, Ok, Err}
use Rattle.filter.specs.Filter.{bound, rules, passes}
use Rattle.filter.specs.Numbers.{Numbers, number_of}
use Rattle.filter.specs.declared.Filter.{Filter}
use Rattle.filter.specs.declared.UnknownFilter.{UnknownFilter}
use Rattle.filter.proofs.passes.Goals.{Start}
use Rattle.filter.proofs.passes.Goals as goal

-- ---- what was passed on as its bits is read back
new : (s : Start) → to_z w64 (of_z w64 s.args.new) ≡ s.args.new
new s = to_z-of_z w64 s.args.new s.ranges.new

old : (s : Start) → to_z w64 (of_z w64 s.args.old) ≡ s.args.old
old s = to_z-of_z w64 s.args.old s.ranges.old

bounded : (sign x : ℕ) {r : ℤ} → SFits w64 r → r ≡ bound sign x → to_z w64 (of_z w64 r) ≡ bound sign x
bounded sign x {r} f e = to_z-of_z w64 r f ∙ e

-- the number is that of the filter that it was read as
of : {n : ℕ} {r : Result Filter UnknownFilter} {g f : Filter} → Numbers n r → r ≡ Ok g → g ≡ f → n ≡ number_of f
of read e is = sym (rw is at (rw e at read))

-- a number that no filter has lies past the end of the table
none : {n : ℕ} {r : Result Filter UnknownFilter} {u : UnknownFilter} → Numbers n r → r ≡ Err u → 14 ≤ n
none read e = rw e at read

pub returns-in_default : goal.returns-in_default
unfolding passes rules
returns-in_default c =
    let a = c.args in
    sym (get_or-eq_default (rules a.sign a.x1 a.x2 a.new a.old) false (none c.try_from.ensures c.in_default.is))

-- ---- rule by rule
pub returns-in-True : goal.returns-in-True
unfolding passes rules
returns-in-True c = rw (of c.try_from.ensures c.in-Ok.is c.in-True.is)

pub returns-in-False : goal.returns-in-False
unfolding passes rules
returns-in-False c = rw (of c.try_from.ensures c.in-Ok.is c.in-False.is)

pub returns-in-MaskedEqual : goal.returns-in-MaskedEqual
unfolding passes rules
returns-in-MaskedEqual c = rw (of c.try_from.ensures c.in-Ok.is c.in-MaskedEqual.is, c.mask.ensures, new (goal.at.returns-in-MaskedEqual c).Start)

pub returns-in-MaskedNotEqual : goal.returns-in-MaskedNotEqual
unfolding passes rules
returns-in-MaskedNotEqual c = rw (of c.try_from.ensures c.in-Ok.is c.in-MaskedNotEqual.is, c.mask-in-MaskedNotEqual.ensures, new (goal.at.returns-in-MaskedNotEqual c).Start)

pub returns-in-NotChanged : goal.returns-in-NotChanged
unfolding passes rules
returns-in-NotChanged c = rw (of c.try_from.ensures c.in-Ok.is c.in-NotChanged.is) (bits_eq _ _ c.ranges.new c.ranges.old)

pub returns-in-Changed : goal.returns-in-Changed
unfolding passes rules
returns-in-Changed c = rw (of c.try_from.ensures c.in-Ok.is c.in-Changed.is) (ap not (bits_eq _ _ c.ranges.new c.ranges.old))

pub returns-in-MaskedNotChanged : goal.returns-in-MaskedNotChanged
unfolding passes rules
returns-in-MaskedNotChanged c =
    rw (of c.try_from.ensures c.in-Ok.is c.in-MaskedNotChanged.is, c.mask-in-MaskedNotChanged.ensures, c.mask-in-MaskedNotChanged-2.ensures, new (goal.at.returns-in-MaskedNotChanged c).Start, old (goal.at.returns-in-MaskedNotChanged c).Start)

pub returns-in-MaskedChanged : goal.returns-in-MaskedChanged
unfolding passes rules
returns-in-MaskedChanged c =
    rw (of c.try_from.ensures c.in-Ok.is c.in-MaskedChanged.is, c.mask-in-MaskedChanged.ensures, c.mask-in-MaskedChanged-2.ensures, new (goal.at.returns-in-MaskedChanged c).Start, old (goal.at.returns-in-MaskedChanged c).Start)

pub returns-in-Within : goal.returns-in-Within
unfolding passes rules
returns-in-Within c =
    let low = c.bound_of in
    let high = c.bound_of-in-Within in
    rw (
      of c.try_from.ensures c.in-Ok.is c.in-Within.is,
      c.is_at_most.ensures,
      c.is_at_most-in-Within.ensures,
      new (goal.at.returns-in-Within c).Start,
      bounded _ _ (record { sfits = low.type_inv }) low.ensures,
      bounded _ _ (record { sfits = high.type_inv }) high.ensures,
    )

pub returns-in-Outside : goal.returns-in-Outside
unfolding passes rules
returns-in-Outside c =
    let low = c.bound_of-in-Outside in
    let high = c.bound_of-in-Outside-2 in
    rw (
      of c.try_from.ensures c.in-Ok.is c.in-Outside.is,
      c.is_below.ensures,
      c.is_below-in-Outside.ensures,
      new (goal.at.returns-in-Outside c).Start,
      bounded _ _ (record { sfits = low.type_inv }) low.ensures,
      bounded _ _ (record { sfits = high.type_inv }) high.ensures,
    )

pub returns-in-Increased : goal.returns-in-Increased
unfolding passes rules
returns-in-Increased c = rw (of c.try_from.ensures c.in-Ok.is c.in-Increased.is, c.is_below-in-Increased.ensures, new (goal.at.returns-in-Increased c).Start, old (goal.at.returns-in-Increased c).Start)

pub returns-in-NotIncreased : goal.returns-in-NotIncreased
unfolding passes rules
returns-in-NotIncreased c = rw (of c.try_from.ensures c.in-Ok.is c.in-NotIncreased.is, c.is_at_most-in-NotIncreased.ensures, new (goal.at.returns-in-NotIncreased c).Start, old (goal.at.returns-in-NotIncreased c).Start)

pub returns-in-Decreased : goal.returns-in-Decreased
unfolding passes rules
returns-in-Decreased c = rw (of c.try_from.ensures c.in-Ok.is c.in-Decreased.is, c.is_below-in-Decreased.ensures, new (goal.at.returns-in-Decreased c).Start, old (goal.at.returns-in-Decreased c).Start)

pub returns-in-NotDecreased : goal.returns-in-NotDecreased
unfolding passes rules
returns-in-NotDecreased c = rw (of c.try_from.ensures c.in-Ok.is c.in-NotDecreased.is, c.is_at_most-in-NotDecreased.ensures, new (goal.at.returns-in-NotDecreased c).Start, old (goal.at.returns-in-NotDecreased c).Start)
