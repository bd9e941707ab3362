use mathlib.Core.Path.{◌≡◌, ◌∙◌}
use mathlib.Core.List.{List}
use mathlib.Core.Logic.{inl, inr}
use Prim.Native.Nat.{ℕ, ◌<◌}
use native.Mathlib.Omega.{arith}
use lib.IntN.{ℤ, pos}
use lib.ListN.{length, drop, get_or}
use mir.Syntax.{w64}
use mir.Val.{SFits, to_z, of_z}
use mir.ValLaws.{to_z-of_z}
use borrow.Author.Rules.{rules}
use borrow.Author.Rules.{part_to_end}
use Rattle.agreement.specs.Agreement.{count_of}
use Rattle.agreement.proofs.Turns.{counted_by}
use Rattle.agreement.proofs.Counted.{none_counted, more, as_many, fewer, counted_vote}
use Rattle.agreement.proofs.voted.Goals.{After-count_of-c, then-most-c+then-most-c-2, then-most-c+else-most-c-2, else-most-c}
use Rattle.agreement.proofs.voted.Goals as goal

pub loop-i-init : goal.loop-i-init
loop-i-init c = none_counted c.args.instances.now

-- a turn: its instance, read back from its bits, and its count
module _ (c : After-count_of-c) where
  abbrev l : List ℤ
  l = c.args.instances.now

  abbrev i : ℕ
  i = c.loop-i.i

  abbrev v : ℤ
  v = get_or l i (pos 0)

  read : to_z w64 (of_z w64 v) ≡ v
  read = let fits : SFits w64 v = search rules in to_z-of_z w64 v fits

  number : c.count_of-c.result ≡ count_of v (drop i l)
  number = rw (part_to_end l i, read) at c.count_of-c.ensures ∙ counted_by v (drop i l)

pub loop-i-preserved : goal.loop-i-preserved
loop-i-preserved c =
    let turn = (goal.at.loop-i-preserved c).After-count_of-c in
    let p = c.loop-i in
    let h : p.i < length (l turn) = omega arith in
    elim c.if-most-c.branch [
      | then-most-c+then-most-c-2 w ↦ rw (w.most-is, w.ahead-is) (as_many (l turn) p.i p.most p.ahead h p.invariant (omega (arith, number turn)))
      | then-most-c+else-most-c-2 w ↦
          rw (w.most-is, w.ahead-is, number turn, read turn)
          (more (l turn) p.i p.most p.ahead h p.invariant (omega (arith, number turn, w.if-most-c.true, w.if-most-c-2.false)))
      | else-most-c w ↦ rw (w.most-is, w.ahead-is) (fewer (l turn) p.i p.most p.ahead h p.invariant (omega (arith, number turn)))
    ]

pub returns-after-loop-i : goal.returns-after-loop-i
returns-after-loop-i c =
    let p = c.loop-i in
    counted_vote c.args.instances.now p.i p.most (inl (omega arith)) p.ahead p.invariant

pub returns-then-n-i : goal.returns-then-n-i
returns-then-n-i c =
    let p = c.loop-i in
    counted_vote c.args.instances.now p.i p.most (inr (omega arith)) p.ahead p.invariant
