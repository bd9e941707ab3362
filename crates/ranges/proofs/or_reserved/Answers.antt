use mathlib.Core.Path.{◌≡◌, refl, sym, ◌∙◌}
use native.Mathlib.Omega.{arith}
use borrow.Author.Rules.{rules}
use Rattle.std.proofs.lemmas.Result.{err_from_is_err_and}
use Rattle.ranges.specs.Ranges.{fault_at, reserved_from}
use Rattle.ranges.proofs.Lowest.{no_fault_right, none_below, right_more, fault_lowest, none_wrong}
use Rattle.ranges.proofs.Walk.{before_right, from_on}
use Rattle.ranges.proofs.or_reserved.Goals.{After-wrong_if}
use Rattle.ranges.proofs.or_reserved.Goals as goal

pub loop-k-init : goal.loop-k-init
loop-k-init c = (search rules, search rules, (none_below _ _).1 (before_right _ _ _))

-- byte k is not named, and what the code reads is that byte
here :
    (c : After-wrong_if)
    → let a = c.args in
    let k = c.loop-k.k in
    c.wrong_if.result ≡ fault_at k (reserved_from a.file.now a.i a.from k)
here c = rw (from_on _ _ _ _ c.loop-k.invariant.0, c.wrong_if.ensures, c.byte.ensures) refl

pub returns-in_err-wrong_if : goal.returns-in_err-wrong_if
returns-in_err-wrong_if c =
    let p = err_from_is_err_and c.from_residual-in_err-wrong_if.result c.from_residual-in_err-wrong_if.ensures.1 in
    let first = fault_lowest _ _ c.loop-k.invariant.2 (sym (here (goal.at.returns-in_err-wrong_if c).After-wrong_if) ∙ c.in_err-wrong_if.was) c.loop-k-test.true in
    rw (p.1, p.2, c.in_ok-named.was) first

pub loop-k-preserved : goal.loop-k-preserved
loop-k-preserved c =
    let right = no_fault_right _ _ (sym (here (goal.at.loop-k-preserved c).After-wrong_if) ∙ c.in_ok-wrong_if.was) in
    (search rules, search rules, right_more _ _ c.loop-k.invariant.2 right)

pub returns : goal.returns
returns c =
    let e : c.loop-k.k ≡ 24 = omega arith in
    rw c.in_ok-named.was (none_wrong _ (rw (← e) c.loop-k.invariant.2))
