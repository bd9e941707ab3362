-- `packing::value_of` meets its contract: a pattern in the lower half is its own value, and from one in the upper half the code takes 2^width.
-- All numbers stay near zero, so that each is read back from its bits.
-- Assumes nothing.
use mathlib.Core.Path.{◌≡◌, ap, sym, ◌∙◌}
use Prim.Native.Nat.{ℕ, ◌+◌, ◌*◌, ◌^◌, ◌≤◌, ◌<◌}
use native.Mathlib.Omega.{arith}
use lib.IntN.{pos, ◌+ℤ◌, ◌-ℤ◌, nat_abs}
use lib.Pow.{pow_mono, pow_pos}
use borrow.Author.Tests.{le-ltb, not-true, not-false}
use mir.Syntax.{w64}
use mir.Val.{to_z, of_z}
use mir.ValLaws.{to_z_pos}
use Rattle.whole.proofs.Integers.{back, small_fits}
use Rattle.packing.specs.Values.{value_of}
use Rattle.packing.proofs.Values.{value_low, value_near}
use Rattle.packing.proofs.value_of.Goals.{Else-pattern-top, Start}
use Rattle.packing.proofs.value_of.Goals as goal

-- the pattern's bits read as the pattern
read : (p : ℕ) → p < 2 ^ 32 → to_z w64 p ≡ pos p
read p h = to_z_pos w64 p (omega arith)

pub returns-then-not-signed : goal.returns-then-not-signed
unfolding value_of
returns-then-not-signed c = rw (not-true c.args.signed c.if-not-signed.true-raw) (read c.args.pattern (omega arith))

pub returns-then-width-gt32 : goal.returns-then-width-gt32
returns-then-width-gt32 c =
    let m = pow_mono {i = 33} {j = c.args.width} (omega arith) in
    rw (not-false c.args.signed c.if-not-signed.false-raw)
    (read c.args.pattern (omega arith) ∙ sym (value_low c.args.width c.args.pattern (omega arith)))

pub returns-then-pattern-top : goal.returns-then-pattern-top
returns-then-pattern-top c =
    rw (not-false c.args.signed c.if-not-signed.false-raw)
    (read c.args.pattern (omega arith) ∙ sym (value_low c.args.width c.args.pattern (omega (arith, pow_pos c.args.width))))

-- the number that is taken off, one more than the largest of the width
power : (c : Else-pattern-top) → to_z w64 c.largest-top.result +ℤ pos 1 ≡ pos (2 ^ c.args.width)
power c =
    let w = c.args.width in
    let m = pow_mono {i = w} {j = 32} (omega arith) in
    let e : c.largest-top.result + 1 ≡ 2 ^ w = omega (arith, pow_pos w) in
    rw (to_z_pos w64 c.largest-top.result (omega arith)) (ap pos e)

power_near : (c : Else-pattern-top) → 2 ^ c.args.width ≤ 2 ^ 40
power_near c = pow_mono {j = 40} (omega arith)

pub overflow_add-result : goal.overflow_add-result
overflow_add-result c = rw (power c) (small_fits _ (power_near c))

difference : (c : Else-pattern-top) →
    let a = c.args in
    to_z w64 a.pattern -ℤ to_z w64 (of_z w64 (to_z w64 c.largest-top.result +ℤ pos 1)) ≡ value_of a.signed a.width a.pattern
unfolding value_of
difference c =
    let a = c.args in
    rw (
      power c,
      back (pos (2 ^ a.width)) (power_near c),
      read a.pattern (omega arith),
      not-false a.signed c.if-not-signed.false-raw,
      le-ltb (a.pattern * 2) (2 ^ a.width) (omega arith),
    )

-- the value that is returned
near : (c : Start) → nat_abs (value_of c.args.signed c.args.width c.args.pattern) ≤ 2 ^ 40
near c = omega (arith, value_near c.args.signed c.args.width c.args.pattern (omega arith))

pub overflow_sub-result : goal.overflow_sub-result
overflow_sub-result c = rw (difference c) (small_fits _ (near (goal.at.overflow_sub-result c).Start))

pub returns : goal.returns
returns c = rw (difference c) (back _ (near (goal.at.returns c).Start))
