-- `packing::in_range` meets its contract: half of the largest unsigned value is the greatest signed one, and `!` of it, one less than its negative,
-- the least.
-- Assumes nothing.
use borrow.Author.Rules.{rules}
use mathlib.Core.Path.{◌≡◌}
use mathlib.Core.Bool.{true, false, ◌&&◌}
use Prim.Native.Nat.{ℕ, ◌-◌, ◌^◌}
use native.Mathlib.Omega.{arith}
use lib.IntN.{ℤ, pos}
use lib.Pow.{pow_pos}
use lib.Signed.{le_z}
use mir.Syntax.{w64}
use mir.Val.{SFits, to_z}
use mir.ValLaws.{to_z-of_z, to_z_pos}
use Rattle.packing.specs.Values.{is_width, least, greatest, in_range}
use Rattle.packing.proofs.Negation.{not_pos}
use Rattle.packing.proofs.Values.{width_bounds, half_power, least_signed}
use Rattle.packing.proofs.in_range.Goals.{Else-not-contains}
use Rattle.packing.proofs.in_range.Goals as goal

-- the code's two tests of a value, where `half` or `top` fits and is what it should be
signed_test : {half : ℕ} (w : ℕ) (z : ℤ) → SFits w64 (pos half) → is_width w ≡ true → half ≡ 2 ^ (w - 1) - 1
    → le_z (to_z w64 ((2 ^ 64 - 1) - half)) z && le_z z (to_z w64 half) ≡ in_range true w z
unfolding in_range greatest
signed_test {half} w z f i e = rw (not_pos half f.sfits, to_z_pos w64 half f.sfits, e, i, least_signed w)

unsigned_test : {top : ℕ} (w : ℕ) (z : ℤ) → SFits w64 (pos top) → is_width w ≡ true → top ≡ 2 ^ w - 1
    → le_z (pos 0) z && le_z z (to_z w64 top) ≡ in_range false w z
unfolding in_range least greatest
unsigned_test {top} w z f i e = rw (to_z_pos w64 top f.sfits, e, i)

is_width_lem : (c : Else-not-contains) → is_width c.args.width ≡ true
unfolding is_width
is_width_lem c = search rules

pub returns-then-not-contains : goal.returns-then-not-contains
unfolding in_range is_width
returns-then-not-contains c = search rules

pub returns-then-signed : goal.returns-then-signed
returns-then-signed c =
    let w = c.args.width in
    let i = is_width_lem (goal.at.returns-then-signed c).Else-not-contains in
    rw (to_z-of_z w64 c.args.value c.ranges.value, c.if-signed.true)
    (signed_test w c.args.value (record { sfits = omega arith }) i (omega (arith, half_power w (width_bounds w i).0, pow_pos (w - 1))))

pub returns : goal.returns
returns c =
    let w = c.args.width in
    rw (to_z-of_z w64 c.args.value c.ranges.value, c.if-signed.false)
    (unsigned_test w c.args.value (record { sfits = omega arith }) (is_width_lem (goal.at.returns c).Else-not-contains) c.largest-top.ensures)
