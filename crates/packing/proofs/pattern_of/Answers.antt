-- `packing::pattern_of` meets its contract: the lowest 32 bits of a value's 64 are its pattern.
-- Assumes nothing.
use mathlib.Core.Path.{◌≡◌, refl, ap, ◌∙◌}
use Prim.Native.Nat.{◌<◌, ◌%◌, ◌^◌}
use native.Mathlib.Omega.{arith}
use lib.Bits.{and_mask}
use lib.IntN.{ℤ, pos, negsuc, nat_abs}
use mir.Syntax.{w64}
use mir.Val.{SFits, of_z}
use mir.ValLaws.{to_z_pos}
use Rattle.packing.specs.Values.{pattern_of}
use Rattle.packing.proofs.pattern_of.Goals as goal

lowest : (z : ℤ) → SFits w64 z → of_z w64 z % 2 ^ 32 ≡ pattern_of 32 z
unfolding pattern_of
lowest (pos n) f = refl
lowest (negsuc n) f = let h : n < 2 ^ 63 = f.sfits in omega arith

pub returns : goal.returns
returns c =
    let z = c.args.value in
    rw (and_mask (of_z w64 z) 32)
    (ap nat_abs (to_z_pos w64 (of_z w64 z % 2 ^ 32) (omega arith)) ∙ lowest z c.ranges.value)
