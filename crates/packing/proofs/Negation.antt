-- The code's `!x`, which of an i64 is -x - 1.
-- Assumes nothing.
use mathlib.Core.Path.{◌≡◌, ap, ◌∙◌}
use Prim.Native.Nat.{ℕ, suc, ◌-◌, ◌<◌, ◌^◌}
use native.Mathlib.Omega.{arith}
use lib.IntN.{negsuc}
use mir.Syntax.{w64}
use mir.Val.{to_z}
use mir.ValLaws.{to_z-neg}

-- of a natural number
pub not_pos : (d : ℕ) → d < 2 ^ 63 → to_z w64 ((2 ^ 64 - 1) - d) ≡ negsuc d
not_pos d h = let e : (2 ^ 64 - 1) - d ≡ 2 ^ 64 - suc d = omega arith in ap (to_z w64) e ∙ to_z-neg w64 d h
