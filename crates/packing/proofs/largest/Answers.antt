-- `packing::largest` meets its contract: a shift of 1 by up to 32 loses no bit of 64, so that one less is all ones and fits 32 bits.
-- Assumes nothing.
use mathlib.Core.Path.{◌≡◌}
use Prim.Native.Nat.{ℕ, ◌-◌, ◌*◌, ◌%◌, ◌^◌, ◌<◌, ◌≤◌}
use native.Mathlib.Omega.{arith}
use lib.Pow.{pow_mono, pow_pos}
use Rattle.packing.proofs.Windows.{power}
use Rattle.packing.proofs.largest.Goals as goal

-- a shift by any number up to 32
positive : {n : ℕ} → n ≤ 32 → 0 < 1 * 2 ^ n % 2 ^ 64
positive {n} h = rw (power n h) (pow_pos n)

ones_fit : {n : ℕ} → n ≤ 32 → 1 * 2 ^ n % 2 ^ 64 - 1 < 2 ^ 32
ones_fit {n} h = rw (power n h) (omega (arith, pow_pos n, pow_mono h))

-- the shift that the first fact is about is one by the width
by_width : {n : ℕ} (w : ℕ) → 0 < 1 * 2 ^ n % 2 ^ 64 → n ≡ w → w ≤ 32 → 1 * 2 ^ n % 2 ^ 64 ≡ 2 ^ w
by_width w _ e h = rw e (power w h)

pub overflow_sub-result : goal.overflow_sub-result
overflow_sub-result c = positive (omega arith)

pub overflow_cast-result-2 : goal.overflow_cast-result-2
overflow_cast-result-2 c = record { fits = ones_fit (omega arith) }

pub returns : goal.returns
returns c = omega (arith, by_width c.args.width (overflow_sub-result c) (omega arith) (omega arith))
