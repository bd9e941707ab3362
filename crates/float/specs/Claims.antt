-- What holds of floats: rounding is IEEE 754's nearest-even rule, the code's f32 arithmetic gives these patterns bit for bit, and ranks order them as
-- numbers do. Each line is a theorem; proofs/Claims.antt says where it is proved.
-- Assumes nothing.
use Rattle.std.specs.Prelude.{◌≡◌, Bool, false, cond, ◌&&◌, ℕ, ◌*◌, ◌^◌, ◌<◌, ◌≤◌, T, leb, Float, ℤ, pos, nat_abs, ◌+ℤ◌}
use Rattle.std.specs.Float.{binary32}
use Rattle.std.specs.Float.Ieee.{add, div, fits, of_bits, to_bits, of_int}
use Rattle.std.specs.Int.Signed.{lt_z}
use Rattle.whole.specs.Whole.{eq_z}
use Rattle.float.specs.Patterns.{negative, aside, float_number, rank_of}
use Rattle.float.specs.Rounding.{with_sign, rounded_to, Nearest, half_past, plus, over}

pub record Claims : Type 0 where
  -- where z / d units are rounded to a finite pattern, no finite pattern is nearer, and of two that are as near it is the even one
  pub nearest : (s : Bool) (z : ℤ) (d : ℕ) → 0 < d → aside (rounded_to s z d) ≡ false → Nearest z d (rounded_to s z d)
  -- and that leaves one number
  pub one_nearest : (z : ℤ) (d x y : ℕ) → x < 2 ^ 32 → aside x ≡ false → Nearest z d x → y < 2 ^ 32 → aside y ≡ false → Nearest z d y
      → float_number x ≡ float_number y
  -- it is infinite exactly from half a last digit past the largest finite number on
  pub infinite : (s : Bool) (z : ℤ) (d : ℕ) → 0 < d → aside (rounded_to s z d) ≡ leb (half_past * d) (nat_abs z)
  -- its sign is that of the number, and for 0 the one asked for
  pub sign : (s : Bool) (z : ℤ) (d : ℕ) → negative (rounded_to s z d) ≡ cond (eq_z z (pos 0)) s (lt_z z (pos 0))
  -- so a sum that is exactly 0 is -0 of two negative patterns, which are -0 both, and +0 otherwise; and a quotient keeps its sign, also where it rounds to 0
  pub zero_sum : (x y : ℕ) → aside x ≡ false → float_number x +ℤ float_number y ≡ pos 0 → plus x y ≡ with_sign (negative x && negative y) 0
  pub quotient_sign : (x n : ℕ) → aside x ≡ false → negative (over x n) ≡ negative x
  -- a finite pattern is what its own number is rounded to, bit for bit
  pub itself : (x : ℕ) → x < 2 ^ 32 → aside x ≡ false → rounded_to (negative x) (float_number x) 1 ≡ x
  -- the f32 sum of a value and a finite pattern has the pattern of `plus`, and the f32 quotient of a value by a small number that of `over`
  pub addition : (v : Float) (y : ℕ) → T (fits binary32 v) → aside y ≡ false
      → to_bits binary32 (add binary32 v (of_bits binary32 y)) ≡ plus (to_bits binary32 v) y
  pub division : (v : Float) (n : ℕ) → T (fits binary32 v) → 0 < n → n ≤ 2 ^ 24
      → to_bits binary32 (div binary32 v (of_int binary32 (pos n))) ≡ over (to_bits binary32 v) n
  -- patterns have the order of their numbers by rank too, those set aside included
  pub ranks : (x y : ℕ) → lt_z (rank_of x) (rank_of y) ≡ lt_z (float_number x) (float_number y)
