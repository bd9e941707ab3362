-- Rounding over whole numbers: the pattern nearest to a fraction of units of 2^-149, and of two that are as near the even one.
-- specs/Claims.antt says what makes it the rule of IEEE 754.
-- Assumes nothing.
use Rattle.std.specs.Prelude.{◌≡◌, ◌⊎◌, Bool, true, false, cond, ◌&&◌, ℕ, zero, suc, ◌+◌, ◌-◌, ◌*◌, ◌/◌, ◌%◌, ◌^◌, ◌<◌, min, ltb, ℤ, pos, negsuc, nat_abs, ◌+ℤ◌, ◌-ℤ◌, ◌*ℤ◌}
use Rattle.std.specs.Float.Ieee.{size}
use Rattle.float.specs.Patterns.{negative, aside, float_number}

-- n / d to the nearest whole number, a tie to the even one
unfoldable pub nearest_even : ℕ → ℕ → ℕ
nearest_even n d = cond (ltb (n % d * 2) d) (n / d) (cond (ltb d (n % d * 2)) (n / d + 1) (n / d + n / d % 2))

-- a float keeps 24 of the binary digits of the whole part, whose number is its `size`, so that its last digit counts 2 ^ dropped units
unfoldable pub dropped : ℕ → ℕ → ℕ
dropped n d = size (n / d) - 24

-- the pattern nearest to n / d units, as if exponents went on past 254
unfoldable pub unbounded : ℕ → ℕ → ℕ
unbounded n d = dropped n d * 2 ^ 23 + nearest_even n (d * 2 ^ dropped n d)

-- the pattern past the largest finite one
abbrev pub infinity : ℕ
infinity = 255 * 2 ^ 23

unfoldable pub rounded : ℕ → ℕ → ℕ
rounded n d = min (unbounded n d) infinity

-- a pattern with its sign
abbrev pub with_sign : Bool → ℕ → ℕ
with_sign s p = cond s (2 ^ 31) 0 + p

-- the pattern nearest to z / d units; a z of 0 has the sign s
unfoldable pub rounded_to : Bool → ℤ → ℕ → ℕ
rounded_to s (pos zero) d = with_sign s 0
rounded_to s (pos (suc n)) d = with_sign false (rounded (suc n) d)
rounded_to s (negsuc n) d = with_sign true (rounded (suc n) d)

-- ---- what rounding is to come to

-- how far a pattern's number is from z / d units, times d
unfoldable pub off : ℤ → ℕ → ℕ → ℕ
off z d x = nat_abs (float_number x *ℤ pos d -ℤ z)

-- the rule: a finite pattern of any other number is further off, or it is as far off and odd while x is even
abbrev pub Nearest : ℤ → ℕ → ℕ → Type 0
Nearest z d x =
    (y : ℕ) → y < 2 ^ 32 → aside y ≡ false → (float_number y ≡ float_number x → ⊥)
    → (off z d x < off z d y) ⊎ ((off z d x ≡ off z d y) × (x % 2 ≡ 0) × (y % 2 ≡ 1))

-- half a last digit past the largest finite number, in units
abbrev pub half_past : ℕ
half_past = (2 ^ 25 - 1) * 2 ^ 252

-- ---- the two steps of a mean; what is infinite stays so

-- x + y, where y is finite: an exact 0 is +0, but of two -0 it is -0
unfoldable pub plus : ℕ → ℕ → ℕ
plus x y = cond (aside x) x (rounded_to (negative x && negative y) (float_number x +ℤ float_number y) 1)

-- x / n: the sign is that of x
unfoldable pub over : ℕ → ℕ → ℕ
over x n = cond (aside x) x (rounded_to (negative x) (float_number x) n)
