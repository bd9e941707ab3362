-- The floats of IEEE 754 that have 32 bits, as patterns from 0 to 4,294,967,295: which are set aside, and the whole multiple of 2^-149 that any other
-- stands for. Numbers are compared as those whole multiples, so -0 equals +0.
-- Assumes nothing.
use Rattle.std.specs.Prelude.{Bool, cond, ℕ, zero, suc, ◌+◌, ◌*◌, ◌/◌, ◌%◌, ◌^◌, eqb, leb, ℤ, pos, neg_ℤ}

-- ---- a pattern's fields: the sign, 8 bits of exponent, 23 bits of fraction

abbrev pub negative : ℕ → Bool
negative x = leb (2 ^ 31) x

abbrev pub exponent : ℕ → ℕ
exponent x = x / 2 ^ 23 % 2 ^ 8

abbrev pub fraction : ℕ → ℕ
fraction x = x % 2 ^ 23

-- all exponent bits are set, so the pattern is set aside: an infinity or not a number
unfoldable pub aside : ℕ → Bool
aside x = eqb (exponent x) 255

-- ---- the number

-- in units of 2^-149, by the exponent and the fraction; from exponent 1 on a leading bit stands in front of the fraction
unfoldable pub units : ℕ → ℕ → ℕ
units zero f = f
units (suc e) f = (2 ^ 23 + f) * 2 ^ e

unfoldable pub size_of : ℕ → ℕ
size_of x = units (exponent x) (fraction x)

unfoldable pub float_number : ℕ → ℤ
float_number x = cond (negative x) (neg_ℤ (pos (size_of x))) (pos (size_of x))

-- ---- the order of numbers without their size

-- a pattern's rank in the order of numbers: patterns count up from +0, and down from -0; a small number, so the code compares ranks
unfoldable pub rank_of : ℕ → ℤ
rank_of x = cond (negative x) (neg_ℤ (pos (x % 2 ^ 31))) (pos (x % 2 ^ 31))
