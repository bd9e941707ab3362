-- What the patterns of a message's bits stand for: two's complement. A value is a whole number, a pattern a number below a power of two.
-- Assumes nothing.
use Rattle.std.specs.Prelude.{Bool, true, false, cond, ◌&&◌, ℕ, ◌+◌, ◌-◌, ◌*◌, ◌%◌, ◌^◌, ltb, leb, eqb, ℤ, pos, negsuc, neg_ℤ, ◌-ℤ◌}
use Rattle.std.specs.Int.Signed.{le_z}

-- ---- the values of a width

-- a message has 1 to 32 bits
unfoldable pub is_width : ℕ → Bool
is_width w = leb 1 w && leb w 32

-- an unsigned message of w bits holds 0 to 2^w - 1, a signed one -2^(w - 1) to 2^(w - 1) - 1
unfoldable pub least : Bool → ℕ → ℤ
least false w = pos 0
least true w = neg_ℤ (pos (2 ^ (w - 1)))

unfoldable pub greatest : Bool → ℕ → ℤ
greatest false w = pos (2 ^ w - 1)
greatest true w = pos (2 ^ (w - 1) - 1)

-- the values that a message of w bits holds; a width that no message has holds none
unfoldable pub in_range : Bool → ℕ → ℤ → Bool
in_range signed w z = is_width w && (le_z (least signed w) z && le_z z (greatest signed w))

-- ---- values and patterns

-- the value of a pattern of w bits: where the message is signed, that of the upper half of the patterns is 2^w less (of a larger number it says nothing)
unfoldable pub value_of : Bool → ℕ → ℕ → ℤ
value_of false w v = pos v
value_of true w v = cond (ltb (v * 2) (2 ^ w)) (pos v) (pos v -ℤ pos (2 ^ w))

-- the lowest w bits of a value: -1 is all ones, -2 is one less, and so on
unfoldable pub pattern_of : ℕ → ℤ → ℕ
pattern_of w (pos n) = n % 2 ^ w
pattern_of w (negsuc n) = 2 ^ w - 1 - n % 2 ^ w

-- ---- 32-bit patterns

-- a pattern of w bits extended to 32: by zeros, or where the message is signed by copies of its highest bit
unfoldable pub extend : Bool → ℕ → ℕ → ℕ
extend false w v = v
extend true w v = cond (ltb (v * 2) (2 ^ w)) v (2 ^ 32 - 2 ^ w + v)

-- a 32-bit pattern is extended from its lowest w bits
unfoldable pub extended : Bool → ℕ → ℕ → Bool
extended signed w x = is_width w && eqb x (extend signed w (x % 2 ^ w))
