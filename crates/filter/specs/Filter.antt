-- What each of the fourteen message filters passes. Masks work on the 32-bit patterns of values, order on values, and on numbers where the values are
-- floats; a float's value is its pattern, so filters 4 and 5 compare patterns. x1 and x2 are 32-bit patterns, as the layout has them, `old` is the
-- value that the message holds, and the sign is 0 unsigned, 1 signed, 2 float.
-- Assumes nothing.
use Rattle.std.specs.Prelude.{Bool, true, false, not, cond, ◌&&◌, ◌||◌, List, [], ◌∷◌, ℕ, eqb, ℤ, get_or}
use Rattle.std.specs.Int.Bits.{bit_and}
use Rattle.std.specs.Int.Signed.{lt_z, le_z}
use Rattle.whole.specs.Whole.{eq_z}
use Rattle.packing.specs.Values.{value_of, pattern_of}
use Rattle.float.specs.Patterns.{float_number}

-- a value's pattern under a mask
unfoldable pub masked : ℕ → ℤ → ℕ
masked x v = bit_and (pattern_of 32 v) x

-- the number that a value is compared as, by the message's sign: the value, and of a float, whose value is a pattern, the number of that pattern
unfoldable pub compared : ℕ → ℤ → ℤ
compared sign v = cond (eqb sign 2) (float_number (pattern_of 32 v)) v

-- the order of values
abbrev pub below : ℕ → ℤ → ℤ → Bool
below sign u v = lt_z (compared sign u) (compared sign v)

abbrev pub at_most : ℕ → ℤ → ℤ → Bool
at_most sign u v = le_z (compared sign u) (compared sign v)

-- the value of x1 or x2
unfoldable pub bound : ℕ → ℕ → ℤ
bound sign x = value_of (eqb sign 1) 32 x

-- the filters 0 to 13, in this order
unfoldable pub rules : ℕ → ℕ → ℕ → ℤ → ℤ → List Bool
rules sign x1 x2 new old =
    true
    ∷ false
    ∷ eqb (masked x1 new) x2
    ∷ not (eqb (masked x1 new) x2)
    ∷ eq_z new old
    ∷ not (eq_z new old)
    ∷ eqb (masked x1 new) (masked x1 old)
    ∷ not (eqb (masked x1 new) (masked x1 old))
    ∷ (at_most sign (bound sign x1) new && at_most sign new (bound sign x2))
    ∷ (below sign new (bound sign x1) || below sign (bound sign x2) new)
    ∷ below sign old new
    ∷ at_most sign new old
    ∷ below sign new old
    ∷ at_most sign old new
    ∷ []

-- a number above 13 passes nothing
unfoldable pub passes : ℕ → ℕ → ℕ → ℕ → ℤ → ℤ → Bool
passes filter sign x1 x2 new old = get_or (rules sign x1 x2 new old) filter false
