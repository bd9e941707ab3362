-- The value that the kit reads from a pattern is its number (specs/Patterns.antt).
-- Assumes nothing.
use mathlib.Core.Path.{◌≡◌, refl, ap, sym, ◌∙◌, subst}
use mathlib.Core.Bool.{Bool, true, false, not, cond, true≢false}
use Prim.Native.Nat.{ℕ, zero, suc, ◌+◌, ◌^◌}
use native.Mathlib.Nat.{mul-one}
use lib.Dec.{T, eqb}
use lib.Pow.{field}
use lib.Ieee.{Float, nan, inf, fin, binary32, odd, fits, of_fields, of_bits, to_bits, nan_bits, is_nan}
use lib.Ieee.Bits.{of_bits-to_bits}
use lib.Ieee.Exact.{HasValue, odd_sign}
use Rattle.float.specs.Patterns.{negative, exponent, fraction, aside, units, size_of}

-- a finite value, as a whole multiple of 2^-149 with a sign
abbrev pub Units : Float → Bool → ℕ → Type 0
Units v s a = HasValue v s a (2 ^ 149)

-- not finite
abbrev pub Aside : Float → Type 0
Aside nan = Unit
Aside (inf s) = Unit
Aside (fin s m e) = ⊥

-- ---- by the fields

fields_finite : (s : Bool) (e f : ℕ) → eqb e 255 ≡ false → Units (of_fields binary32 s e f) s (units e f)
unfolding of_fields units
fields_finite s zero f t = subst (λ a. Units (odd 24 s f 0 149) s a) (mul-one f) (odd_sign 24 s f 0 149)
fields_finite s (suc e) f t = rw t (odd_sign 24 s (2 ^ 23 + f) e 149)

fields_aside : (s : Bool) (e f : ℕ) → eqb e 255 ≡ true → Aside (of_fields binary32 s e f)
unfolding of_fields
fields_aside s zero f t = absurd (subst T (sym t) tt)
fields_aside s (suc e) f t = rw t (go (eqb f 0))
  where
    go : (b : Bool) → Aside (cond b (inf s) nan)
    go true = tt
    go false = tt

-- ---- by the pattern

bits_are : (x : ℕ) → of_bits binary32 x ≡ of_fields binary32 (negative x) (exponent x) (fraction x)
unfolding of_bits
bits_are x = ap (λ e. of_fields binary32 (negative x) e (fraction x)) (field x 8 23)

pub finite_bits : (x : ℕ) → aside x ≡ false → Units (of_bits binary32 x) (negative x) (size_of x)
unfolding aside size_of
finite_bits x t = rw (bits_are x) (fields_finite (negative x) (exponent x) (fraction x) t)

aside_bits : (x : ℕ) → aside x ≡ true → Aside (of_bits binary32 x)
unfolding aside
aside_bits x t = rw (bits_are x) (fields_aside (negative x) (exponent x) (fraction x) t)

-- ---- by the value

pub finite_value : (v : Float) → T (fits binary32 v) → aside (to_bits binary32 v) ≡ false → Units v (negative (to_bits binary32 v)) (size_of (to_bits binary32 v))
finite_value v f t = subst (λ w. Units w (negative (to_bits binary32 v)) (size_of (to_bits binary32 v))) (of_bits-to_bits binary32 v f) (finite_bits (to_bits binary32 v) t)

pub aside_value : (v : Float) → T (fits binary32 v) → aside (to_bits binary32 v) ≡ true → Aside v
aside_value v f t = subst Aside (of_bits-to_bits binary32 v f) (aside_bits (to_bits binary32 v) t)

-- ---- a finite pattern is no NaN's

pub no_nan : (x : ℕ) → aside x ≡ false → T (not (nan_bits binary32 x))
unfolding aside nan_bits
no_nan x t = rw (ap (λ e. eqb e 255) (field x 8 23) ∙ t) tt

-- what is not a number is set aside
pub not_number : (v : Float) → is_nan v ≡ true → aside (to_bits binary32 v) ≡ true
unfolding is_nan aside to_bits
not_number nan t = refl
not_number (inf s) t = absurd (true≢false (sym t))
not_number (fin s m e) t = absurd (true≢false (sym t))
