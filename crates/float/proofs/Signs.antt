-- The sign of what is rounded: that of the number, and for 0 the one asked for.
-- Assumes nothing.
use mathlib.Core.Path.{◌≡◌, refl, ap, sym, ◌∙◌}
use mathlib.Core.Bool.{Bool, true, false, cond, ◌&&◌}
use Prim.Native.Nat.{ℕ, zero, suc, ◌+◌, ◌^◌, ◌<◌, min}
use native.Mathlib.Omega.{arith}
use lib.Dec.{ltb, eqb-suc-zero}
use lib.IntN.{ℤ, pos, negsuc, ◌+ℤ◌}
use lib.Signed.{lt_z}
use borrow.Author.Tests.{le-leb, lt-leb, le-ltb}
use Rattle.whole.specs.Whole.{eq_z}
use Rattle.float.specs.Patterns.{negative, aside, size_of, float_number}
use Rattle.float.specs.Rounding.{unbounded, rounded, infinity, with_sign, rounded_to, plus, over}
use Rattle.float.proofs.Steps.{number}

-- the sign is that of z, and for 0 the one asked for
pub sign_is : (s : Bool) (z : ℤ) (d : ℕ) → negative (rounded_to s z d) ≡ cond (eq_z z (pos 0)) s (lt_z z (pos 0))
unfolding rounded_to rounded
sign_is true (pos zero) d = refl
sign_is false (pos zero) d = refl
sign_is s (pos (suc n)) d =
    lt-leb (2 ^ 31) (with_sign false (rounded (suc n) d)) (small (unbounded (suc n) d))
    ∙ sym (ap (λ b. cond b s (ltb (suc n) 0)) (eqb-suc-zero n) ∙ le-ltb (suc n) 0 (omega arith))
  where
    small : (u : ℕ) → 0 + min u infinity < 2 ^ 31
    small u = omega arith
sign_is s (negsuc n) d = le-leb (2 ^ 31) (with_sign true (rounded (suc n) d)) (omega arith)

-- a sum that is exactly 0 is -0 of two negative patterns, which are -0 both, and +0 otherwise
pub zero_sum : (x y : ℕ) → aside x ≡ false → float_number x +ℤ float_number y ≡ pos 0 → plus x y ≡ with_sign (negative x && negative y) 0
unfolding plus rounded_to
zero_sum x y a e = rw (a, e) refl

pub own_sign : (s : Bool) (a : ℕ) → cond (eq_z (number s a) (pos 0)) s (lt_z (number s a) (pos 0)) ≡ s
own_sign true zero = refl
own_sign true (suc a) = refl
own_sign false zero = refl
own_sign false (suc a) = ap (λ b. cond b false (ltb (suc a) 0)) (eqb-suc-zero a) ∙ le-ltb (suc a) 0 (omega arith)

-- a quotient has the sign of what is divided, also where it rounds to 0
pub quotient_sign : (x n : ℕ) → aside x ≡ false → negative (over x n) ≡ negative x
unfolding over float_number
quotient_sign x n a = rw a (sign_is (negative x) (float_number x) n ∙ own_sign (negative x) (size_of x))
