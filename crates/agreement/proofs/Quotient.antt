-- Whole numbers: the distance from zero of a sum; sums keep the order, and so do quotients toward zero; and what such a quotient comes to. A number is at most another exactly if
-- the other is the first and a natural number more: a sum of two such is regrouped. A quotient goes by the signs.
-- Assumes nothing.
use mathlib.Core.Path.{◌≡◌, refl, ap, sym, ◌∙◌}
use mathlib.Core.Bool.{true, true≢false}
use Prim.Native.Nat.{ℕ, zero, suc, ◌+◌, ◌-◌, ◌*◌, ◌/◌, ◌<◌, ◌≤◌}
use native.Mathlib.Omega.{arith}
use native.Mathlib.Decide.{dec_lt}
use native.Mathlib.Nat.{le_trans, not-suc-le-zero, zero-div, div-le_self, div-mul-le_self, lt-div-mul-add, le-div_iff_mul-le, mul-div_cancel_left}
use lib.IntN.{ℤ, pos, negsuc, neg_ℤ, nat_abs, sub_ℕ, ◌+ℤ◌, ◌*ℤ◌, +ℤ_assoc, +ℤ_comm}
use lib.Signed.{le_z, quot_z}
use borrow.Author.Tests.{leb-true, le-leb, lt-ltb, le-ltb}

-- ---- the distance from zero

abs_sub : (a b : ℕ) → nat_abs (sub_ℕ a b) ≤ a + b
abs_sub a b = go (dec_lt a b)
  where
    go : Dec (a < b) → nat_abs (sub_ℕ a b) ≤ a + b
    go (yes h) = rw (lt-ltb a b h) (omega arith)
    go (no h) = rw (le-ltb a b (omega arith)) (omega arith)

pub abs_add : (a b : ℤ) → nat_abs (a +ℤ b) ≤ nat_abs a + nat_abs b
abs_add (pos a) (pos b) = omega arith
abs_add (pos a) (negsuc b) = abs_sub a (suc b)
abs_add (negsuc a) (pos b) = omega (arith, abs_sub b (suc a))
abs_add (negsuc a) (negsuc b) = omega arith

pub abs_neg : (n : ℕ) → nat_abs (neg_ℤ (pos n)) ≡ n
abs_neg zero = refl
abs_neg (suc n) = refl

-- ---- sums

pub exchange : (a b c : ℤ) → a +ℤ (b +ℤ c) ≡ b +ℤ (a +ℤ c)
exchange a b c = sym (+ℤ_assoc a b c) ∙ ap (λ z. z +ℤ c) (+ℤ_comm a b) ∙ +ℤ_assoc b a c

-- b is a and so much more
more : (a b : ℤ) → le_z a b ≡ true → (k : ℕ) × (a +ℤ pos k ≡ b)
more (pos a) (pos b) t = (b - a, ap pos (omega (arith, leb-true a b t)))
more (pos a) (negsuc b) t = absurd (true≢false (sym t))
more (negsuc a) (pos b) t = (b + suc a, rw (le-ltb (b + suc a) (suc a) (omega arith)) (ap pos (omega arith)))
more (negsuc a) (negsuc b) t =
    let h = leb-true b a t in
    (a - b, rw (lt-ltb (a - b) (suc a) (omega arith)) (ap negsuc (omega arith)))

at_most_lem : (a : ℤ) (k : ℕ) → le_z a (a +ℤ pos k) ≡ true
at_most_lem (pos a) k = le-leb a (a + k) (omega arith)
at_most_lem (negsuc a) k = go (dec_lt k (suc a))
  where
    go : Dec (k < suc a) → le_z (negsuc a) (negsuc a +ℤ pos k) ≡ true
    go (yes h) = rw (lt-ltb k (suc a) h) (le-leb (suc a - suc k) a (omega arith))
    go (no h) = rw (le-ltb k (suc a) (omega arith)) refl

pub sum_order : (a b c d : ℤ) → le_z a b ≡ true → le_z c d ≡ true → le_z (a +ℤ c) (b +ℤ d) ≡ true
sum_order a b c d h k =
    let (x, p) = more a b h in
    let (y, q) = more c d k in
    let regrouped : (a +ℤ pos x) +ℤ (c +ℤ pos y) ≡ (a +ℤ c) +ℤ pos (x + y) =
    +ℤ_assoc a (pos x) (c +ℤ pos y) ∙ ap (λ z. a +ℤ z) (exchange (pos x) c (pos y)) ∙ sym (+ℤ_assoc a c (pos (x + y))) in
    rw (← p, ← q, regrouped) (at_most_lem (a +ℤ c) (x + y))

-- ---- quotients

-- no further from zero than what is divided
pub quotient_small : (a d : ℤ) → nat_abs (quot_z a d) ≤ nat_abs a
quotient_small (pos a) (pos d) = div-le_self a d
quotient_small (pos a) (negsuc d) = rw (abs_neg (a / suc d)) (div-le_self a (suc d))
quotient_small (negsuc a) (pos d) = rw (abs_neg (suc a / d)) (div-le_self (suc a) d)
quotient_small (negsuc a) (negsuc d) = div-le_self (suc a) (suc d)

opposite : (x y : ℕ) → le_z (neg_ℤ (pos x)) (pos y) ≡ true
opposite zero y = le-leb 0 y (omega arith)
opposite (suc x) y = refl

negated : (x y : ℕ) → x ≤ y → le_z (neg_ℤ (pos y)) (neg_ℤ (pos x)) ≡ true
negated zero y h = opposite y 0
negated (suc x) zero h = absurd (not-suc-le-zero h)
negated (suc x) (suc y) h = le-leb x y (omega arith)

module _ (n : ℕ) (p : 0 < n) where
  -- n times the quotient does not pass a, and n times one more, away from zero, does
  pub quotient_toward_zero : (a : ℤ) → (nat_abs (quot_z a (pos n)) * n ≤ nat_abs a) × (nat_abs a < nat_abs (quot_z a (pos n)) * n + n)
  quotient_toward_zero (pos a) = (div-mul-le_self a n, lt-div-mul-add p)
  quotient_toward_zero (negsuc a) = rw (abs_neg (suc a / n)) (div-mul-le_self (suc a) n, lt-div-mul-add p)

  pub quotient_exact : (a : ℤ) → quot_z (pos n *ℤ a) (pos n) ≡ a
  quotient_exact (pos a) = ap pos (mul-div_cancel_left a p)
  quotient_exact (negsuc a) = negative (n * suc a) ∙ ap (λ x. neg_ℤ (pos x)) (mul-div_cancel_left (suc a) p)
    where
      negative : (x : ℕ) → quot_z (neg_ℤ (pos x)) (pos n) ≡ neg_ℤ (pos (x / n))
      negative zero = rw (zero-div n) refl
      negative (suc x) = refl

  divided : (x y : ℕ) → x ≤ y → x / n ≤ y / n
  divided x y h = (le-div_iff_mul-le p).1 (le_trans (div-mul-le_self x n) h)

  pub quotient_order : (a b : ℤ) → le_z a b ≡ true → le_z (quot_z a (pos n)) (quot_z b (pos n)) ≡ true
  quotient_order (pos a) (pos b) t = le-leb (a / n) (b / n) (divided a b (leb-true a b t))
  quotient_order (pos a) (negsuc b) t = absurd (true≢false (sym t))
  quotient_order (negsuc a) (pos b) t = opposite (suc a / n) (b / n)
  quotient_order (negsuc a) (negsuc b) t =
      let h = leb-true b a t in
      negated (suc b / n) (suc a / n) (divided (suc b) (suc a) (omega arith))
