-- Where rounding is infinite: exactly from half a last digit past the largest finite number on.
-- Assumes nothing.
use mathlib.Core.Path.{◌≡◌, refl, ap, sym, ◌∙◌}
use mathlib.Core.Logic.{◌⊎◌, inl, inr}
use mathlib.Core.Bool.{Bool, true, false, cond}
use Prim.Native.Nat.{ℕ, zero, suc, ◌+◌, ◌-◌, ◌*◌, ◌/◌, ◌%◌, ◌^◌, ◌≤◌, ◌<◌, min}
use native.Mathlib.Nat.{add-mul, mul_right_comm, mul-le-mul_right, mul-pos}
use native.Mathlib.Omega.{arith}
use lib.Dec.{leb, eqb, lit<}
use lib.IntN.{ℤ, pos, negsuc, nat_abs}
use borrow.Author.Tests.{leb-true, leb-false, le-leb, lt-leb, eq-eqb, ne_eqb}
use Rattle.float.specs.Patterns.{aside, units}
use Rattle.float.specs.Rounding.{unbounded, infinity, with_sign, rounded_to, half_past, rounded}
use Rattle.float.proofs.Digits.{unit, kept, nearest_bounds}
use Rattle.float.proofs.Extent.{order, extent, extent_mono, floor, rest, splits, rest_less, floor_is, next_is, goes_down, goes_up, ties}

-- ---- the largest finite pattern, and infinity

abbrev largest : ℕ
largest = infinity - 1

halves : extent largest + extent infinity ≡ half_past * 2
unfolding extent units
halves = refl

-- `half` stands for half_past, which is too long a number for `omega`
module _ (n d : ℕ) (D : 0 < d) (half : ℕ) (H : extent largest + extent infinity ≡ half * 2) where
  half_times : extent largest * d + extent infinity * d ≡ half * d * 2
  half_times = sym (add-mul (extent largest) (extent infinity) d) ∙ ap (λ x. x * d) H ∙ mul_right_comm half 2 d

  ordered : extent largest * d ≤ extent infinity * d
  ordered = mul-le-mul_right d (extent_mono largest infinity (omega arith))

  bounded : (floor n d D ≤ unbounded n d) × (unbounded n d ≤ floor n d D + 1)
  unfolding unbounded
  bounded = (omega (arith, nearest_bounds n (unit n d)), omega (arith, nearest_bounds n (unit n d)))

  -- n / d is at least half a last digit past the largest number
  abbrev Decided : Type 0
  Decided = leb infinity (unbounded n d) ≡ leb (half * d) n

  both : infinity ≤ unbounded n d → half * d ≤ n → Decided
  both h k = le-leb infinity (unbounded n d) h ∙ sym (le-leb (half * d) n k)

  neither : unbounded n d < infinity → n < half * d → Decided
  neither h k = lt-leb infinity (unbounded n d) h ∙ sym (lt-leb (half * d) n k)

  far_below : floor n d D + 1 < infinity → Decided
  far_below h =
      let top = mul-le-mul_right d (extent_mono (floor n d D + 1) largest (omega arith)) in
      neither (omega (arith, bounded.1)) (omega (arith, top, half_times, ordered, splits n d D, rest_less n d D, next_is n d D))

  past : infinity < floor n d D + 1 → Decided
  past h =
      let top = mul-le-mul_right d (extent_mono infinity (floor n d D) (omega arith)) in
      both (omega (arith, bounded.0)) (omega (arith, top, half_times, ordered, splits n d D, floor_is n d D))

  -- between the largest and infinity
  between : floor n d D + 1 ≡ infinity → Decided
  between e =
      let l : extent largest * d ≡ kept n d * unit n d = ap (λ p. extent p * d) (one_less (floor n d D) e) ∙ floor_is n d D in
      let i : extent infinity * d ≡ kept n d * unit n d + unit n d = ap (λ p. extent p * d) (sym e) ∙ next_is n d D in
      elim (order (rest n d D * 2) (unit n d)) [
        | inl h ↦ neither (omega (arith, goes_down n d D h)) (omega (arith, half_times, splits n d D))
        | inr (inl h) ↦ both (omega (arith, ties n d D h)) (omega (arith, half_times, splits n d D))
        | inr (inr h) ↦ both (omega (arith, goes_up n d D h)) (omega (arith, half_times, splits n d D))
      ]
    where
      one_less : (p : ℕ) → p + 1 ≡ infinity → largest ≡ p
      one_less p e = omega arith

  decided : Decided
  decided = elim (order (floor n d D + 1) infinity) [ inl h ↦ far_below h | inr (inl h) ↦ between h | inr (inr h) ↦ past h ]

pub aside_rounded : (t : Bool) (u : ℕ) → aside (with_sign t (min u infinity)) ≡ leb infinity u
unfolding aside
aside_rounded t u = go t (leb infinity u) refl
  where
    full : (x u : ℕ) → (x ≡ 0) ⊎ (x ≡ 2 ^ 31) → infinity ≤ u → (x + min u infinity) / 2 ^ 23 % 2 ^ 8 ≡ 255
    full x u (inl e) h = omega arith
    full x u (inr e) h = omega arith

    free : (x u : ℕ) → (x ≡ 0) ⊎ (x ≡ 2 ^ 31) → u < infinity → (x + min u infinity) / 2 ^ 23 % 2 ^ 8 ≡ 255 → ⊥
    free x u (inl e) h k = omega arith
    free x u (inr e) h k = omega arith

    sign : (t : Bool) → (cond t (2 ^ 31) 0 ≡ 0) ⊎ (cond t (2 ^ 31) 0 ≡ 2 ^ 31)
    sign true = inr refl
    sign false = inl refl

    go : (t b : Bool) → leb infinity u ≡ b → eqb (with_sign t (min u infinity) / 2 ^ 23 % 2 ^ 8) 255 ≡ b
    go t true e = eq-eqb _ _ (full (cond t (2 ^ 31) 0) u (sign t) (leb-true infinity u e))
    go t false e = ne_eqb _ _ (free (cond t (2 ^ 31) 0) u (sign t) (leb-false infinity u e))

zero_finite : (s : Bool) → aside (with_sign s 0) ≡ false
unfolding aside
zero_finite true = refl
zero_finite false = refl

-- infinite exactly from half a last digit past the largest number on
pub infinite_from : (s : Bool) (z : ℤ) (d : ℕ) → 0 < d → aside (rounded_to s z d) ≡ leb (half_past * d) (nat_abs z)
unfolding rounded_to rounded unbounded
infinite_from s (pos zero) d D = zero_finite s ∙ sym (lt-leb (half_past * d) 0 (mul-pos (lit< tt) D))
infinite_from s (pos (suc n)) d D = aside_rounded false (unbounded (suc n) d) ∙ decided (suc n) d D half_past halves
infinite_from s (negsuc n) d D = aside_rounded true (unbounded (suc n) d) ∙ decided (suc n) d D half_past halves
