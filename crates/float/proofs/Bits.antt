-- What the kit's rounding writes is the pattern that specs/Rounding.antt defines.
-- Assumes nothing.
use mathlib.Core.Path.{◌≡◌, refl, ap, sym, ◌∙◌, subst}
use mathlib.Core.Logic.{◌⊎◌, inl, inr}
use mathlib.Core.Bool.{Bool, true, false, cond}
use Prim.Native.Nat.{ℕ, suc, ◌+◌, ◌-◌, ◌*◌, ◌/◌, ◌^◌, ◌≤◌, ◌<◌, min}
use native.Mathlib.Nat.{le_trans, le_of_eq, lt_of_le_of_lt, eq-zero-or-pos, eq-or-lt_of_le, mul-one, mul_assoc, mul_left_comm, mul-pos, mul-le-mul_right, mul-div_cancel, mul-div-mul_right, le_of_mul-le-mul_right, add_assoc, pow-suc}
use native.Mathlib.Omega.{arith}
use lib.Dec.{ltb}
use lib.Pow.{pow-add, pow_pos, shl_lt}
use lib.Ieee as ieee
use lib.Ieee.{Float, nan, inf, fin, Format, binary32, prec, low, hid, top, size, down, odd, round, to_bits}
use lib.Ieee.Digits.{size-le}
use lib.Ieee.Fits.{round_is, down_pos}
use lib.Ieee.Exact.{HasValue, odd_sign}
use lib.Ieee.Nearest.{closest, closest_same}
use borrow.Author.Tests.{ltb-true, ltb-false}
use Rattle.float.specs.Rounding.{nearest_even, dropped, rounded, infinity, with_sign, unbounded}
use Rattle.float.proofs.Digits.{nearest_is, power_le, power_lt, size_at, kept_under, kept_full, nearest_bounds}

-- ---- the kit's round, in units

module _ (s : Bool) (n d l : ℕ) where
  kit_drops : 0 < l → size (n * l / (d * l)) - 24 ≡ dropped n d
  unfolding dropped
  kit_drops L = ap (λ x. size x - 24) (mul-div-mul_right n d L)

  kit_keeps : 0 < l → 0 < d → (k : ℕ) → closest (n * l) (d * l * 2 ^ k) ≡ nearest_even n (d * 2 ^ k)
  kit_keeps L D k =
      closest_same (n * l) (d * l * 2 ^ k) n (d * 2 ^ k) (mul-pos (mul-pos D L) (pow_pos k)) (mul-pos D (pow_pos k)) (simp (mul_assoc, mul_left_comm))
      ∙ nearest_is n (d * 2 ^ k)

kit_rounds : (f : Format) (s : Bool) (n d : ℕ) → prec f ≡ 24 → 0 < d
    → round f s n (d * 2 ^ low f) ≡ ieee.units f s (nearest_even n (d * 2 ^ dropped n d)) (dropped n d)
kit_rounds f s n d p D =
    let l = 2 ^ low f in
    let L = pow_pos (low f) in
    round_is f s n (d * l)
    ∙ ap (λ k. ieee.units f s (closest (n * l) (d * l * 2 ^ k)) k) (ap (λ x. size (n * l / (d * l)) - x) p ∙ kit_drops s n d l L)
    ∙ ap (λ q. ieee.units f s q (dropped n d)) (kit_keeps s n d l L D (dropped n d))

-- ---- the pattern of a value that is a units

value_bits : (f : Format) (v : Float) (s : Bool) (a : ℕ) → HasValue v s a (2 ^ low f)
    → to_bits f v ≡ cond s (top f) 0 + ((size a - prec f) * hid f + a / 2 ^ (size a - prec f))
unfolding to_bits
value_bits f nan s a h = absurd h
value_bits f (inf t) s a h = absurd h
value_bits f (fin t m e) s a h =
    ap (λ x. cond t (top f) 0 + (size x - prec f) * hid f + x / 2 ^ (size x - prec f)) (ap (λ x. x / down e) h.1 ∙ mul-div_cancel a (down_pos e))
    ∙ ap (λ b. cond b (top f) 0 + (size a - prec f) * hid f + a / 2 ^ (size a - prec f)) h.0
    ∙ add_assoc (cond s (top f) 0) ((size a - prec f) * hid f) (a / 2 ^ (size a - prec f))

infinite : (s : Bool) → to_bits binary32 (inf s) ≡ with_sign s infinity
unfolding to_bits
infinite s = refl

-- ---- q units of 2 ^ k have the pattern k * 2 ^ 23 + q

module _ (q k : ℕ) (most : q ≤ 2 ^ 24) (full : 0 < k → 2 ^ 23 ≤ q) where
  fields_at : (j : ℕ) → size (q * 2 ^ k) - 24 ≡ j → j * 2 ^ 23 + q * 2 ^ k / 2 ^ j ≡ k * 2 ^ 23 + q
      → (size (q * 2 ^ k) - 24) * 2 ^ 23 + q * 2 ^ k / 2 ^ (size (q * 2 ^ k) - 24) ≡ k * 2 ^ 23 + q
  fields_at j e r = ap (λ x. x * 2 ^ 23 + q * 2 ^ k / 2 ^ x) e ∙ r

  fields : (size (q * 2 ^ k) - 24) * 2 ^ 23 + q * 2 ^ k / 2 ^ (size (q * 2 ^ k) - 24) ≡ k * 2 ^ 23 + q
  fields = elim (eq-or-lt_of_le most) [
    | inl e ↦
        let a : q * 2 ^ k ≡ 2 ^ (24 + k) = ap (λ x. x * 2 ^ k) e ∙ sym (pow-add 2 24 k) in
        let z : size (q * 2 ^ k) ≡ suc (24 + k) = size_at (q * 2 ^ k) (24 + k) (le_of_eq (sym a)) (lt_of_le_of_lt (le_of_eq a) (shorter (24 + k))) in
        let h : q * 2 ^ k / 2 ^ suc k ≡ 2 ^ 23 = ap (λ x. x / 2 ^ suc k) (a ∙ ap (λ x. 2 ^ x) (shift k) ∙ pow-add 2 23 (suc k)) ∙ mul-div_cancel (2 ^ 23) (pow_pos (suc k)) in
        fields_at (suc k) (less (size (q * 2 ^ k)) k z) (carried q k (q * 2 ^ k / 2 ^ suc k) e h)
    | inr l ↦
        fields_at k (at l (eq-zero-or-pos k)) (ap (λ x. k * 2 ^ 23 + x) (mul-div_cancel q (pow_pos k)))
  ]
    where
      shorter : (j : ℕ) → 2 ^ j < 2 ^ suc j
      shorter j = rw (pow-suc 2 j) (omega (arith, pow_pos j))

      shift : (k : ℕ) → 24 + k ≡ 23 + suc k
      shift k = omega arith

      less : (z k : ℕ) → z ≡ suc (24 + k) → z - 24 ≡ suc k
      less z k e = omega arith

      carried : (q k h : ℕ) → q ≡ 2 ^ 24 → h ≡ 2 ^ 23 → suc k * 2 ^ 23 + h ≡ k * 2 ^ 23 + q
      carried q k h e r = omega arith

      none : (z : ℕ) → z ≤ 24 → z - 24 ≡ 0
      none z h = omega arith

      some : (z k : ℕ) → z ≡ suc (23 + k) → z - 24 ≡ k
      some z k h = omega arith

      at : q < 2 ^ 24 → (k ≡ 0) ⊎ (0 < k) → size (q * 2 ^ k) - 24 ≡ k
      at l (inl e) = none (size (q * 2 ^ k)) (size-le (q * 2 ^ k) 24 (subst (λ x. q * 2 ^ x < 2 ^ 24) (sym e) (subst (λ x. x < 2 ^ 24) (sym (mul-one q)) l))) ∙ sym e
      at l (inr p) =
          some (size (q * 2 ^ k)) k
          (size_at (q * 2 ^ k) (23 + k) (le_trans (le_of_eq (pow-add 2 23 k)) (mul-le-mul_right (2 ^ k) (full p)))
          (subst (λ x. q * 2 ^ k < 2 ^ x) (one_up k) (shl_lt 24 k l)))
        where
          one_up : (k : ℕ) → 24 + k ≡ suc (23 + k)
          one_up k = omega arith

  -- finite exactly up to the largest pattern
  in_range_lem : q * 2 ^ k < 2 ^ 277 → k * 2 ^ 23 + q ≤ infinity
  in_range_lem h = elim (eq-zero-or-pos k) [
    | inl e ↦ omega arith
    | inr p ↦
        let r = power_lt (23 + k) 277 (lt_of_le_of_lt (le_trans (le_of_eq (pow-add 2 23 k)) (mul-le-mul_right (2 ^ k) (full p))) h) in
        omega arith
  ]

  past_range : 2 ^ 277 ≤ q * 2 ^ k → infinity ≤ k * 2 ^ 23 + q
  past_range h =
      let r = power_le 277 (24 + k) (le_trans h (le_trans (mul-le-mul_right (2 ^ k) most) (le_of_eq (sym (pow-add 2 24 k))))) in
      elim (eq-or-lt_of_le r) [
        | inl e ↦
            let g = le_of_mul-le-mul_right (le_trans (le_of_eq (sym (pow-add 2 24 k))) (le_trans (le_of_eq (ap (λ x. 2 ^ x) (sym e))) h)) (pow_pos k) in
            omega arith
        | inr l ↦ let g = full (omega arith) in omega arith
      ]

  pub pattern_is : (s : Bool) → to_bits binary32 (ieee.units binary32 s q k) ≡ with_sign s (min (k * 2 ^ 23 + q) infinity)
  unfolding ieee.units
  pattern_is s = go (ltb (q * 2 ^ k) (2 ^ 277)) refl
    where
      under : (x : ℕ) → x ≤ infinity → min x infinity ≡ x
      under x h = omega arith

      over : (x : ℕ) → infinity ≤ x → min x infinity ≡ infinity
      over x h = omega arith

      go : (b : Bool) → ltb (q * 2 ^ k) (2 ^ 277) ≡ b → to_bits binary32 (cond b (odd 25 s q k 149) (inf s)) ≡ with_sign s (min (k * 2 ^ 23 + q) infinity)
      go true e =
          value_bits binary32 (odd 25 s q k 149) s (q * 2 ^ k) (odd_sign 25 s q k 149)
          ∙ ap (with_sign s) (fields ∙ sym (under (k * 2 ^ 23 + q) (in_range_lem (ltb-true (q * 2 ^ k) (2 ^ 277) e))))
      go false e = infinite s ∙ ap (with_sign s) (sym (over (k * 2 ^ 23 + q) (past_range (ltb-false (q * 2 ^ k) (2 ^ 277) e))))

-- ---- a fraction of units, rounded

pub round_bits : (s : Bool) (n d : ℕ) → 0 < d → to_bits binary32 (round binary32 s n (d * 2 ^ 149)) ≡ with_sign s (rounded n d)
unfolding rounded unbounded dropped
round_bits s n d D =
    let k = dropped n d in
    let b = nearest_bounds n (d * 2 ^ k) in
    let u = kept_under n d in
    ap (to_bits binary32) (kit_rounds binary32 s n d refl D)
    ∙ pattern_is (nearest_even n (d * 2 ^ k)) k (omega arith) (λ p. le_trans (kept_full n d p) b.0) s
