-- Patterns without their sign grow with their numbers, and of them the rounded one is nearest to a fraction.
-- Assumes nothing.
use mathlib.Core.Path.{◌≡◌, refl, ap, ap₂, sym, ◌∙◌, subst}
use mathlib.Core.Logic.{◌⊎◌, inl, inr}
use mathlib.Core.Bool.{Bool, true, false}
use Prim.Native.Nat.{ℕ, zero, suc, ◌+◌, ◌-◌, ◌*◌, ◌/◌, ◌%◌, ◌^◌, ◌≤◌, ◌<◌}
use native.Mathlib.Nat.{add_assoc, add-sub_of_le, not-le_of_lt, zero-lt-suc, zero-add, le-suc, lt-suc_self, lt_irrefl, le_trans, le_of_eq, le_of_lt, lt_of_lt_of_le, le_of_suc-le-suc, eq-or-lt_of_le, mul-one, mul_comm, mul_assoc, mul-pos, mul-lt-mul_of_pos_right, suc-mul, pow-succ', div-add-mod', mod-lt}
use native.Mathlib.Omega.{arith}
use lib.Arith.{le-zero}
use lib.Dec.{ltb}
use lib.Pow.{pow_pos}
use borrow.Author.Tests.{ltb-true, ltb-false}
use Rattle.float.specs.Patterns.{units}
use Rattle.float.specs.Rounding.{dropped, unbounded}
use Rattle.float.proofs.Digits.{unit, kept, kept_under, kept_full, nearest_low, nearest_high, nearest_tie}

-- one of two numbers is the smaller, or they are equal
pub order : (a b : ℕ) → (a < b) ⊎ ((a ≡ b) ⊎ (b < a))
order a b = go (ltb a b) refl
  where
    go : (t : Bool) → ltb a b ≡ t → (a < b) ⊎ ((a ≡ b) ⊎ (b < a))
    go true e = inl (ltb-true a b e)
    go false e = elim (eq-or-lt_of_le (ltb-false a b e)) [ inl h ↦ inr (inl (sym h)) | inr h ↦ inr (inr h) ]

-- the size of a pattern without its sign, as if exponents went on
unfoldable pub extent : ℕ → ℕ
extent p = units (p / 2 ^ 23) (p % 2 ^ 23)

-- ---- k * 2 ^ 23 + q stands for q * 2 ^ k

fields_at : (p e f : ℕ) → p / 2 ^ 23 ≡ e → p % 2 ^ 23 ≡ f → extent p ≡ units e f
unfolding extent
fields_at p e f h k = ap₂ units h k

subnormal : (q : ℕ) → q < 2 ^ 23 → extent (0 * 2 ^ 23 + q) ≡ q * 2 ^ 0
unfolding units
subnormal q h = fields_at (0 * 2 ^ 23 + q) 0 q (omega arith) (omega arith) ∙ sym (mul-one q)

normal : (k q : ℕ) → 2 ^ 23 ≤ q → q < 2 ^ 24 → extent (k * 2 ^ 23 + q) ≡ q * 2 ^ k
unfolding units
normal k q g h = fields_at (k * 2 ^ 23 + q) (suc k) (q - 2 ^ 23) (omega arith) (omega arith) ∙ ap (λ x. x * 2 ^ k) (add-sub_of_le g)

carried : (k q : ℕ) → q ≡ 2 ^ 24 → extent (k * 2 ^ 23 + q) ≡ q * 2 ^ k
unfolding units
carried k q e =
    fields_at (k * 2 ^ 23 + q) (suc (suc k)) 0 (omega arith) (omega arith)
    ∙ ap (λ x. 2 ^ 23 * x) (pow-succ' 2 k) ∙ sym (mul_assoc (2 ^ 23) 2 (2 ^ k)) ∙ ap (λ x. x * 2 ^ k) (sym e)

pub extent_at : (k q : ℕ) → q ≤ 2 ^ 24 → (0 < k → 2 ^ 23 ≤ q) → extent (k * 2 ^ 23 + q) ≡ q * 2 ^ k
extent_at k q most full = elim (eq-or-lt_of_le most) [ inl e ↦ carried k q e | inr l ↦ go k full l (ltb q (2 ^ 23)) refl ]
  where
    go : (k : ℕ) → (0 < k → 2 ^ 23 ≤ q) → q < 2 ^ 24 → (t : Bool) → ltb q (2 ^ 23) ≡ t → extent (k * 2 ^ 23 + q) ≡ q * 2 ^ k
    go zero full l true e = subnormal q (ltb-true q (2 ^ 23) e)
    go (suc k) full l true e = absurd (not-le_of_lt (ltb-true q (2 ^ 23) e) (full (zero-lt-suc k)))
    go k full l false e = normal k q (ltb-false q (2 ^ 23) e) l

-- ---- each pattern stands for more than the one before it

pub grows : (p : ℕ) → extent p < extent (suc p)
grows p = go (p / 2 ^ 23) refl
  where
    step : (k q : ℕ) → p ≡ k * 2 ^ 23 + q → q < 2 ^ 24 → (0 < k → 2 ^ 23 ≤ q) → extent p < extent (suc p)
    step k q e h full =
        rw (ap extent e ∙ extent_at k q (le_of_lt h) full, ap extent (next (k * 2 ^ 23) q p e) ∙ extent_at k (suc q) h (λ z. le_trans (full z) (le-suc q)))
        (mul-lt-mul_of_pos_right (lt-suc_self q) (pow_pos k))
      where
        next : (a q p : ℕ) → p ≡ a + q → suc p ≡ a + suc q
        next a q p e = omega arith

    first : (p : ℕ) → p / 2 ^ 23 ≡ 0 → p < 2 ^ 24
    first p e = omega arith

    go : (e : ℕ) → p / 2 ^ 23 ≡ e → extent p < extent (suc p)
    go zero e = step 0 p (sym (zero-add p)) (first p e) (λ z. absurd (lt_irrefl 0 z))
    go (suc k) e = step k (p - k * 2 ^ 23) (omega arith) (omega arith) (λ z. omega arith)

pub extent_mono : (p r : ℕ) → p ≤ r → extent p ≤ extent r
extent_mono p zero h = le_of_eq (ap extent (le-zero h))
extent_mono p (suc r) h = elim (eq-or-lt_of_le h) [
  | inl e ↦ le_of_eq (ap extent e)
  | inr l ↦ le_trans (extent_mono p r (le_of_suc-le-suc l)) (le_of_lt (grows r))
]

pub extent_less : (p r : ℕ) → p < r → extent p < extent r
extent_less p r h = lt_of_lt_of_le (grows p) (extent_mono (suc p) r h)

-- ---- the two patterns around n / d, and how far they are from it

-- how far two whole numbers are apart
abbrev pub apart : ℕ → ℕ → ℕ
apart a b = (a - b) + (b - a)

module _ (n d : ℕ) (D : 0 < d) where
  -- the larger pattern that is not above n / d
  abbrev pub floor : ℕ
  floor = dropped n d * 2 ^ 23 + kept n d

  abbrev pub rest : ℕ
  rest = n % unit n d

  unit_pos : 0 < unit n d
  unit_pos = mul-pos D (pow_pos (dropped n d))

  pub splits : n ≡ kept n d * unit n d + rest
  splits = sym (div-add-mod' n (unit n d))

  pub rest_less : rest < unit n d
  rest_less = mod-lt n unit_pos

  pub floor_is : extent floor * d ≡ kept n d * unit n d
  floor_is =
      let k = dropped n d in
      ap (λ x. x * d) (extent_at k (kept n d) (le_of_lt (kept_under n d)) (kept_full n d)) ∙ mul_assoc (kept n d) (2 ^ k) d ∙ ap (λ x. kept n d * x) (mul_comm (2 ^ k) d)

  pub next_is : extent (floor + 1) * d ≡ kept n d * unit n d + unit n d
  next_is =
      let k = dropped n d in
      let q = kept n d in
      ap (λ x. extent x * d) (next (k * 2 ^ 23) q)
      ∙ ap (λ x. x * d) (extent_at k (suc q) (kept_under n d) (λ z. le_trans (kept_full n d z) (le-suc q)))
      ∙ mul_assoc (suc q) (2 ^ k) d ∙ ap (λ x. suc q * x) (mul_comm (2 ^ k) d) ∙ suc-mul q (unit n d)
    where
      next : (a q : ℕ) → a + q + 1 ≡ a + suc q
      next a q = omega arith

  -- any other pattern
  pub before : (p : ℕ) → p < floor → extent p * d < kept n d * unit n d
  before p h = lt_of_lt_of_le (mul-lt-mul_of_pos_right (extent_less p floor h) D) (le_of_eq floor_is)

  pub after : (p : ℕ) → floor + 1 < p → kept n d * unit n d + unit n d < extent p * d
  after p h = subst (λ x. x < extent p * d) next_is (mul-lt-mul_of_pos_right (extent_less (floor + 1) p h) D)

  -- ---- the rounded pattern

  pub goes_down : rest * 2 < unit n d → unbounded n d ≡ floor
  unfolding unbounded
  goes_down h = ap (λ x. dropped n d * 2 ^ 23 + x) (nearest_low n (unit n d) h)

  pub goes_up : unit n d < rest * 2 → unbounded n d ≡ floor + 1
  unfolding unbounded
  goes_up h = ap (λ x. dropped n d * 2 ^ 23 + x) (nearest_high n (unit n d) h) ∙ sym (add_assoc (dropped n d * 2 ^ 23) (kept n d) 1)

  pub ties : rest * 2 ≡ unit n d → unbounded n d ≡ floor + kept n d % 2
  unfolding unbounded
  ties h = ap (λ x. dropped n d * 2 ^ 23 + x) (nearest_tie n (unit n d) h) ∙ sym (add_assoc (dropped n d * 2 ^ 23) (kept n d) (kept n d % 2))
