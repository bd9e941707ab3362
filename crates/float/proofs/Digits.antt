-- The digits that rounding keeps: at most 24 of them, and all 24 where any are dropped.
-- Assumes nothing.
use mathlib.Core.Path.{◌≡◌, refl, sym, subst}
use mathlib.Core.Bool.{Bool, true, false, not, cond}
use Prim.Native.Nat.{ℕ, suc, ◌+◌, ◌*◌, ◌/◌, ◌%◌, ◌^◌, ◌≤◌, ◌<◌, compare, Ordering}
use native.Mathlib.Nat.{le_trans, le_of_eq, le_of_lt, lt_of_lt_of_le, lt_of_le_of_lt, le_of_suc-le-suc, lt_of_not-le, lt_irrefl, le_antisymm, div-div-eq-div-mul, le-div_iff_mul-le}
use native.Mathlib.Numerals.{add-one}
use native.Mathlib.Omega.{arith}
use lib.Arith.{lt_of_le-ne}
use lib.Dec.{T, ltb, is_le, compare_is_eq, eqb, leb→le, nleb→lt, eqb→eq, eqb_refl}
use lib.Pow.{pow-add, pow-lt, pow_mono, pow_pos}
use lib.Ieee as ieee
use lib.Ieee.{size}
use lib.Ieee.Digits.{size-lt, size-le, size_reaches}
use lib.Ieee.Fits.{kept-lt}
use lib.Ieee.Nearest.{closest}
use borrow.Author.Tests.{lt-ltb, le-ltb}
use Rattle.float.specs.Rounding.{nearest_even, dropped}

-- ---- the nearest whole number, as the kit has it

module _ (x d q : ℕ) where
  by_order : (o : Ordering) → (T (is_le o) → x ≤ d) → (T (not (is_le o)) → d < x) → (T (compare_is_eq o) → x ≡ d) → (x ≡ d → T (compare_is_eq o))
      → ieee.nearest q o ≡ cond (ltb x d) q (cond (ltb d x) (q + 1) (q + q % 2))
  by_order Ordering.lt h k e r = rw (lt-ltb x d (lt_of_le-ne (h tt) r)) refl
  by_order Ordering.eq h k e r = rw (le-ltb x d (le_of_eq (sym (e tt))), le-ltb d x (le_of_eq (e tt))) refl
  by_order Ordering.gt h k e r = rw (le-ltb x d (le_of_lt (k tt)), lt-ltb d x (k tt)) (sym (add-one q))

pub nearest_is : (n d : ℕ) → closest n d ≡ nearest_even n d
unfolding nearest_even
nearest_is n d =
    let x = n % d * 2 in
    by_order x d (n / d) (compare x d) (leb→le x d) (nleb→lt x d) (eqb→eq x d) (λ e. subst (λ (y : ℕ). T (eqb x y)) e (eqb_refl x))

-- ---- powers of two

pub power_le : (i j : ℕ) → 2 ^ i ≤ 2 ^ j → i ≤ j
power_le i j h = le_of_suc-le-suc (lt_of_not-le (λ g. lt_irrefl (2 ^ j) (lt_of_lt_of_le (pow-lt g) h)))

pub power_lt : (i j : ℕ) → 2 ^ i < 2 ^ j → i < j
power_lt i j h = lt_of_not-le (λ g. lt_irrefl (2 ^ i) (lt_of_lt_of_le h (pow_mono g)))

pub size_at : (n j : ℕ) → 2 ^ j ≤ n → n < 2 ^ suc j → size n ≡ suc j
size_at n j lo hi = le_antisymm (size-le n (suc j) hi) (power_lt j (size n) (lt_of_le_of_lt lo (size-lt n)))

-- ---- what is kept of n / d

module _ (n d : ℕ) where
  abbrev pub unit : ℕ
  unit = d * 2 ^ dropped n d

  abbrev pub kept : ℕ
  kept = n / unit

  pub kept_under : kept < 2 ^ 24
  unfolding dropped
  kept_under = subst (λ (x : ℕ). x < 2 ^ 24) (div-div-eq-div-mul n d (2 ^ dropped n d)) (kept-lt 24 (n / d))

  pub kept_full : 0 < dropped n d → 2 ^ 23 ≤ kept
  unfolding dropped
  kept_full h =
      let k = dropped n d in
      let all : 2 ^ 23 * 2 ^ k ≤ n / d = le_trans (le_of_eq (sym (pow-add 2 23 k))) (size_reaches (n / d) (23 + k) (omega arith)) in
      subst (λ (x : ℕ). 2 ^ 23 ≤ x) (div-div-eq-div-mul n d (2 ^ k)) ((le-div_iff_mul-le (pow_pos k)).1 all)

-- ---- the nearest is what is kept, or one more

module _ (n d : ℕ) where
  pub nearest_low : n % d * 2 < d → nearest_even n d ≡ n / d
  unfolding nearest_even
  nearest_low h = rw (lt-ltb (n % d * 2) d h) refl

  pub nearest_high : d < n % d * 2 → nearest_even n d ≡ n / d + 1
  unfolding nearest_even
  nearest_high h = rw (le-ltb (n % d * 2) d (omega arith), lt-ltb d (n % d * 2) h) refl

  pub nearest_tie : n % d * 2 ≡ d → nearest_even n d ≡ n / d + n / d % 2
  unfolding nearest_even
  nearest_tie h = rw (le-ltb (n % d * 2) d (omega arith), le-ltb d (n % d * 2) (omega arith)) refl

  pub nearest_bounds : (n / d ≤ nearest_even n d) × (nearest_even n d ≤ n / d + 1)
  unfolding nearest_even
  nearest_bounds = go (ltb (n % d * 2) d) (ltb d (n % d * 2))
    where
      go : (s t : Bool) → let r = cond s (n / d) (cond t (n / d + 1) (n / d + n / d % 2)) in (n / d ≤ r) × (r ≤ n / d + 1)
      go true t = (omega arith, omega arith)
      go false true = (omega arith, omega arith)
      go false false = (omega arith, omega arith)
