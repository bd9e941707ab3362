-- A finite pattern is what its own number is rounded to, its sign included: it is nearest to that number, and one pattern of a sign has one number.
-- Assumes nothing.
use mathlib.Core.Path.{◌≡◌, refl, ap, sym, ◌∙◌}
use mathlib.Core.Logic.{inl, inr}
use mathlib.Core.Bool.{Bool, true, false, cond, true≢false}
use Prim.Native.Nat.{ℕ, zero, suc, ◌%◌, ◌/◌, ◌^◌, ◌<◌, ◌≤◌, min}
use native.Mathlib.Nat.{mul-one, le_trans, le_of_eq, lt_of_le_of_lt, lt_irrefl, lt_of_lt_of_le}
use native.Mathlib.Omega.{arith}
use lib.Dec.{leb, lit<}
use lib.IntN.{ℤ, pos, negsuc, nat_abs, ◌+ℤ◌, ◌-ℤ◌, ◌*ℤ◌, *ℤ-one, +ℤ_invr, -ℤ-+ℤ_cancel, +ℤ_idl, one}
use lib.Signed.{lt_z}
use borrow.Author.Tests.{eqb-false, leb-true, leb-false, lt-leb}
use Rattle.whole.specs.Whole.{eq_z}
use Rattle.float.specs.Patterns.{negative, aside, units, size_of, float_number}
use Rattle.float.specs.Rounding.{unbounded, rounded, infinity, with_sign, rounded_to, off, Nearest, half_past, plus, over}
use Rattle.float.proofs.Steps.{number}
use Rattle.float.proofs.Extent.{order, extent, extent_mono, extent_less}
use Rattle.float.proofs.Infinite.{infinite_from}
use Rattle.float.proofs.Nearest.{abs_neg, bare, bare_number, is_nearest, one_nearest}
use Rattle.float.proofs.Signs.{sign_is, own_sign}

-- ---- what is rounded has 32 bits

pub rounded_small : (s : Bool) (z : ℤ) (d : ℕ) → rounded_to s z d < 2 ^ 32
unfolding rounded_to rounded
rounded_small s (pos zero) d = go s
  where
    go : (t : Bool) → with_sign t 0 < 2 ^ 32
    go true = lit< tt
    go false = lit< tt
rounded_small s (pos (suc n)) d = go (unbounded (suc n) d)
  where
    go : (u : ℕ) → with_sign false (min u infinity) < 2 ^ 32
    go u = omega arith
rounded_small s (negsuc n) d = go (unbounded (suc n) d)
  where
    go : (u : ℕ) → with_sign true (min u infinity) < 2 ^ 32
    go u = omega arith

pub over_small : (x n : ℕ) → aside (over x n) ≡ false → over x n < 2 ^ 32
unfolding over
over_small x n = go (aside x) refl
  where
    go : (b : Bool) → aside x ≡ b → let r = cond b x (rounded_to (negative x) (float_number x) n) in aside r ≡ false → r < 2 ^ 32
    go true e f = absurd (true≢false (sym e ∙ f))
    go false e f = rounded_small (negative x) (float_number x) n

-- ---- a number is at its own pattern

own_off : (x : ℕ) → off (float_number x) 1 x ≡ 0
unfolding off one
own_off x = ap (λ z. nat_abs (z -ℤ float_number x)) (*ℤ-one (float_number x)) ∙ ap nat_abs (+ℤ_invr (float_number x))

no_size : (z : ℤ) → nat_abs z ≡ 0 → z ≡ pos 0
no_size (pos n) e = ap pos e
no_size (negsuc n) e = absurd (none n e)
  where
    none : (n : ℕ) → suc n ≡ 0 → ⊥
    none n e = omega arith

none_off : (z : ℤ) (y : ℕ) → off z 1 y ≡ 0 → float_number y ≡ z
unfolding off one
none_off z y e =
    let d = no_size (float_number y *ℤ pos 1 -ℤ z) e in
    sym (*ℤ-one (float_number y)) ∙ sym (-ℤ-+ℤ_cancel (float_number y *ℤ pos 1) z) ∙ ap (λ a. a +ℤ z) d ∙ +ℤ_idl z

own_nearest : (x : ℕ) → Nearest (float_number x) 1 x
own_nearest x y Y a ne = inl (nearer _ _ (own_off x) (λ e. ne (none_off (float_number x) y e)))
  where
    nearer : (m n : ℕ) → m ≡ 0 → (n ≡ 0 → ⊥) → m < n
    nearer m n e h = omega arith

-- ---- it is finite

abbrev largest : ℕ
largest = 0x7f7f_ffff

largest_below : extent largest < half_past
unfolding extent units
largest_below = lit< tt

module _ (x : ℕ) (a : aside x ≡ false) where
  within_largest : bare x ≤ largest
  unfolding aside
  within_largest = small x (eqb-false (x / 2 ^ 23 % 2 ^ 8) 255 a)
    where
      small : (x : ℕ) → (x / 2 ^ 23 % 2 ^ 8 ≡ 255 → ⊥) → x % 2 ^ 31 ≤ 0x7f7f_ffff
      small x h = omega arith

  number_size : nat_abs (float_number x) ≡ extent (bare x)
  number_size = ap nat_abs (bare_number x) ∙ go (negative x)
    where
      go : (t : Bool) → nat_abs (number t (extent (bare x))) ≡ extent (bare x)
      go true = abs_neg (extent (bare x))
      go false = refl

  below_half : nat_abs (float_number x) < half_past
  below_half = lt_of_le_of_lt (le_trans (le_of_eq number_size) (extent_mono (bare x) largest within_largest)) largest_below

  rounded_finite : (s : Bool) → aside (rounded_to s (float_number x) 1) ≡ false
  rounded_finite s = infinite_from s (float_number x) 1 (lit< tt) ∙ ap (λ h. leb h (nat_abs (float_number x))) (mul-one half_past) ∙ lt-leb half_past _ below_half

-- ---- one pattern of a sign has one number

same_extent : (p q : ℕ) → extent p ≡ extent q → p ≡ q
same_extent p q e = elim (order p q) [
  | inl h ↦ absurd (lt_irrefl (extent p) (lt_of_lt_of_le (extent_less p q h) (le_of_eq (sym e))))
  | inr (inl h) ↦ h
  | inr (inr h) ↦ absurd (lt_irrefl (extent q) (lt_of_lt_of_le (extent_less q p h) (le_of_eq e)))
]

same_number : (s : Bool) (a b : ℕ) → number s a ≡ number s b → a ≡ b
same_number true a b e = sym (abs_neg a) ∙ ap nat_abs e ∙ abs_neg b
same_number false a b e = ap nat_abs e

pub same_pattern : (x y : ℕ) → x < 2 ^ 32 → y < 2 ^ 32 → negative x ≡ negative y → float_number x ≡ float_number y → x ≡ y
same_pattern x y X Y s e =
    let sizes = same_number (negative y) (extent (bare x)) (extent (bare y)) (ap (λ t. number t (extent (bare x))) (sym s) ∙ sym (bare_number x) ∙ e ∙ bare_number y) in
    go (negative y) refl (same_extent (bare x) (bare y) sizes)
  where
    upper : (x y : ℕ) → x < 2 ^ 32 → y < 2 ^ 32 → 2 ^ 31 ≤ x → 2 ^ 31 ≤ y → x % 2 ^ 31 ≡ y % 2 ^ 31 → x ≡ y
    upper x y X Y h k e = omega arith

    lower : (x y : ℕ) → x < 2 ^ 31 → y < 2 ^ 31 → x % 2 ^ 31 ≡ y % 2 ^ 31 → x ≡ y
    lower x y h k e = omega arith

    go : (t : Bool) → negative y ≡ t → bare x ≡ bare y → x ≡ y
    go true t b = upper x y X Y (leb-true (2 ^ 31) x (s ∙ t)) (leb-true (2 ^ 31) y t) b
    go false t b = lower x y (leb-false (2 ^ 31) x (s ∙ t)) (leb-false (2 ^ 31) y t) b

pub rounds_to_itself : (x : ℕ) → x < 2 ^ 32 → aside x ≡ false → rounded_to (negative x) (float_number x) 1 ≡ x
rounds_to_itself x X a =
    let s = negative x in
    let z = float_number x in
    let r = rounded_to s z 1 in
    let finite = rounded_finite x a s in
    let sign = sign_is s z 1 ∙ ap (λ y. cond (eq_z y (pos 0)) s (lt_z y (pos 0))) (bare_number x) ∙ own_sign s (extent (bare x)) in
    same_pattern r x (rounded_small s z 1) X sign
    (one_nearest z 1 r x (rounded_small s z 1) finite (is_nearest s z 1 (lit< tt) finite) X a (own_nearest x))

-- so a finite pattern divided by 1 is itself
pub over_one : (x : ℕ) → x < 2 ^ 32 → aside x ≡ false → over x 1 ≡ x
unfolding over
over_one x X a = rw a (rounds_to_itself x X a)

-- and what is added to -0 is itself
pub minus_zero_plus : (x : ℕ) → x < 2 ^ 32 → aside x ≡ false → plus (2 ^ 31) x ≡ x
unfolding plus aside float_number size_of units
minus_zero_plus x X a = ap (λ z. rounded_to (negative x) z 1) (+ℤ_idl (float_number x)) ∙ rounds_to_itself x X a
