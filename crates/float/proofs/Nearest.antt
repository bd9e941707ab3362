-- The rounded pattern is the nearest: `rounded_to` meets `Nearest`, and no pattern of another number does.
-- Assumes nothing.
use mathlib.Core.Path.{◌≡◌, refl, ap, ap₂, sym, ◌∙◌}
use mathlib.Core.Logic.{◌⊎◌, inl, inr}
use mathlib.Core.Bool.{Bool, true, false, not, cond}
use Prim.Native.Nat.{ℕ, zero, suc, ◌+◌, ◌-◌, ◌*◌, ◌/◌, ◌%◌, ◌^◌, ◌≤◌, ◌<◌}
use native.Mathlib.Nat.{le_of_eq, le_of_lt, mul-pos, zero-mul, add-zero, add_comm, eq-zero-or-pos, min-eq_left}
use native.Mathlib.Decide.{ℕ_discrete}
use native.Mathlib.Omega.{arith}
use lib.Dec.{ltb}
use lib.IntN.{ℤ, pos, negsuc, neg_ℤ, nat_abs, ◌+ℤ◌, ◌-ℤ◌, ◌*ℤ◌, sub_ℕ, ℤ_discrete, neg_ℤ-neg_ℤ, neg_ℤ-+ℤ, +ℤ_comm}
use borrow.Author.Tests.{ltb-true, ltb-false, le-leb, lt-leb, leb-false}
use Rattle.float.specs.Patterns.{negative, aside, units, size_of, float_number}
use Rattle.float.specs.Rounding.{unbounded, rounded, infinity, with_sign, rounded_to, off, Nearest}
use Rattle.float.proofs.Digits.{unit, kept}
use Rattle.float.proofs.Steps.{number, minus_is, unbounded_none}
use Rattle.float.proofs.Infinite.{aside_rounded}
use Rattle.float.proofs.Extent.{order, extent, apart, floor, rest, splits, rest_less, floor_is, next_is, before, after, goes_down, goes_up, ties}

-- a pattern p lies before the two around a fraction, the first of which is f, at either, or after them
data Place (p f : ℕ) : Type 0 where
  earlier : p < f → Place p f
  at_floor : p ≡ f → Place p f
  at_next : p ≡ f + 1 → Place p f
  later : f + 1 < p → Place p f

place : (p f : ℕ) → Place p f
place p f = elim (order p f) [
  | inl h ↦ earlier h
  | inr (inl e) ↦ at_floor e
  | inr (inr h) ↦ elim (order p (f + 1)) [ inl g ↦ absurd (between p f h g) | inr (inl e) ↦ at_next e | inr (inr g) ↦ later g ]
]
  where
    between : (p f : ℕ) → f < p → p < f + 1 → ⊥
    between p f h g = omega arith

-- ---- patterns without their sign

module _ (n d : ℕ) (D : 0 < d) where
  abbrev chosen : ℕ
  chosen = unbounded n d

  -- the rounded pattern is nearer than p, or as near and even while p is odd
  abbrev Beats : ℕ → Type 0
  Beats p =
      (apart (extent chosen * d) n < apart (extent p * d) n)
      ⊎ ((apart (extent chosen * d) n ≡ apart (extent p * d) n) × (chosen % 2 ≡ 0) × (p % 2 ≡ 1))

  floored : (p : ℕ) → p ≡ floor n d D → extent p * d ≡ kept n d * unit n d
  floored p e = ap (λ x. extent x * d) e ∙ floor_is n d D

  nexted : (p : ℕ) → p ≡ floor n d D + 1 → extent p * d ≡ kept n d * unit n d + unit n d
  nexted p e = ap (λ x. extent x * d) e ∙ next_is n d D

  down : (p : ℕ) → rest n d D * 2 < unit n d → (p ≡ chosen → ⊥) → Place p (floor n d D) → Beats p
  down p h ne (earlier l) = inl (omega (arith, splits n d D, floored chosen (goes_down n d D h), before n d D p l))
  down p h ne (at_floor e) = absurd (ne (e ∙ sym (goes_down n d D h)))
  down p h ne (at_next e) = inl (omega (arith, splits n d D, floored chosen (goes_down n d D h), nexted p e))
  down p h ne (later l) = inl (omega (arith, splits n d D, floored chosen (goes_down n d D h), after n d D p l))

  up : (p : ℕ) → unit n d < rest n d D * 2 → (p ≡ chosen → ⊥) → Place p (floor n d D) → Beats p
  up p h ne (earlier l) = inl (omega (arith, splits n d D, rest_less n d D, nexted chosen (goes_up n d D h), before n d D p l))
  up p h ne (at_floor e) = inl (omega (arith, splits n d D, rest_less n d D, nexted chosen (goes_up n d D h), floored p e))
  up p h ne (at_next e) = absurd (ne (e ∙ sym (goes_up n d D h)))
  up p h ne (later l) = inl (omega (arith, splits n d D, rest_less n d D, nexted chosen (goes_up n d D h), after n d D p l))

  -- a tie: the even one of the two
  module _ (h : rest n d D * 2 ≡ unit n d) where
    abbrev odd : ℕ
    odd = kept n d % 2

    to_even : chosen % 2 ≡ 0
    to_even = omega (arith, ties n d D h)

    half_off : apart (extent chosen * d) n ≡ rest n d D
    half_off = go odd refl
      where
        more : (m o : ℕ) → m % 2 ≡ suc (suc o) → ⊥
        more m o e = omega arith

        go : (o : ℕ) → odd ≡ o → apart (extent chosen * d) n ≡ rest n d D
        go zero e = omega (arith, splits n d D, floored chosen (ties n d D h ∙ ap (λ x. floor n d D + x) e ∙ add-zero (floor n d D)))
        go (suc zero) e = omega (arith, splits n d D, nexted chosen (ties n d D h ∙ ap (λ x. floor n d D + x) e))
        go (suc (suc o)) e = absurd (more (kept n d) o e)

    tie : (p : ℕ) → (p ≡ chosen → ⊥) → Place p (floor n d D) → Beats p
    tie p ne (earlier l) = inl (omega (arith, half_off, splits n d D, before n d D p l))
    tie p ne (at_floor e) =
        let t = ties n d D h in
        let z : chosen ≡ floor n d D + 1 = omega arith in
        inr (omega (arith, half_off, splits n d D, floored p e), to_even, omega arith)
    tie p ne (at_next e) =
        let t = ties n d D h in
        let z : chosen ≡ floor n d D = omega arith in
        inr (omega (arith, half_off, splits n d D, nexted p e), to_even, omega arith)
    tie p ne (later l) = inl (omega (arith, half_off, splits n d D, after n d D p l))

  pub beats : (p : ℕ) → (p ≡ chosen → ⊥) → Beats p
  beats p ne = elim (order (rest n d D * 2) (unit n d)) [
    | inl h ↦ down p h ne (place p (floor n d D))
    | inr (inl h) ↦ tie h p ne (place p (floor n d D))
    | inr (inr h) ↦ up p h ne (place p (floor n d D))
  ]

-- ---- how far a number is from another, by sign and size

apart_is : (a b : ℕ) → nat_abs (sub_ℕ a b) ≡ apart a b
apart_is a b = go (ltb a b) refl
  where
    go : (t : Bool) → ltb a b ≡ t → nat_abs (cond t (negsuc (b - suc a)) (pos (a - b))) ≡ apart a b
    go true e = omega (arith, ltb-true a b e)
    go false e = omega (arith, ltb-false a b e)

times_neg : (a d : ℕ) → neg_ℤ (pos a) *ℤ pos d ≡ neg_ℤ (pos (a * d))
times_neg zero d = rw (zero-mul d) refl
times_neg (suc a) d = refl

pub abs_neg : (a : ℕ) → nat_abs (neg_ℤ (pos a)) ≡ a
abs_neg zero = refl
abs_neg (suc a) = refl

like_signs : (t : Bool) (a d n : ℕ) → nat_abs (number t a *ℤ pos d -ℤ number t n) ≡ apart (a * d) n
like_signs false a d n = ap nat_abs (minus_is (a * d) n) ∙ apart_is (a * d) n
like_signs true a d n =
    ap nat_abs (ap₂ (λ x y. x +ℤ y) (times_neg a d) (neg_ℤ-neg_ℤ (pos n)) ∙ +ℤ_comm (neg_ℤ (pos (a * d))) (pos n) ∙ minus_is n (a * d))
    ∙ apart_is n (a * d) ∙ add_comm (n - a * d) (a * d - n)

unlike_signs : (t : Bool) (a d n : ℕ) → nat_abs (number (not t) a *ℤ pos d -ℤ number t n) ≡ a * d + n
unlike_signs true a d n = ap (λ x. nat_abs (pos (a * d) +ℤ x)) (neg_ℤ-neg_ℤ (pos n))
unlike_signs false a d n = ap (λ x. nat_abs (x +ℤ neg_ℤ (pos n))) (times_neg a d) ∙ ap nat_abs (sym (neg_ℤ-+ℤ (pos (a * d)) (pos n))) ∙ abs_neg (a * d + n)

-- ---- a finite pattern with its sign

abbrev pub bare : ℕ → ℕ
bare y = y % 2 ^ 31

pub bare_number : (y : ℕ) → float_number y ≡ number (negative y) (extent (bare y))
unfolding float_number size_of extent
bare_number y = ap (number (negative y)) (ap₂ units (exponents y) (fractions y))
  where
    exponents : (y : ℕ) → y / 2 ^ 23 % 2 ^ 8 ≡ y % 2 ^ 31 / 2 ^ 23
    exponents y = omega arith

    fractions : (y : ℕ) → y % 2 ^ 23 ≡ y % 2 ^ 31 % 2 ^ 23
    fractions y = omega arith

parity : (y : ℕ) → y % 2 ≡ bare y % 2
parity y = omega arith

pub extent_none : extent 0 ≡ 0
unfolding extent units
extent_none = refl

zero_number : (s t : Bool) → number s 0 ≡ number t 0
zero_number true true = refl
zero_number true false = refl
zero_number false true = refl
zero_number false false = refl

-- ---- the nearest, by sign and size

module _ (t : Bool) (n d x : ℕ) (D : 0 < d) (is : float_number x ≡ number t (extent (unbounded n d))) (par : x % 2 ≡ unbounded n d % 2) where
  off_chosen : off (number t n) d x ≡ apart (extent (unbounded n d) * d) n
  unfolding off
  off_chosen = ap (λ v. nat_abs (v *ℤ pos d -ℤ number t n)) is ∙ like_signs t (extent (unbounded n d)) d n

  abbrev Wins : ℕ → Type 0
  Wins y = (off (number t n) d x < off (number t n) d y) ⊎ ((off (number t n) d x ≡ off (number t n) d y) × (x % 2 ≡ 0) × (y % 2 ≡ 1))

  on_its_side : (y : ℕ) → float_number y ≡ number t (extent (bare y)) → (float_number y ≡ float_number x → ⊥) → Wins y
  unfolding off
  on_its_side y e ne =
      let o : off (number t n) d y ≡ apart (extent (bare y) * d) n = ap (λ v. nat_abs (v *ℤ pos d -ℤ number t n)) e ∙ like_signs t (extent (bare y)) d n in
      elim (beats n d D (bare y) (λ q. ne (e ∙ ap (λ p. number t (extent p)) q ∙ sym is))) [
        | inl h ↦ inl (rw (off_chosen, o) h)
        | inr h ↦ inr (off_chosen ∙ h.0 ∙ sym o, par ∙ h.1, parity y ∙ h.2)
      ]

  -- no further off than 0 is
  no_further : off (number t n) d x ≤ n
  no_further = go (ℕ_discrete 0 (unbounded n d))
    where
      none : apart (extent 0 * d) n ≡ n
      none = ap (λ a. apart (a * d) n) extent_none ∙ ap (λ a. apart a n) (zero-mul d) ∙ omega arith

      go : Dec (0 ≡ unbounded n d) → off (number t n) d x ≤ n
      go (yes e) = le_of_eq (off_chosen ∙ ap (λ p. apart (extent p * d) n) (sym e) ∙ none)
      go (no ne) = elim (beats n d D 0 ne) [
        | inl h ↦ le_of_lt (rw (off_chosen) (rw none at h))
        | inr h ↦ le_of_eq (off_chosen ∙ h.0 ∙ none)
      ]

  across : (y : ℕ) → float_number y ≡ number (not t) (extent (bare y)) → 0 < extent (bare y) → Wins y
  unfolding off
  across y e h =
      let o : off (number t n) d y ≡ extent (bare y) * d + n = ap (λ v. nat_abs (v *ℤ pos d -ℤ number t n)) e ∙ unlike_signs t (extent (bare y)) d n in
      inl (omega (arith, no_further, o, mul-pos h D))

  pub nearest_at : Nearest (number t n) d x
  nearest_at y Y a ne = side (negative y) refl
    where
      same_side : (s : Bool) → negative y ≡ s → s ≡ t → Wins y
      same_side s e q = on_its_side y (bare_number y ∙ ap (λ b. number b (extent (bare y))) (e ∙ q)) ne

      other_side : negative y ≡ not t → Wins y
      other_side e = elim (eq-zero-or-pos (extent (bare y))) [
        | inl z ↦ on_its_side y (bare_number y ∙ ap (number (negative y)) z ∙ zero_number (negative y) t ∙ ap (number t) (sym z)) ne
        | inr p ↦ across y (bare_number y ∙ ap (λ b. number b (extent (bare y))) e) p
      ]

      either : (s t : Bool) → (s ≡ t) ⊎ (s ≡ not t)
      either true true = inl refl
      either true false = inr refl
      either false true = inr refl
      either false false = inl refl

      side : (s : Bool) → negative y ≡ s → Wins y
      side s e = elim (either s t) [ inl q ↦ same_side s e q | inr q ↦ other_side (e ∙ q) ]

-- ---- the rounded pattern

with_sign_number : (t : Bool) (u : ℕ) → u < infinity → float_number (with_sign t u) ≡ number t (extent u)
with_sign_number t u h = bare_number (with_sign t u) ∙ ap₂ (λ b p. number b (extent p)) (sign t) (size t)
  where
    sign : (t : Bool) → negative (with_sign t u) ≡ t
    sign true = le-leb (2 ^ 31) (2 ^ 31 + u) (omega arith)
    sign false = lt-leb (2 ^ 31) (0 + u) (omega arith)

    size : (t : Bool) → bare (with_sign t u) ≡ u
    size true = omega arith
    size false = omega arith

module _ (t : Bool) (n d : ℕ) (D : 0 < d) (a : aside (with_sign t (rounded n d)) ≡ false) where
  finite : unbounded n d < infinity
  unfolding rounded
  finite = leb-false infinity (unbounded n d) (sym (aside_rounded t (unbounded n d)) ∙ a)

  chosen_is : rounded n d ≡ unbounded n d
  unfolding rounded
  chosen_is = min-eq_left (le_of_lt finite)

  nearest_signed : Nearest (number t n) d (with_sign t (rounded n d))
  nearest_signed =
      nearest_at t n d (with_sign t (rounded n d)) D (ap (λ u. float_number (with_sign t u)) chosen_is ∙ with_sign_number t (unbounded n d) finite)
      (even t (rounded n d) ∙ ap (λ u. u % 2) chosen_is)
    where
      even : (t : Bool) (u : ℕ) → with_sign t u % 2 ≡ u % 2
      even true u = omega arith
      even false u = omega arith

zero_is : (s : Bool) → float_number (with_sign s 0) ≡ pos 0
unfolding float_number size_of units
zero_is true = refl
zero_is false = refl

zero_even : (s : Bool) → with_sign s 0 % 2 ≡ 0
zero_even true = refl
zero_even false = refl

pub is_nearest : (s : Bool) (z : ℤ) (d : ℕ) → 0 < d → aside (rounded_to s z d) ≡ false → Nearest z d (rounded_to s z d)
unfolding rounded_to
is_nearest s (pos zero) d D a =
    nearest_at false 0 d (with_sign s 0) D (zero_is s ∙ sym (ap (λ u. pos (extent u)) (unbounded_none d D) ∙ ap pos extent_none))
    (zero_even s ∙ sym (ap (λ u. u % 2) (unbounded_none d D)))
is_nearest s (pos (suc n)) d D a = nearest_signed false (suc n) d D a
is_nearest s (negsuc n) d D a = nearest_signed true (suc n) d D a

-- two finite patterns that are the nearest stand for one number
pub one_nearest : (z : ℤ) (d x y : ℕ) → x < 2 ^ 32 → aside x ≡ false → Nearest z d x → y < 2 ^ 32 → aside y ≡ false → Nearest z d y → float_number x ≡ float_number y
one_nearest z d x y X a p Y b q = go (ℤ_discrete (float_number x) (float_number y))
  where
    clash : (m n i j : ℕ) → (m < n) ⊎ ((m ≡ n) × (i ≡ 0) × (j ≡ 1)) → (n < m) ⊎ ((n ≡ m) × (j ≡ 0) × (i ≡ 1)) → ⊥
    clash m n i j (inl h) (inl k) = omega arith
    clash m n i j (inl h) (inr k) = omega arith
    clash m n i j (inr h) (inl k) = omega arith
    clash m n i j (inr h) (inr k) = omega arith

    go : Dec (float_number x ≡ float_number y) → float_number x ≡ float_number y
    go (yes e) = e
    go (no ne) = absurd (clash (off z d x) (off z d y) (x % 2) (y % 2) (p y Y b (λ e. ne (sym e))) (q x X a ne))
