-- Patterns have the order of their numbers by rank too: all of them, those set aside included.
-- Assumes nothing.
use mathlib.Core.Path.{◌≡◌, refl, ap, ap₂, sym, ◌∙◌}
use mathlib.Core.Bool.{Bool, true, false, ◌||◌, cond}
use Prim.Native.Nat.{ℕ, zero, suc, ◌+◌, ◌%◌, ◌^◌, ◌≤◌, ◌<◌}
use native.Mathlib.Nat.{le_trans, le_of_eq, mod-eq_of_lt, zero-add}
use native.Mathlib.Omega.{arith}
use lib.Dec.{ltb, leb-suc-suc}
use lib.IntN.{pos, neg_ℤ, nat_abs, ◌+ℤ◌, ◌-ℤ◌, neg_ℤ-+ℤ, +ℤ_assoc, +ℤ_invr, +ℤ_idl}
use lib.Ieee as ieee
use lib.Signed.{lt_z}
use borrow.Author.Tests.{ltb-true, ltb-false, lt-ltb, le-ltb, le-leb, lt-leb}
use Rattle.float.specs.Patterns.{negative, float_number, rank_of}
use Rattle.float.proofs.Steps.{number}
use Rattle.float.proofs.Extent.{extent, extent_mono, extent_less}
use Rattle.float.proofs.Nearest.{abs_neg, bare, bare_number, extent_none}

-- ---- without the sign

size_order : (p q : ℕ) → ltb (extent p) (extent q) ≡ ltb p q
size_order p q = go (ltb p q) refl
  where
    go : (t : Bool) → ltb p q ≡ t → ltb (extent p) (extent q) ≡ t
    go true e = lt-ltb (extent p) (extent q) (extent_less p q (ltb-true p q e))
    go false e = le-ltb (extent p) (extent q) (extent_mono q p (ltb-false p q e))

-- a sum is 0 exactly if both parts are
some_of : (a b : ℕ) → ltb 0 (a + b) ≡ (ltb 0 a || ltb 0 b)
some_of a b = go (ltb 0 a) refl (ltb 0 b) refl
  where
    go : (s : Bool) → ltb 0 a ≡ s → (t : Bool) → ltb 0 b ≡ t → ltb 0 (a + b) ≡ (s || t)
    go true e t f = lt-ltb 0 (a + b) (omega (arith, ltb-true 0 a e))
    go false e true f = lt-ltb 0 (a + b) (omega (arith, ltb-true 0 b f))
    go false e false f = le-ltb 0 (a + b) (omega (arith, ltb-false 0 a e, ltb-false 0 b f))

some_size : (p : ℕ) → ltb 0 (extent p) ≡ ltb 0 p
some_size p = ap (λ z. ltb z (extent p)) (sym extent_none) ∙ size_order 0 p

-- ---- with it

below_signs : (s t : Bool) (a b : ℕ) → ieee.below s a t b ≡ lt_z (number s a) (number t b)
below_signs false false a b = refl
below_signs false true a zero = sym (le-ltb a 0 (omega arith))
below_signs false true a (suc b) = refl
below_signs true false zero b = ap (ltb 0) (zero-add b)
below_signs true false (suc a) b = lt-ltb 0 (suc a + b) (omega arith)
below_signs true true zero zero = refl
below_signs true true zero (suc b) = le-ltb (suc b) 0 (omega arith)
below_signs true true (suc a) zero = lt-ltb 0 (suc a) (omega arith)
below_signs true true (suc a) (suc b) = leb-suc-suc (suc b) a

signs_below : (s t : Bool) (p q : ℕ) → ieee.below s (extent p) t (extent q) ≡ ieee.below s p t q
signs_below false false p q = size_order p q
signs_below false true p q = refl
signs_below true false p q = some_of (extent p) (extent q) ∙ ap₂ (λ x y. x || y) (some_size p) (some_size q) ∙ sym (some_of p q)
signs_below true true p q = size_order q p

pub rank_below : (x y : ℕ) → lt_z (rank_of x) (rank_of y) ≡ lt_z (float_number x) (float_number y)
unfolding rank_of
rank_below x y =
    sym (below_signs (negative x) (negative y) (bare x) (bare y))
    ∙ sym (signs_below (negative x) (negative y) (bare x) (bare y))
    ∙ below_signs (negative x) (negative y) (extent (bare x)) (extent (bare y))
    ∙ ap₂ lt_z (sym (bare_number x)) (sym (bare_number y))

-- ---- counted down from h: h less h + m

pub counted_down : (h m : ℕ) → pos h -ℤ pos (h + m) ≡ neg_ℤ (pos m)
counted_down h m =
    ap (λ z. pos h +ℤ z) (neg_ℤ-+ℤ (pos h) (pos m)) ∙ sym (+ℤ_assoc (pos h) (neg_ℤ (pos h)) (neg_ℤ (pos m))) ∙ ap (λ z. z +ℤ neg_ℤ (pos m)) (+ℤ_invr (pos h)) ∙ +ℤ_idl (neg_ℤ (pos m))

pub rank_low : (x : ℕ) → x < 2 ^ 31 → rank_of x ≡ pos x
unfolding rank_of
rank_low x h = rw (lt-leb (2 ^ 31) x h) (ap pos (mod-eq_of_lt h))

pub rank_high : (x : ℕ) → 2 ^ 31 ≤ x → x < 2 ^ 32 → rank_of x ≡ pos (2 ^ 31) -ℤ pos x
unfolding rank_of
rank_high x h k = rw (le-leb (2 ^ 31) x h) (sym (counted_down (2 ^ 31) (x % 2 ^ 31)) ∙ ap (λ y. pos (2 ^ 31) -ℤ pos y) (whole x h k))
  where
    whole : (x : ℕ) → 2 ^ 31 ≤ x → x < 2 ^ 32 → 2 ^ 31 + x % 2 ^ 31 ≡ x
    whole x h k = omega arith

pub rank_small : (x : ℕ) → nat_abs (rank_of x) ≤ 2 ^ 31
unfolding rank_of
rank_small x = go (negative x)
  where
    mod_small : (x : ℕ) → x % 2 ^ 31 ≤ 2 ^ 31
    mod_small x = omega arith

    go : (t : Bool) → nat_abs (cond t (neg_ℤ (pos (x % 2 ^ 31))) (pos (x % 2 ^ 31))) ≤ 2 ^ 31
    go true = le_trans (le_of_eq (abs_neg (x % 2 ^ 31))) (mod_small x)
    go false = mod_small x
