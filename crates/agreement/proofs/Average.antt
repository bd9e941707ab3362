-- The average's laws. The fraction is dropped toward zero: n times the mean's distance from zero does not pass the sum's, n times one more does,
-- and the mean is on the sum's side or zero. It lies between any two bounds between which all instances lie, since sums and quotients keep the
-- order, and n times a bound divided by n is the bound. And there is an average exactly of one to eight instances that messages hold.
-- Assumes nothing.
use mathlib.Core.Path.{◌≡◌, refl, ◌∙◌}
use mathlib.Core.Bool.{Bool, true, false, and-eq-true_iff}
use mathlib.Core.List.{List, [], ◌∷◌}
use mathlib.Core.Logic.{◌↔◌}
use Prim.Native.Nat.{ℕ, suc, ◌+◌, ◌*◌, ◌<◌, ◌≤◌}
use native.Mathlib.Nat.{zero-div}
use native.Mathlib.Omega.{arith}
use lib.IntN.{ℤ, pos, nat_abs, ◌+ℤ◌, ◌*ℤ◌, +ℤ_comm, suc_ℤ-*ℤ, zero-*ℤ}
use lib.ListN.{length}
use lib.Signed.{le_z}
use Rattle.std.specs.Prelude.{Some}
use Rattle.whole.specs.Whole.{all_of}
use Rattle.agreement.specs.Agreement.{sum_of, mean_of, between, message_values, average}
use Rattle.agreement.proofs.MessageValues.{no_mean, has_mean}
use Rattle.agreement.proofs.Quotient.{sum_order, quotient_toward_zero, quotient_exact, quotient_order}

-- ---- toward zero

-- |mean| * n ≤ |sum| < |mean| * n + n, over n instances
pub mean_toward_zero : (l : List ℤ) → 0 < length l
    → (nat_abs (mean_of l) * length l ≤ nat_abs (sum_of l)) × (nat_abs (sum_of l) < nat_abs (mean_of l) * length l + length l)
unfolding mean_of
mean_toward_zero l p = quotient_toward_zero (length l) p (sum_of l)

-- on the sum's side of zero, or zero
pub mean_sign : (l : List ℤ) → 0 < length l
    → (le_z (pos 0) (sum_of l) ≡ true → le_z (pos 0) (mean_of l) ≡ true) × (le_z (sum_of l) (pos 0) ≡ true → le_z (mean_of l) (pos 0) ≡ true)
unfolding mean_of
mean_sign l p = (
  λ h. rw (zero-div (length l)) at (quotient_order (length l) p (pos 0) (sum_of l) h),
  λ h. rw (zero-div (length l)) at (quotient_order (length l) p (sum_of l) (pos 0) h),
)

-- ---- between the least and the greatest instance

sum_between : (lo hi : ℤ) (l : List ℤ) → all_of (between lo hi) l ≡ true
    → (le_z (pos (length l) *ℤ lo) (sum_of l) ≡ true) × (le_z (sum_of l) (pos (length l) *ℤ hi) ≡ true)
unfolding all_of sum_of
sum_between lo hi [] t = (rw zero-*ℤ refl, rw zero-*ℤ refl)
sum_between lo hi (v ∷ l) t =
    let parts = (and-eq-true_iff (between lo hi v) (all_of (between lo hi) l)).0 t in
    let bounds = (and-eq-true_iff (le_z lo v) (le_z v hi)).0 parts.0 in
    let sums = sum_between lo hi l parts.1 in (
      rw (once_more lo) (sum_order lo v (pos (length l) *ℤ lo) (sum_of l) bounds.0 sums.0),
      rw (once_more hi) (sum_order v hi (sum_of l) (pos (length l) *ℤ hi) bounds.1 sums.1),
    )
  where
    once_more : (m : ℤ) → pos (suc (length l)) *ℤ m ≡ m +ℤ pos (length l) *ℤ m
    once_more m = suc_ℤ-*ℤ (pos (length l)) m ∙ +ℤ_comm (pos (length l) *ℤ m) m

pub mean_between : (lo hi : ℤ) (l : List ℤ) → 0 < length l → all_of (between lo hi) l ≡ true → between lo hi (mean_of l) ≡ true
unfolding mean_of
mean_between lo hi l p t =
    let n = length l in
    let sums = sum_between lo hi l t in
    let low = rw (quotient_exact n p lo) at (quotient_order n p (pos n *ℤ lo) (sum_of l) sums.0) in
    let high = rw (quotient_exact n p hi) at (quotient_order n p (sum_of l) (pos n *ℤ hi) sums.1) in
    rw low high

-- ---- one to eight instances that messages hold have an average, and nothing else has

pub average_value : (l : List ℤ) (v : ℤ) → (average l ≡ Some v) ↔ ((message_values l ≡ true) × (v ≡ mean_of l))
average_value l v = (go (message_values l) refl, λ h. let f = has_mean l h.0 in cc)
  where
    go : (t : Bool) → message_values l ≡ t → average l ≡ Some v → (message_values l ≡ true) × (v ≡ mean_of l)
    go true g e = let f = has_mean l g in (g, cc)
    go false g e = let f = no_mean l g in let z : ◌≡◌ {A = ℕ} 0 1 = cc in absurd (omega arith)
