-- Laws of counting how many of the numbers below n pass a test.
-- Assumes nothing.
use mathlib.Core.Path.{◌≡◌, refl, sym, ◌∙◌}
use mathlib.Core.Bool.{Bool, true, false, cond, true≢false}
use mathlib.Core.Logic.{◌↔◌}
use Prim.Native.Nat.{ℕ, zero, suc, ◌+◌, ◌-◌, ◌*◌, ◌<◌, ◌≤◌}
use native.Mathlib.Nat.{add-zero, add-suc, zero-add, mul-one, mul-zero}
use native.Mathlib.Omega.{arith}
use Rattle.record.specs.Numbers.{tally}
use Rattle.record.proofs.Tests.{to_last}

-- where the test says the same of all d numbers from a on
pub tally_run : (p : ℕ → Bool) (b : Bool) (a d : ℕ) → ((k : ℕ) → k < d → p (a + k) ≡ b) → tally p (a + d) ≡ tally p a + d * cond b 1 0
unfolding tally
tally_run p b a zero h = rw add-zero (omega arith)
tally_run p b a (suc d) h = rw (add-suc, h d (omega arith)) (omega (arith, tally_run p b a d (λ k l. h k (omega arith))))

pub ruleset sums = (zero-add, add-zero, mul-one, mul-zero)

pub tally_none : (p : ℕ → Bool) (n : ℕ) → ((k : ℕ) → k < n → p k ≡ false) → tally p n ≡ 0
unfolding tally
tally_none p n h = simp sums at (tally_run p false 0 n (λ k l. rw zero-add (h k l)))

-- n numbers more do not lower the count, and raise it by no more than n
pub tally_grows : (p : ℕ → Bool) (a n : ℕ) → (tally p a ≤ tally p (a + n)) × (tally p (a + n) ≤ tally p a + n)
unfolding tally
tally_grows p a zero = rw (add-zero a) (omega arith)
tally_grows p a (suc n) = rw (add-suc a n) (one_more (p (a + n)) (tally_grows p a n))
  where
    one_more :
        (b : Bool) → (tally p a ≤ tally p (a + n)) × (tally p (a + n) ≤ tally p a + n)
        → (tally p a ≤ tally p (a + n) + cond b 1 0) × (tally p (a + n) + cond b 1 0 ≤ tally p a + suc n)
    one_more true h = omega arith
    one_more false h = omega arith

-- so no fewer pass below a greater number
pub tally_rises : (p : ℕ → Bool) (a n : ℕ) → a ≤ n → tally p a ≤ tally p n
tally_rises p a n h = let there : a + (n - a) ≡ n = omega arith in rw there at (tally_grows p a (n - a)).0

-- if k passes, fewer than x did before it
abbrev pub Fewer : (ℕ → Bool) → ℕ → ℕ → Type 0
Fewer p x k = p k ≡ true → tally p k < x

-- this holds of all d numbers from a on exactly if no more than x pass up to there
pub tally_most : (p : ℕ → Bool) (x a d : ℕ) → tally p a ≤ x → ((k : ℕ) → k < d → Fewer p x (a + k)) ↔ (tally p (a + d) ≤ x)
unfolding tally
tally_most p x a zero low = rw add-zero (λ h. low, λ h. omega arith)
tally_most p x a (suc d) low = rw add-suc (go (p (a + d)) refl (tally_most p x a d low))
  where
    go :
        (b : Bool) → p (a + d) ≡ b → ((k : ℕ) → k < d → Fewer p x (a + k)) ↔ (tally p (a + d) ≤ x)
        → ((k : ℕ) → k < suc d → Fewer p x (a + k)) ↔ (tally p (a + d) + cond (p (a + d)) 1 0 ≤ x)
    go true e earlier =
        rw e (
          λ h. omega (arith, h d (omega arith) e),
          λ most. to_last (λ k. Fewer p x (a + k)) d (earlier.1 (omega arith)) (λ t. omega arith),
        )
    go false e earlier =
        rw e (
          λ h. omega (arith, earlier.0 (λ k l. h k (omega arith))),
          λ most. to_last (λ k. Fewer p x (a + k)) d (earlier.1 (omega arith)) (λ t. absurd (true≢false (sym t ∙ e))),
        )

pub tally_within : (p : ℕ → Bool) (n : ℕ) → tally p n ≤ n
unfolding tally
tally_within p zero = omega arith
tally_within p (suc n) = one_more (p n) (tally_within p n)
  where
    one_more : (b : Bool) → tally p n ≤ n → tally p n + cond b 1 0 ≤ suc n
    one_more true h = omega arith
    one_more false h = omega arith
