-- What a test says: each connective, each comparison and each search turned into a proposition, both ways. A test that is false is called clear: it
-- finds no fault. Put together as the rules `meanings` they let `simp` read a whole refusal, or write one.
-- Assumes nothing.
use mathlib.Core.Path.{◌≡◌, refl, sym}
use mathlib.Core.Bool.{Bool, true, false, not, ◌&&◌, ◌||◌, true≢false, false≢true}
use mathlib.Core.Logic.{◌↔◌, ◌⊎◌, inl, inr, ⊎_elim}
use Prim.Native.Nat.{ℕ, zero, suc, ◌<◌, ◌≤◌}
use native.Mathlib.Nat.{eq-or-lt_of_le, le_of_suc-le-suc, not-suc-le-zero}
use native.Mathlib.Omega.{arith}
use lib.Dec.{eqb, ltb, leb}
use borrow.Author.Tests.{ltb-false, le-ltb, leb-true, leb-false, eqb-true, eqb-false, le-leb, lt-leb, eq-eqb, ne_eqb}
use Rattle.record.specs.Numbers.{any_below}

-- ---- connectives and comparisons

pub or_clear : (a b : Bool) → ((a || b) ≡ false) ↔ ((a ≡ false) × (b ≡ false))
or_clear true b = (λ e. absurd (true≢false e), λ h. h.0)
or_clear false b = (λ e. (refl, e), λ h. h.1)

pub and_clear : (a b : Bool) → ((a && b) ≡ false) ↔ (a ≡ true → b ≡ false)
and_clear true b = (λ e h. e, λ h. h refl)
and_clear false b = (λ e h. absurd (false≢true h), λ h. refl)

pub and_holds : (a b : Bool) → ((a && b) ≡ true) ↔ ((a ≡ true) × (b ≡ true))
and_holds true b = (λ e. (refl, e), λ h. h.1)
and_holds false b = (λ e. absurd (false≢true e), λ h. h.0)

pub or_holds : (a b : Bool) → ((a || b) ≡ true) ↔ ((a ≡ true) ⊎ (b ≡ true))
or_holds true b = (λ e. inl refl, λ h. refl)
or_holds false b = (inr, ⊎_elim (λ e. absurd (false≢true e)) (λ e. e))

pub not_clear : (a : Bool) → (not a ≡ false) ↔ (a ≡ true)
not_clear true = (λ e. refl, λ e. refl)
not_clear false = (sym, sym)

pub not_holds : (a : Bool) → (not a ≡ true) ↔ (a ≡ false)
not_holds true = (sym, sym)
not_holds false = (λ e. refl, λ e. refl)

pub leb_clear : (a b : ℕ) → (leb a b ≡ false) ↔ (b < a)
leb_clear a b = (leb-false a b, lt-leb a b)

pub ltb_clear : (a b : ℕ) → (ltb a b ≡ false) ↔ (b ≤ a)
ltb_clear a b = (ltb-false a b, le-ltb a b)

pub leb_holds : (a b : ℕ) → (leb a b ≡ true) ↔ (a ≤ b)
leb_holds a b = (leb-true a b, le-leb a b)

pub eqb_clear : (a b : ℕ) → (eqb a b ≡ false) ↔ (a ≡ b → ⊥)
eqb_clear a b = (eqb-false a b, ne_eqb a b)

pub eqb_holds : (a b : ℕ) → (eqb a b ≡ true) ↔ (a ≡ b)
eqb_holds a b = (eqb-true a b, eq-eqb a b)

-- ---- the numbers below n

-- what holds below n and of n
pub to_last : (P : ℕ → Type 0) (n : ℕ) → ((k : ℕ) → k < n → P k) → P n → (k : ℕ) → k < suc n → P k
to_last P n earlier last k l = ⊎_elim (λ (e : k ≡ n). rw e last) (earlier k) (eq-or-lt_of_le (le_of_suc-le-suc l))

-- where all numbers below n are below x, n is no greater
pub bounded : (n x : ℕ) → ((k : ℕ) → k < n → k < x) → n ≤ x
bounded zero x h = omega arith
bounded (suc n) x h = h n (omega arith)

-- a search: none of them passes the test
pub any_clear : (p : ℕ → Bool) (n : ℕ) → (any_below p n ≡ false) ↔ ((k : ℕ) → k < n → p k ≡ false)
unfolding any_below
any_clear p zero = (λ e k l. absurd (not-suc-le-zero l), λ h. refl)
any_clear p (suc n) = (
  λ e. let (earlier, last) = (or_clear (any_below p n) (p n)).0 e in to_last (λ k. p k ≡ false) n ((any_clear p n).0 earlier) last,
  λ h. (or_clear (any_below p n) (p n)).1 ((any_clear p n).1 (λ k l. h k (omega arith)), h n (omega arith)),
)

pub ruleset meanings = (or_clear, and_clear, and_holds, not_clear, not_holds, ltb_clear, leb_clear, leb_holds, eqb_clear, eqb_holds, any_clear)
