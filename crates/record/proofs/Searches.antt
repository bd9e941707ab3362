-- Searching the numbers below n, for any test: the least that passes, what a turn of a loop adds, and what is known where the loop ends.
-- Assumes nothing.
use mathlib.Core.Path.{◌≡◌, refl, sym, ap₂, ◌∙◌}
use mathlib.Core.Bool.{Bool, true, false, cond, ◌&&◌, ◌||◌, true≢false, false≢true}
use mathlib.Core.Logic.{◌↔◌}
use Prim.Native.Nat.{ℕ, zero, suc, ◌+◌, ◌<◌}
use native.Mathlib.Decide.{dec_lt}
use native.Mathlib.Numerals.{add-one}
use native.Mathlib.Omega.{arith}
use Rattle.record.specs.Numbers.{any_below, least_below}
use Rattle.record.proofs.Tests.{any_clear}

-- ---- the least number that passes

pub record Least (p : ℕ → Bool) (n k : ℕ) : Type 0 where
  pub below : k < n
  pub holds : p k ≡ true
  pub none_before : (j : ℕ) → j < k → p j ≡ false

same_least : (p : ℕ → Bool) (n k j : ℕ) → Least p n k → Least p n j → k ≡ j
same_least p n k j a b = go (dec_lt k j) (dec_lt j k)
  where
    go : Dec (k < j) → Dec (j < k) → k ≡ j
    go (yes l) y = absurd (true≢false (sym a.holds ∙ b.none_before k l))
    go (no x) (yes l) = absurd (true≢false (sym b.holds ∙ a.none_before j l))
    go (no x) (no y) = omega arith

any_least : (p : ℕ → Bool) (n k : ℕ) → Least p n k → any_below p n ≡ true
any_least p n k w = go (any_below p n) refl
  where
    go : (b : Bool) → any_below p n ≡ b → b ≡ true
    go true e = refl
    go false e = absurd (true≢false (sym w.holds ∙ (any_clear p n).0 e k w.below))

pub least_below_lem : (p : ℕ → Bool) (n : ℕ) → any_below p n ≡ true → Least p n (least_below p n)
unfolding any_below least_below
least_below_lem p zero e = absurd (false≢true e)
least_below_lem p (suc n) e = go (any_below p n) (p n) refl refl e (least_below_lem p n)
  where
    go :
        (a b : Bool) → any_below p n ≡ a → p n ≡ b → (a || b) ≡ true → (any_below p n ≡ true → Least p n (least_below p n))
        → Least p (suc n) (cond a (least_below p n) (cond b n (suc n)))
    go true b x y e earlier =
        let w = earlier x in
        record { below = omega (arith, w.below); holds = w.holds; none_before = w.none_before }
    go false true x y e earlier = record { below = omega arith; holds = y; none_before = (any_clear p n).0 x }
    go false false x y e earlier = absurd (false≢true e)

pub least : (p : ℕ → Bool) (n k : ℕ) → ((any_below p n ≡ true) × (k ≡ least_below p n)) ↔ Least p n k
least p n k = (
  λ (any, e). rw e (least_below_lem p n any),
  λ w. let any = any_least p n k w in (any, same_least p n k (least_below p n) w (least_below_lem p n any)),
)

-- ---- searches with one test or another

pub any_holds : (p : ℕ → Bool) (n : ℕ) → (any_below p n ≡ true) ↔ ((k : ℕ) × (k < n) × (p k ≡ true))
any_holds p n = (
  λ e. let w = least_below_lem p n e in (least_below p n, w.below, w.holds),
  λ h. go (any_below p n) refl h,
)
  where
    go : (a : Bool) → any_below p n ≡ a → (k : ℕ) × (k < n) × (p k ≡ true) → a ≡ true
    go true e h = refl
    go false e (k, l, t) = absurd (true≢false (sym t ∙ (any_clear p n).0 e k l))

pub any_same : (p q : ℕ → Bool) (n : ℕ) → ((k : ℕ) → k < n → p k ≡ q k) → any_below p n ≡ any_below q n
unfolding any_below
any_same p q zero h = refl
any_same p q (suc n) h = ap₂ ◌||◌ (any_same p q n (λ k l. h k (omega arith))) (h n (omega arith))

-- one of two tests; and a test that does not look at the number
or_turn : (a b c d : Bool) → ((a || b) || (c || d)) ≡ ((a || c) || (b || d))
or_turn true b c d = refl
or_turn false true true d = refl
or_turn false true false d = refl
or_turn false false c d = refl

pub any_or : (p q : ℕ → Bool) (n : ℕ) → any_below (λ k. p k || q k) n ≡ (any_below p n || any_below q n)
unfolding any_below
any_or p q zero = refl
any_or p q (suc n) = rw (any_or p q n) (or_turn (any_below p n) (any_below q n) (p n) (q n))

pub any_and : (t : Bool) (p : ℕ → Bool) (n : ℕ) → any_below (λ k. t && p k) n ≡ (t && any_below p n)
any_and true p n = refl
any_and false p n = (any_clear (λ k. false) n).1 (λ k l. refl)

-- tests that say the same have the same least number
pub least_same : (p q : ℕ → Bool) (n : ℕ) → ((k : ℕ) → k < n → p k ≡ q k) → least_below p n ≡ least_below q n
unfolding least_below
least_same p q zero h = refl
least_same p q (suc n) h =
    rw (any_same p q n (λ k l. h k (omega arith)), least_same p q n (λ k l. h k (omega arith)), h n (omega arith)) refl

-- ---- a loop that looks at each number from 0 on

module _ (p : ℕ → Bool) where
  -- none below k passes, nor does k
  pub none_more : (k : ℕ) → any_below p k ≡ false → p k ≡ false → any_below p (k + 1) ≡ false
  unfolding any_below
  none_more k before here = rw (add-one, before, here) refl

  -- one of the numbers below n passes, and k is the least that does
  pub record Found (k n : ℕ) : Type 0 where
    pub some : any_below p n ≡ true
    pub least : least_below p n ≡ k

  -- none below k passes, and k does
  pub found : (k n : ℕ) → any_below p k ≡ false → p k ≡ true → k < n → Found k n
  found k n before here l =
      let (some, first) = (least p n k).1 (record { below = l; holds = here; none_before = (any_clear p k).0 before }) in
      record { some = some; least = sym first }
