-- Where the numbers below n that pass a test stand together, they are a stretch: from the least of them on, as many as there are. For up to a
-- number that passes, each one from the least on adds one to the count, and after one that fails the count stays. And where they have keys that rise,
-- they are no more than the keys, since each has at least as many keys below its own as there are before it.
-- Assumes nothing.
use mathlib.Core.Path.{◌≡◌, refl, sym, ◌∙◌}
use mathlib.Core.Bool.{Bool, true, false, cond, true≢false}
use Prim.Native.Nat.{ℕ, zero, suc, ◌+◌, ◌-◌, ◌<◌, ◌≤◌}
use native.Mathlib.Nat.{add-zero, add-suc}
use native.Mathlib.Omega.{arith}
use native.Mathlib.Decide.{dec_lt}
use Rattle.record.specs.Numbers.{tally, any_below, least_below}
use Rattle.record.proofs.Tests.{any_clear}
use Rattle.record.proofs.Searches.{Least, least_below_lem}
use Rattle.layout.proofs.Tallies.{tally_run, tally_grows, tally_rises, tally_none}

-- ---- counting

-- n numbers from a on, where the test says of a + k what another says of k
pub tally_from : (p q : ℕ → Bool) (a n : ℕ) → ((k : ℕ) → k < n → p (a + k) ≡ q k) → tally p (a + n) ≡ tally p a + tally q n
unfolding tally
tally_from p q a zero same = rw (add-zero a) (omega arith)
tally_from p q a (suc n) same =
    rw (add-suc a n, same n (omega arith)) (omega (arith, tally_from p q a n (λ k l. same k (omega arith))))

-- where those that pass have keys that rise, each below k, there are no more than k
pub tally_keys : (p : ℕ → Bool) (key : ℕ → ℕ) (k n : ℕ) → ((d : ℕ) → d < n → p d ≡ true → key d < k)
    → ((d e : ℕ) → d < e → e < n → p d ≡ true → p e ≡ true → key d < key e) → tally p n ≤ k
unfolding tally
tally_keys p key k zero below rise = omega arith
tally_keys p key k (suc n) below rise = one_more (p n) refl (λ x low. tally_keys p key x n low (λ d e h l. rise d e h (omega arith)))
  where
    one_more : (b : Bool) → p n ≡ b → ((x : ℕ) → ((d : ℕ) → d < n → p d ≡ true → key d < x) → tally p n ≤ x) → tally p n + cond b 1 0 ≤ k
    one_more true here few = omega (arith, few (key n) (λ d l t. rise d n l (omega arith) t here), below n (omega arith) here)
    one_more false here few = omega (arith, few k (λ d l. below d (omega arith)))

-- ---- a stretch

-- the numbers below n that pass are those from first on, count many
pub record Stretch (p : ℕ → Bool) (n first count : ℕ) : Type 0 where
  pub ends : first + count ≤ n
  pub inside : (d : ℕ) → first ≤ d → d < first + count → p d ≡ true
  pub only : (d : ℕ) → d < n → p d ≡ true → (first ≤ d) × (d < first + count)

-- what stands between two that pass does
abbrev pub Together : (ℕ → Bool) → ℕ → Type 0
Together p n = (d e f : ℕ) → d ≤ e → e ≤ f → f < n → p d ≡ true → p f ≡ true → p e ≡ true

module _ (p : ℕ → Bool) (n k : ℕ) (least : Least p n k) (together : Together p n) where
  count_before : tally p k ≡ 0
  count_before = tally_none p k least.none_before

  from_least : (d : ℕ) → p d ≡ true → k ≤ d
  from_least d here = go (dec_lt d k)
    where
      go : Dec (d < k) → k ≤ d
      go (yes l) = absurd (true≢false (sym here ∙ least.none_before d l))
      go (no l) = omega arith

  -- all up to one that passes do
  count_to : (d : ℕ) → d < n → p d ≡ true → k + tally p (suc d) ≡ suc d
  count_to d l here =
      let low = from_least d here in
      let there : k + (suc d - k) ≡ suc d = omega arith in
      let counted = tally_run p true k (suc d - k) (λ j b. together k (k + j) d (omega arith) (omega arith) l least.holds here) in
      omega (arith, rw there at counted, count_before)

  -- none after one that fails passes
  count_from : (d : ℕ) → k ≤ d → d < n → p d ≡ false → tally p n ≡ tally p d
  count_from d low l here =
      let there : d + (n - d) ≡ n = omega arith in
      let counted = tally_run p false d (n - d) (λ j b. fails (d + j) (omega arith) (omega arith) (p (d + j)) refl) in
      omega (arith, rw there at counted)
    where
      fails : (e : ℕ) → d ≤ e → e < n → (b : Bool) → p e ≡ b → p e ≡ false
      fails e after below true q = absurd (true≢false (sym (together k d e low after below least.holds q) ∙ here))
      fails e after below false q = q

  -- no more pass than stand from the least on
  grown : (d : ℕ) → k ≤ d → k + tally p d ≤ d
  grown d low =
      let there : k + (d - k) ≡ d = omega arith in
      omega (arith, rw there at (tally_grows p k (d - k)), count_before)

  stretch_from : Stretch p n k (tally p n)
  stretch_from =
      record {
        ends = ends;
        inside = λ d low l. passes d low l (p d) refl;
        only = λ d l here. (from_least d here, omega (arith, count_to d l here, tally_rises p (suc d) n l));
      }
    where
      ends : k + tally p n ≤ n
      ends = grown n (omega (arith, least.below))

      passes : (d : ℕ) → k ≤ d → d < k + tally p n → (b : Bool) → p d ≡ b → p d ≡ true
      passes d low l true e = e
      passes d low l false e = absurd (omega (arith, ends, count_from d low (omega (arith, ends)) e, grown d low))

pub stretch : (p : ℕ → Bool) (n : ℕ) → 1 ≤ tally p n → Together p n → Stretch p n (least_below p n) (tally p n)
stretch p n some together = stretch_from p n (least_below p n) (least_below_lem p n (found (any_below p n) refl)) together
  where
    found : (b : Bool) → any_below p n ≡ b → any_below p n ≡ true
    found true e = e
    found false e = absurd (omega (arith, tally_none p n ((any_clear p n).0 e)))
