-- The claims on floats: at most eight of them agree as those that are left do, and what is set aside is not among these.
-- Assumes nothing.
use mathlib.Core.Path.{◌≡◌, refl, ap, sym, ◌∙◌}
use mathlib.Core.Bool.{Bool, true, false, cond}
use mathlib.Core.List.{List, [], ◌∷◌, ◌++◌}
use Prim.Native.Nat.{ℕ, zero, suc, ◌^◌, ◌≤◌, ◌<◌}
use native.Mathlib.Omega.{arith}
use lib.IntN.{ℤ, pos}
use lib.ListN.{length, length-append}
use borrow.Author.Tests.{le-leb, not-true}
use Rattle.std.specs.Prelude.{Some}
use Rattle.whole.specs.Whole.{all_of}
use Rattle.whole.proofs.Integers.{eq_z_same}
use Rattle.packing.specs.Values.{pattern_of}
use Rattle.float.specs.Patterns.{aside}
use Rattle.float.proofs.Itself.{over_one}
use Rattle.agreement.specs.Agreement.{ahead, one_that, vote}
use Rattle.agreement.specs.Floats.{left_of, sum_from, finite_value, float_mean, left_agreed, floats_agreed}
use Rattle.agreement.specs.Claims.{FloatClaims}
use Rattle.agreement.proofs.Running.{left_none, left_out, left_in}
use Rattle.agreement.proofs.Passed.{pattern_back, agreed_finite}
use Rattle.agreement.proofs.Vote.{vote_value}

pub of_eight : (k : ℕ) (l : List ℤ) → length l ≤ 8 → floats_agreed k l ≡ left_agreed k (left_of l)
unfolding floats_agreed
of_eight k l h = rw (le-leb (length l) 8 h) refl

-- ---- set aside

left_append : (l m : List ℤ) (v : ℤ) → aside (pattern_of 32 v) ≡ true → left_of (l ++ v ∷ m) ≡ left_of (l ++ m)
unfolding left_of
left_append [] m v e = left_out v m e
left_append (u ∷ l) m v e = go (aside (pattern_of 32 u)) (left_append l m v e)
  where
    go : (b : Bool) → left_of (l ++ v ∷ m) ≡ left_of (l ++ m)
        → cond b (left_of (l ++ v ∷ m)) (u ∷ left_of (l ++ v ∷ m)) ≡ cond b (left_of (l ++ m)) (u ∷ left_of (l ++ m))
    go b same = ap (λ r. cond b r (u ∷ r)) same

fewer : (l m : List ℤ) (v : ℤ) → length (l ++ v ∷ m) ≤ 8 → length (l ++ m) ≤ 8
fewer l m v h = rw length-append (omega (arith, rw length-append at h))

-- ---- one alone

one_alone : (k : ℕ) → k < 3 → (x : ℕ) → x < 2 ^ 32 → aside x ≡ false → left_agreed k (pos x ∷ []) ≡ Some (pos x)
unfolding left_agreed float_mean sum_from finite_value vote one_that ahead all_of
one_alone zero h x X a = refl
one_alone (suc zero) h x X a = rw (pattern_back x X, over_one x X a, a) refl
one_alone (suc (suc zero)) h x X a = rw (eq_z_same (pos x) (pos x) refl) refl
one_alone (suc (suc (suc k))) h x X a = absurd (omega arith)

pub float_claims : FloatClaims
unfolding left_agreed float_mean
float_claims =
    record {
      left_out = λ k l m v h e. of_eight k (l ++ v ∷ m) h ∙ ap (left_agreed k) (left_append l m v e) ∙ sym (of_eight k (l ++ m) (fewer l m v h));
      finite = λ k l v e. not-true (aside (pattern_of 32 v)) (agreed_finite k l v e);
      alone = λ k h x X a. of_eight k (pos x ∷ []) (omega arith)
          ∙ ap (left_agreed k) (left_in (pos x) [] (ap aside (pattern_back x X) ∙ a) ∙ ap (λ r. pos x ∷ r) left_none)
          ∙ one_alone k h x X a;
      picked = λ l v m h e. of_eight 0 l h ∙ ap (left_agreed 0) e;
      mean = λ l v m h e. of_eight 1 l h ∙ ap (left_agreed 1) e;
      voted = λ l v h. (λ e. (vote_value (left_of l) v).0 (sym (of_eight 2 l h) ∙ e), λ a. of_eight 2 l h ∙ (vote_value (left_of l) v).1 a);
    }
