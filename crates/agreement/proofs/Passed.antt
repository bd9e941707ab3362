-- What is agreed on passes each test that all instances pass where it is one of them: by pick any and by vote. A mean of floats passes each test that
-- finite patterns pass, and what floats agree on is finite.
-- Assumes nothing.
use mathlib.Core.Path.{◌≡◌, refl}
use mathlib.Core.Bool.{Bool, true, false, not, cond, and-eq-true_iff}
use mathlib.Core.List.{List, [], ◌∷◌}
use Prim.Native.Nat.{ℕ, zero, suc, ◌^◌, ◌<◌}
use native.Mathlib.Nat.{mod-eq_of_lt}
use lib.Dec.{leb}
use lib.IntN.{ℤ, pos}
use lib.ListN.{length}
use Rattle.std.specs.Prelude.{Some, None}
use Rattle.whole.specs.Whole.{all_of}
use Rattle.packing.specs.Values.{pattern_of}
use Rattle.float.specs.Patterns.{aside}
use Rattle.float.specs.Rounding.{over}
use Rattle.float.proofs.Itself.{over_small}
use Rattle.agreement.specs.Agreement.{pick_any, ahead, one_that, vote}
use Rattle.agreement.specs.Floats.{left_of, sum_from, finite_value, float_mean, left_agreed, floats_agreed}

-- what a search finds passes each test that all pass
found_passes : (q p : ℤ → Bool) (l : List ℤ) (v : ℤ) → all_of q l ≡ true → one_that p l ≡ Some v → q v ≡ true
unfolding all_of one_that
found_passes q p [] v t e = cc
found_passes q p (u ∷ l) v t e =
    let parts = (and-eq-true_iff (q u) (all_of q l)).0 t in
    go (p u) e parts.0 (found_passes q p l v parts.1)
  where
    go : (b : Bool) → cond b (Some u) (one_that p l) ≡ Some v → q u ≡ true → (one_that p l ≡ Some v → q v ≡ true) → q v ≡ true
    go true found here later = cc
    go false found here later = later found

module _ (q : ℤ → Bool) where
  pub picked_passes : (l : List ℤ) (v : ℤ) → all_of q l ≡ true → pick_any l ≡ Some v → q v ≡ true
  unfolding all_of
  picked_passes [] v t e = cc
  picked_passes (u ∷ l) v t e =
      let same : u ≡ v = cc in
      rw same at ((and-eq-true_iff (q u) (all_of q l)).0 t).0

  pub voted_passes : (l : List ℤ) (v : ℤ) → all_of q l ≡ true → vote l ≡ Some v → q v ≡ true
  unfolding vote
  voted_passes l v t e = found_passes q (ahead l) l v t e

-- ---- floats

-- the value of a pattern has that pattern
pub pattern_back : (x : ℕ) → x < 2 ^ 32 → pattern_of 32 (pos x) ≡ x
unfolding pattern_of
pattern_back x h = mod-eq_of_lt h

abbrev pub is_finite : ℤ → Bool
is_finite v = not (aside (pattern_of 32 v))

pub all_left : (q : ℤ → Bool) (l : List ℤ) → all_of q l ≡ true → all_of q (left_of l) ≡ true
unfolding all_of left_of
all_left q [] t = refl
all_left q (v ∷ l) t =
    let parts = (and-eq-true_iff (q v) (all_of q l)).0 t in
    go (aside (pattern_of 32 v)) parts.0 (all_left q l parts.1)
  where
    go : (b : Bool) → q v ≡ true → all_of q (left_of l) ≡ true → all_of q (cond b (left_of l) (v ∷ left_of l)) ≡ true
    go true here rest = rest
    go false here rest = rw here rest

pub left_finite : (l : List ℤ) → all_of is_finite (left_of l) ≡ true
unfolding all_of left_of
left_finite [] = refl
left_finite (v ∷ l) = go (aside (pattern_of 32 v)) refl (left_finite l)
  where
    go : (b : Bool) → aside (pattern_of 32 v) ≡ b → all_of is_finite (left_of l) ≡ true → all_of is_finite (cond b (left_of l) (v ∷ left_of l)) ≡ true
    go true e rest = rest
    go false e rest = rw e rest

module _ (q : ℤ → Bool) (finite : (x : ℕ) → x < 2 ^ 32 → aside x ≡ false → q (pos x) ≡ true) where
  mean_passes : (l : List ℤ) (v : ℤ) → float_mean l ≡ Some v → q v ≡ true
  unfolding float_mean finite_value
  mean_passes [] v e = cc
  mean_passes (u ∷ l) v e = go (aside x) refl e
    where
      x : ℕ
      x = over (sum_from (pattern_of 32 u) l) (length (u ∷ l))

      go : (b : Bool) → aside x ≡ b → cond b None (Some (pos x)) ≡ Some v → q v ≡ true
      go true a f = cc
      go false a f =
          let same : pos x ≡ v = cc in
          rw same at (finite x (over_small (sum_from (pattern_of 32 u) l) (length (u ∷ l)) a) a)

  left_passes : (k : ℕ) (l : List ℤ) (v : ℤ) → all_of q l ≡ true → left_agreed k l ≡ Some v → q v ≡ true
  unfolding left_agreed
  left_passes zero l v t e = picked_passes q l v t e
  left_passes (suc zero) l v t e = mean_passes l v e
  left_passes (suc (suc zero)) l v t e = voted_passes q l v t e
  left_passes (suc (suc (suc k))) l v t e = cc

  pub floats_pass : (k : ℕ) (l : List ℤ) (v : ℤ) → all_of q (left_of l) ≡ true → floats_agreed k l ≡ Some v → q v ≡ true
  unfolding floats_agreed
  floats_pass k l v t = go (leb (length l) 8)
    where
      go : (b : Bool) → cond b (left_agreed k (left_of l)) None ≡ Some v → q v ≡ true
      go true e = left_passes k (left_of l) v t e
      go false e = cc

pub agreed_finite : (k : ℕ) (l : List ℤ) (v : ℤ) → floats_agreed k l ≡ Some v → is_finite v ≡ true
agreed_finite k l v = floats_pass is_finite (λ x h a. rw (pattern_back x h, a) refl) k l v (left_finite l)
