-- Instances that messages hold: the test of their number as the code has it, their parts, how far from zero they lie, and that they have a mean and
-- nothing else has. The code tests for what lies outside two bounds, and to lie between them is to lie on neither outer side.
-- Assumes nothing.
use mathlib.Core.Path.{◌≡◌, refl, ap, ap₂, ◌∙◌}
use mathlib.Core.Bool.{Bool, true, false, ◌&&◌, ◌||◌, not, and-eq-true_iff}
use mathlib.Core.List.{List, [], ◌∷◌}
use Prim.Native.Nat.{ℕ, zero, suc, ◌-◌, ◌<◌, ◌≤◌, ◌^◌}
use native.Mathlib.Omega.{arith}
use lib.Dec.{ltb, leb}
use lib.IntN.{ℤ, pos, negsuc, nat_abs}
use lib.ListN.{length, get_or}
use lib.Signed.{lt_z}
use borrow.Author.Tests.{leb-true}
use Rattle.std.specs.Prelude.{Some, None}
use Rattle.whole.specs.Whole.{all_of}
use Rattle.whole.proofs.Integers.{at_most_lem}
use Rattle.agreement.specs.Agreement.{mean_of, between, message_value, message_values, average}

-- ---- between two bounds

between_test : (lo hi v : ℤ) → between lo hi v ≡ not (lt_z v lo || lt_z hi v)
between_test lo hi v = ap₂ ◌&&◌ (at_most_lem lo v) (at_most_lem v hi) ∙ neither (lt_z v lo) (lt_z hi v)
  where
    neither : (a b : Bool) → (not a && not b) ≡ not (a || b)
    neither true b = refl
    neither false b = refl

-- ---- a message's values

pub value_small : (v : ℤ) → message_value v ≡ true → nat_abs v ≤ 2 ^ 32
unfolding message_value
value_small (pos n) t = omega (arith, leb-true n (2 ^ 32 - 1) t)
value_small (negsuc n) t = omega (arith, leb-true n (2 ^ 31 - 1) ((and-eq-true_iff _ _).0 t).0)

-- ---- one to eight instances

pub values_test : (l : List ℤ) → message_values l ≡ (not (ltb (length l) 1 || ltb 8 (length l)) && all_of message_value l)
unfolding message_values
values_test l = ap (λ t. t && all_of message_value l) (between_test (pos 1) (pos 8) (pos (length l)))

-- a test that all pass is passed at each place
pub all_at : (p : ℤ → Bool) (l : List ℤ) (j : ℕ) (d : ℤ) → all_of p l ≡ true → j < length l → p (get_or l j d) ≡ true
unfolding all_of
all_at p [] j d t h = absurd (omega arith)
all_at p (v ∷ l) zero d t h = ((and-eq-true_iff (p v) (all_of p l)).0 t).0
all_at p (v ∷ l) (suc j) d t h = all_at p l j d ((and-eq-true_iff (p v) (all_of p l)).0 t).1 (omega arith)

pub values_parts : (l : List ℤ) → message_values l ≡ true → (1 ≤ length l) × (length l ≤ 8) × (all_of message_value l ≡ true)
unfolding message_values
values_parts l t =
    let parts = (and-eq-true_iff (leb 1 (length l) && leb (length l) 8) (all_of message_value l)).0 t in
    let few = (and-eq-true_iff (leb 1 (length l)) (leb (length l) 8)).0 parts.0 in
    (leb-true 1 (length l) few.0, leb-true (length l) 8 few.1, parts.1)

-- ---- they have a mean, and nothing else has

pub no_mean : (l : List ℤ) → message_values l ≡ false → None ≡ average l
unfolding average
no_mean l t = rw t refl

pub has_mean : (l : List ℤ) → message_values l ≡ true → Some (mean_of l) ≡ average l
unfolding average
has_mean l t = rw t refl
