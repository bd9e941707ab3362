-- What holds of agreement, on whole numbers and on floats. Each line is a theorem; proofs/Claims.antt says where it is proved.
-- Assumes nothing.
use Rattle.std.specs.Prelude.{Some, None, ◌≡◌, true, false, ◌↔◌, ℕ, ◌+◌, ◌*◌, ◌^◌, ◌<◌, ◌≤◌, ℤ, pos, nat_abs, length}
use mathlib.Core.List.{List, [], ◌∷◌, ◌++◌, Permᴰ}
use Rattle.std.specs.Int.Signed.{le_z}
use Rattle.whole.specs.Whole.{all_of}
use Rattle.packing.specs.Values.{pattern_of}
use Rattle.float.specs.Patterns.{aside}
use Rattle.float.specs.Rounding.{over}
use Rattle.agreement.specs.Agreement.{sum_of, mean_of, between, message_values, average, Ahead, vote}
use Rattle.agreement.specs.Floats.{left_of, sum_from, finite_value, floats_agreed}

-- whole numbers
pub record WholeClaims : Type 0 where
  -- Average: the exact sum divided by the count, the fraction dropped toward zero: n times the mean does not pass the sum, n times one more does, and
  -- the mean is on the sum's side of zero
  pub mean_toward_zero : (l : List ℤ) → 0 < length l
      → (nat_abs (mean_of l) * length l ≤ nat_abs (sum_of l)) × (nat_abs (sum_of l) < nat_abs (mean_of l) * length l + length l)
  pub mean_sign : (l : List ℤ) → 0 < length l
      → (le_z (pos 0) (sum_of l) ≡ true → le_z (pos 0) (mean_of l) ≡ true) × (le_z (sum_of l) (pos 0) ≡ true → le_z (mean_of l) (pos 0) ≡ true)
  -- it lies between the least and greatest instance: between any two numbers between which all of them lie
  pub mean_between : (lo hi : ℤ) (l : List ℤ) → 0 < length l → all_of (between lo hi) l ≡ true → between lo hi (mean_of l) ≡ true
  -- what has an average are one to eight numbers that messages hold, and the average is their mean
  pub averaged : (l : List ℤ) (v : ℤ) → (average l ≡ Some v) ↔ ((message_values l ≡ true) × (v ≡ mean_of l))
  -- Vote: refused exactly when no value is carried by more counting instances than every other value; otherwise that value, and there is one at most
  pub vote_none : (l : List ℤ) → (vote l ≡ None) ↔ ((v : ℤ) → Ahead l v → ⊥)
  pub vote_value : (l : List ℤ) (v : ℤ) → (vote l ≡ Some v) ↔ Ahead l v
  pub one_ahead : (l : List ℤ) (v w : ℤ) → Ahead l v → Ahead l w → v ≡ w
  -- neither depends on the order of the instances: m are those of l in another order
  pub average_order : (l m : List ℤ) → Permᴰ l m → average l ≡ average m
  pub vote_order : (l m : List ℤ) → Permᴰ l m → vote l ≡ vote m

-- floats, at most eight of them as a message has
pub record FloatClaims : Type 0 where
  -- an instance that is set aside counts nowhere, whatever the agreement and wherever it stands
  pub left_out : (k : ℕ) (l m : List ℤ) (v : ℤ) → length (l ++ v ∷ m) ≤ 8 → aside (pattern_of 32 v) ≡ true
      → floats_agreed k (l ++ v ∷ m) ≡ floats_agreed k (l ++ m)
  -- what floats agree on is finite
  pub finite : (k : ℕ) (l : List ℤ) (v : ℤ) → floats_agreed k l ≡ Some v → aside (pattern_of 32 v) ≡ false
  -- one instance alone is what it agrees on, bit for bit: -0 stays -0
  pub alone : (k : ℕ) → k < 3 → (x : ℕ) → x < 2 ^ 32 → aside x ≡ false → floats_agreed k (pos x ∷ []) ≡ Some (pos x)
  -- pick any takes the first that is left
  pub picked : (l : List ℤ) (v : ℤ) (m : List ℤ) → length l ≤ 8 → left_of l ≡ v ∷ m → floats_agreed 0 l ≡ Some v
  -- the average adds those that are left in frame order, starting with the first, and divides by their number
  pub mean : (l : List ℤ) (v : ℤ) (m : List ℤ) → length l ≤ 8 → left_of l ≡ v ∷ m
      → floats_agreed 1 l ≡ finite_value (over (sum_from (pattern_of 32 v) m) (length (v ∷ m)))
  -- the vote gives v exactly if more of those that are left carry the pattern v than any other
  pub voted : (l : List ℤ) (v : ℤ) → length l ≤ 8 → (floats_agreed 2 l ≡ Some v) ↔ Ahead (left_of l) v

pub record Claims : Type 0 where
  pub whole : WholeClaims
  pub floats : FloatClaims
