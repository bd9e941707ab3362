-- Agreement on the counting instances of a message of floats. They come as a list of values in frame order; a float's value is its pattern.
-- Assumes nothing.
use Rattle.std.specs.Prelude.{Option, Some, None, cond, List, [], ◌∷◌, ℕ, leb, ℤ, pos, length, get_or}
use Rattle.packing.specs.Values.{pattern_of}
use Rattle.float.specs.Patterns.{aside}
use Rattle.float.specs.Rounding.{plus, over}
use Rattle.agreement.specs.Agreement.{pick_any, vote}

-- the instances that are left when those with all exponent bits set are set aside
unfoldable pub left_of : List ℤ → List ℤ
left_of [] = []
left_of (v ∷ l) = cond (aside (pattern_of 32 v)) (left_of l) (v ∷ left_of l)

-- ---- agreement 1, average

-- the values added to a sum in frame order, each step rounded once
unfoldable pub sum_from : ℕ → List ℤ → ℕ
sum_from s [] = s
sum_from s (v ∷ l) = sum_from (plus s (pattern_of 32 v)) l

-- a mean that is not finite is no result
unfoldable pub finite_value : ℕ → Option ℤ
finite_value x = cond (aside x) None (Some (pos x))

-- the sum starts with the first instance, and is divided by their number
unfoldable pub float_mean : List ℤ → Option ℤ
float_mean [] = None
float_mean (v ∷ l) = finite_value (over (sum_from (pattern_of 32 v) l) (length (v ∷ l)))

-- ---- by number

-- agreements 0 to 2 on the instances that are left, where pick any and vote take patterns as they are; a larger number is none
unfoldable pub left_agreed : ℕ → List ℤ → Option ℤ
left_agreed k l = get_or (pick_any l ∷ float_mean l ∷ vote l ∷ []) k None

-- a message has at most eight instances; more come to nothing
unfoldable pub floats_agreed : ℕ → List ℤ → Option ℤ
floats_agreed k l = cond (leb (length l) 8) (left_agreed k (left_of l)) None
