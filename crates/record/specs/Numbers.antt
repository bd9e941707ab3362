-- Counting and searching among the numbers below n.
-- Assumes nothing.
use Rattle.std.specs.Prelude.{Bool, false, cond, ◌&&◌, ◌||◌, List, [], ◌∷◌, ℕ, zero, suc, ◌+◌, leb}

-- x from a to b
abbrev pub within : ℕ → ℕ → ℕ → Bool
within a b x = leb a x && leb x b

-- how many numbers below n pass the test
unfoldable pub tally : (ℕ → Bool) → ℕ → ℕ
tally p zero = 0
tally p (suc n) = tally p n + cond (p n) 1 0

-- whether one of them does
unfoldable pub any_below : (ℕ → Bool) → ℕ → Bool
any_below p zero = false
any_below p (suc n) = any_below p n || p n

-- the least of them that does, or n where none does
unfoldable pub least_below : (ℕ → Bool) → ℕ → ℕ
least_below p zero = 0
least_below p (suc n) = cond (any_below p n) (least_below p n) (cond (p n) n (suc n))

-- whether one of the tests holds: the first or the second or ..
abbrev pub or_one_of : Bool → List Bool → Bool
or_one_of a [] = a
or_one_of a (b ∷ l) = or_one_of (a || b) l

abbrev pub one_of : List Bool → Bool
one_of [] = false
one_of (a ∷ l) = or_one_of a l
