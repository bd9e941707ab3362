-- The number of each filter, as the paper and the layout file have it.
-- Assumes nothing.
use Rattle.std.specs.Prelude.{◌≡◌, ℕ, ◌<◌, Result, MatchResult}
use Rattle.filter.specs.declared.Filter.{Filter}
use Rattle.filter.specs.declared.Filter.TheVariants.{True, False, MaskedEqual, MaskedNotEqual, NotChanged, Changed, MaskedNotChanged, MaskedChanged}
use Rattle.filter.specs.declared.Filter.TheVariants.{Within, Outside, Increased, NotIncreased, Decreased, NotDecreased}
use Rattle.filter.specs.declared.UnknownFilter.{UnknownFilter}

-- the paper's number
abbrev pub number_of : Filter → ℕ
number_of True = 0
number_of False = 1
number_of MaskedEqual = 2
number_of MaskedNotEqual = 3
number_of NotChanged = 4
number_of Changed = 5
number_of MaskedNotChanged = 6
number_of MaskedChanged = 7
number_of Within = 8
number_of Outside = 9
number_of Increased = 10
number_of NotIncreased = 11
number_of Decreased = 12
number_of NotDecreased = 13

-- the result is the filter of that number, or an error where no filter has it
abbrev pub Numbers : ℕ → Result Filter UnknownFilter → Type 0
Numbers n r = MatchResult r (λ f. number_of f ≡ n) (λ e. 13 < n)
