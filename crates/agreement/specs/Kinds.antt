-- The three agreements by number.
-- Assumes nothing.
use Rattle.std.specs.Prelude.{◌≡◌, ℕ, ◌≤◌, Result, MatchResult}
use Rattle.agreement.specs.declared.Agreement.{Agreement}
use Rattle.agreement.specs.declared.Agreement.TheVariants.{PickAny, Average, Vote}
use Rattle.agreement.specs.declared.NoAgreement.{NoAgreement}

abbrev pub number_of : Agreement → ℕ
number_of PickAny = 0
number_of Average = 1
number_of Vote = 2

-- a number is that of an agreement, or past them all
abbrev pub Decodes : ℕ → Result Agreement NoAgreement → Type 0
Decodes n r = MatchResult r (λ a. number_of a ≡ n) (λ _. 3 ≤ n)
