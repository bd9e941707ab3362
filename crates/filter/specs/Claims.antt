-- What holds of the filters. Each line is a theorem; proofs/Claims.antt proves them.
-- Assumes nothing.
use Rattle.std.specs.Prelude.{◌≡◌, not, ℕ, ℤ}
use Rattle.filter.specs.Filter.{passes}

-- filter a passes exactly what filter b does not
abbrev pub Opposite : ℕ → ℕ → Type 0
Opposite a b = (sign x1 x2 : ℕ) (new old : ℤ) → passes a sign x1 x2 new old ≡ not (passes b sign x1 x2 new old)

pub record Claims : Type 0 where
  -- The filters come in pairs, so that each rule of the table is held against a second
  pub never : Opposite 1 0
  pub masked_otherwise : Opposite 3 2
  pub otherwise : Opposite 5 4
  pub masked_changed : Opposite 7 6
  pub outside : Opposite 9 8
  pub at_most_lem : Opposite 11 10
  pub at_least : Opposite 13 12
