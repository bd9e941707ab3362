-- What holds of one message by itself. Each line is a theorem; proofs/Claims.antt says where it is proved.
-- Assumes nothing.
use Rattle.std.specs.Prelude.{◌≡◌, true, false, not, ℕ, ℤ, pos}
use Rattle.filter.specs.Filter.{passes}
use Rattle.ranges.specs.Ranges.{uses_x1, uses_x2}

pub record Claims : Type 0 where
  -- What a filter passes does not depend on a word that the layout takes as not used
  pub x1_unused : (filter sign x1 x2 y : ℕ) (new old : ℤ) → uses_x1 filter ≡ false → passes filter sign x1 x2 new old ≡ passes filter sign y x2 new old
  pub x2_unused : (filter sign x1 x2 y : ℕ) (new old : ℤ) → uses_x2 filter ≡ false → passes filter sign x1 x2 new old ≡ passes filter sign x1 y new old
  -- and does on one that is used: of an unsigned message, where new is 5, old is 7 and the other word is 5, the answer to 5 is not that to 6, or to 4
  pub x1_used : (filter : ℕ) → uses_x1 filter ≡ true → passes filter 0 5 5 (pos 5) (pos 7) ≡ not (passes filter 0 6 5 (pos 5) (pos 7))
  pub x2_used : (filter : ℕ) → uses_x2 filter ≡ true → passes filter 0 5 5 (pos 5) (pos 7) ≡ not (passes filter 0 5 4 (pos 5) (pos 7))
