-- A running sum of floats and their number, which the code carries in a struct: what one more pattern makes of it, and its mean.
-- Assumes nothing.
use Rattle.std.specs.Prelude.{cond, ◌||◌, Option, Some, None, ℕ, ◌+◌, ◌^◌, eqb, leb}
use Rattle.std.specs.Float.{binary32}
use Rattle.std.specs.Float.Ieee.{to_bits}
use Rattle.float.specs.declared.FloatSum.{FloatSum}
use Rattle.float.specs.Patterns.{aside}
use Rattle.float.specs.Rounding.{plus, over}

-- the pattern of the sum so far, and how many patterns it has
pub record Running : Type 0 where
  pub sum : ℕ
  pub count : ℕ

-- no pattern yet: -0, since -0 + x is x
unfoldable pub none : Running
none = record { sum = 2 ^ 31; count = 0 }

-- one pattern more; one that is set aside is no part of the sum, nor is a ninth, since a message has eight fields at most
unfoldable pub more : Running → ℕ → Running
more r x = cond (aside x || leb 8 r.count) r (record { sum = plus r.sum x; count = r.count + 1 })

-- a mean that is not finite is no result
unfoldable pub finite_mean : ℕ → Option ℕ
finite_mean x = cond (aside x) None (Some x)

-- the sum divided by the number of patterns, if there are any
unfoldable pub finish : Running → Option ℕ
finish r = cond (eqb r.count 0) None (finite_mean (over r.sum r.count))

-- what the code's struct stands for
unfoldable pub running_of : FloatSum → Running
running_of s = record { sum = to_bits binary32 s.sum; count = s.count }
