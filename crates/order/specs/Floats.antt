-- What a receive shows after a closing of floats.
-- Assumes nothing.
use Rattle.std.specs.Prelude.{cond, ℕ, ℤ, pos}
use Rattle.float.specs.Patterns.{aside}
use Rattle.calls.specs.Relations.{value, Seen, sees}

-- a mean: its pattern, or where it is not finite no result, and the caller's place as it was
unfoldable pub mean_shown : ℕ → ℤ → Seen
mean_shown x p = cond (aside x) (sees 20 (value p)) (sees 0 (value (pos x)))
