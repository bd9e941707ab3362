-- `float::rank_of` meets its contract: a pattern with the sign set is counted down from 2^31. Assumes nothing.
use mathlib.Core.Path.{◌≡◌, ap, sym, subst, ◌∙◌}
use Prim.Native.Nat.{ℕ, ◌^◌}
use native.Mathlib.Omega.{arith}
use lib.IntN.{pos, ◌-ℤ◌}
use mir.Syntax.{w64}
use mir.Val.{SFits, to_z, of_z}
use mir.ValLaws.{to_z_pos}
use Rattle.whole.proofs.Integers.{small_fits, back}
use Rattle.float.specs.Patterns.{rank_of}
use Rattle.float.proofs.Ranks.{rank_low, rank_high, rank_small}
use Rattle.float.proofs.rank_of.Goals.{Else-x-lt2147483648}
use Rattle.float.proofs.rank_of.Goals as goal

pub returns-then-x-lt2147483648 : goal.returns-then-x-lt2147483648
returns-then-x-lt2147483648 c = to_z_pos w64 c.args.x (omega arith) ∙ sym (rank_low c.args.x c.if-x-lt2147483648.true)

-- the difference is the rank
module _ (c : Else-x-lt2147483648) where
  abbrev x : ℕ
  x = c.args.x

  is_rank : pos (2 ^ 31) -ℤ to_z w64 x ≡ rank_of x
  is_rank = ap (λ z. pos (2 ^ 31) -ℤ z) (to_z_pos w64 x (omega arith)) ∙ sym (rank_high x c.if-x-lt2147483648.false c.ranges.x.fits)

pub overflow_sub-result : goal.overflow_sub-result
overflow_sub-result c = subst (SFits w64) (sym (is_rank c)) (small_fits (rank_of (x c)) (omega (arith, rank_small (x c))))

pub returns : goal.returns
returns c = ap (λ z. to_z w64 (of_z w64 z)) (is_rank c) ∙ back (rank_of (x c)) (omega (arith, rank_small (x c)))
