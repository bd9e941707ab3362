-- `float::add` meets its contract: the sum's pattern is the rounded one.
-- Assumes nothing.
use mathlib.Core.Path.{◌≡◌, refl, ap, sym, ◌∙◌}
use mathlib.Core.Bool.{Bool, true, false, ◌||◌, true≢false}
use Prim.Native.Nat.{ℕ, ◌+◌, ◌<◌}
use native.Mathlib.Omega.{arith}
use lib.Dec.{T, leb}
use lib.Ieee.{binary32, fits}
use borrow.Author.Rules.{rules}
use borrow.Author.Tests.{leb-false}
use Rattle.float.specs.Patterns.{aside}
use Rattle.float.specs.Running.{running_of, more}
use Rattle.float.proofs.Values.{no_nan}
use Rattle.float.proofs.Steps.{plus_is}
use Rattle.float.proofs.add.Goals.{Else-is_aside-s}
use Rattle.float.proofs.add.Goals as goal

pub returns-then-is_aside-s : goal.returns-then-is_aside-s
unfolding more running_of
returns-then-is_aside-s c =
    let a = c.args in
    rw (ap (λ t. t || leb 8 a.s.count) (sym c.is_aside.ensures) ∙ c.if-is_aside-s.true) refl

-- what is added is not set aside, and there is room for it
neither : (s t : Bool) → (s || t) ≡ false → (s ≡ false) × (t ≡ false)
neither true t e = absurd (true≢false e)
neither false t e = (refl, e)

room : (n : ℕ) → n < 8 → n + 1 < 256
room n h = omega arith

module _ (c : Else-is_aside-s) where
  taken_in : (aside c.args.x ≡ false) × (leb 8 c.args.s.count ≡ false)
  taken_in =
      let both = neither _ _ c.if-is_aside-s.false in
      (sym c.is_aside.ensures ∙ both.0, both.1)

pub float_from_bits-v : goal.float_from_bits-v
float_from_bits-v c = no_nan c.args.x (taken_in c).0

pub overflow_add-result : goal.overflow_add-result
overflow_add-result c = record { fits = room _ (leb-false 8 _ (taken_in (goal.at.overflow_add-result c).Else-is_aside-s).1) }

pub returns : goal.returns
unfolding running_of more
returns c =
    let a = c.args in
    let t = taken_in (goal.at.returns c).Else-is_aside-s in
    let fit : T (fits binary32 a.s.sum) = search rules in
    rw (t.0, t.1, plus_is a.s.sum a.x fit t.0) refl
