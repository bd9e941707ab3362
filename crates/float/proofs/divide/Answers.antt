-- `float::divide` meets its contract: the quotient's pattern is the rounded one, and what is not a number is set aside.
-- Assumes nothing.
use mathlib.Core.Path.{◌≡◌, refl, sym, ◌∙◌}
use mathlib.Core.Bool.{Bool, cond}
use Prim.Native.Nat.{◌<◌}
use native.Mathlib.Nat.{pos_of_ne-zero}
use native.Mathlib.Omega.{arith}
use lib.Dec.{T}
use lib.IntN.{pos}
use lib.Ieee.{Float, binary32, fits, div, of_int, to_bits}
use borrow.Author.Rules.{rules}
use borrow.Author.Tests.{eq-eqb, ne_eqb}
use Rattle.std.specs.Prelude.{Some, None}
use Rattle.float.specs.declared.FloatSum.{FloatSum}
use Rattle.float.specs.Patterns.{aside}
use Rattle.float.specs.Running.{running_of, finish, finite_mean}
use Rattle.float.proofs.Values.{not_number}
use Rattle.float.proofs.Steps.{over_is}
use Rattle.float.proofs.divide.Goals as goal

abbrev quotient : FloatSum → Float
quotient s = div binary32 s.sum (of_int binary32 (pos s.count))

-- with an instance, the mean is the quotient's pattern, unless that is set aside
finished : (s : FloatSum) (t : Bool) → (s.count ≡ 0 → ⊥) → T (fits binary32 s.sum) → s.count < 256 → aside (to_bits binary32 (quotient s)) ≡ t
    → cond t None (Some (to_bits binary32 (quotient s))) ≡ finish (running_of s)
unfolding finish finite_mean running_of
finished s t some sum small e =
    rw (ne_eqb _ _ some, ← over_is s.sum s.count sum (pos_of_ne-zero some) (omega (arith, small)), e) refl

pub returns-then-s-eq0 : goal.returns-then-s-eq0
unfolding finish running_of
returns-then-s-eq0 c = rw (eq-eqb _ _ c.if-s-eq0.true) refl

pub returns-then-is_nan : goal.returns-then-is_nan
returns-then-is_nan c =
    let s = c.args.s in
    finished s _ c.if-s-eq0.false (search rules) (search rules) (not_number (quotient s) (sym c.is_nan.ensures.value ∙ c.if-is_nan.true))

pub returns-then-is_aside : goal.returns-then-is_aside
returns-then-is_aside c = finished c.args.s _ c.if-s-eq0.false (search rules) (search rules) (sym c.is_aside.ensures ∙ c.if-is_aside.true)

pub returns : goal.returns
returns c = finished c.args.s _ c.if-s-eq0.false (search rules) (search rules) (sym c.is_aside.ensures ∙ c.if-is_aside.false)
