-- `filter::is_below` meets its contract: floats have the order of their ranks, and other values their own. Assumes nothing.
use mathlib.Core.Path.{◌≡◌, ap, ◌∙◌}
use lib.IntN.{ℤ}
use mir.Syntax.{w64}
use mir.Val.{SFits, to_z, of_z}
use mir.ValLaws.{to_z-of_z}
use Rattle.packing.specs.Values.{pattern_of}
use Rattle.float.specs.Patterns.{rank_of}
use Rattle.float.proofs.Ranks.{rank_below}
use Rattle.filter.specs.Filter.{compared}
use borrow.Author.Tests.{eq-eqb, ne_eqb}
use Rattle.filter.proofs.is_below.Goals as goal

-- the rank r that `rank_of` answers for a value u
ranked : (u r : ℤ) → SFits w64 u → SFits w64 r → r ≡ rank_of (pattern_of 32 (to_z w64 (of_z w64 u))) → to_z w64 (of_z w64 r) ≡ rank_of (pattern_of 32 u)
ranked u r f g e = to_z-of_z w64 r g ∙ e ∙ ap (λ (v : ℤ). rank_of (pattern_of 32 v)) (to_z-of_z w64 u f)

pub returns-then-sign-eq-FLOAT : goal.returns-then-sign-eq-FLOAT
unfolding compared
returns-then-sign-eq-FLOAT c =
    let a = c.args in
    let f = c.ranges in
    let r₁ = c.rank_of in
    let r₂ = c.rank_of-then-sign-eq-FLOAT in
    rw (
      eq-eqb _ _ c.if-sign-eq-FLOAT.true,
      ranked a.u r₁.result f.u (record { sfits = r₁.type_inv }) r₁.ensures,
      ranked a.v r₂.result f.v (record { sfits = r₂.type_inv }) r₂.ensures,
    )
    (rank_below (pattern_of 32 a.u) (pattern_of 32 a.v))

pub returns : goal.returns
unfolding compared
returns c =
    rw (ne_eqb _ _ c.if-sign-eq-FLOAT.false, to_z-of_z w64 c.args.u c.ranges.u, to_z-of_z w64 c.args.v c.ranges.v)
