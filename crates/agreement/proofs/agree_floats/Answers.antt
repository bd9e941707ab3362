-- `agreement::agree_floats` meets its contract: pick any and vote are those of whole numbers, on the instances that are left.
-- Assumes nothing.
use mathlib.Core.Path.{◌≡◌, refl, ap, sym, ◌∙◌}
use mathlib.Core.List.{List, [], ◌∷◌}
use mathlib.Core.Logic.{◌⊎◌, inl, inr}
use Prim.Native.Nat.{ℕ, zero, suc, ◌<◌, ◌≤◌}
use native.Mathlib.Omega.{arith}
use lib.IntN.{ℤ}
use lib.ListN.{length, get_or-eq_default}
use borrow.Author.Tests.{lt-leb}
use Rattle.std.specs.Prelude.{None}
use Rattle.agreement.specs.declared.Agreement.{Agreement}
use Rattle.agreement.specs.Kinds.{number_of}
use Rattle.agreement.specs.Agreement.{pick_any, vote, agreed}
use Rattle.agreement.specs.Floats.{left_of, float_mean, left_agreed, floats_agreed}
use Rattle.agreement.proofs.FloatLaws.{of_eight}
use Rattle.agreement.proofs.agree_floats.Goals as goal

too_many : (k : ℕ) (l : List ℤ) → 8 < length l → None ≡ floats_agreed k l
unfolding floats_agreed
too_many k l h = rw (lt-leb (length l) 8 h) refl

-- the lists of the two kinds differ at agreement 1 alone
others : (k : ℕ) (l : List ℤ) → (k ≡ 1 → ⊥) → left_agreed k l ≡ agreed k l
unfolding left_agreed agreed
others zero l ne = refl
others (suc zero) l ne = absurd (ne refl)
others (suc (suc zero)) l ne = refl
others (suc (suc (suc k))) l ne = refl

no_mean : (t : Agreement) (k : ℕ) → (t ≡ Agreement.PickAny) ⊎ (t ≡ Agreement.Vote) → number_of t ≡ k → k ≡ 1 → ⊥
no_mean t k (inl e) n m = omega (arith, ap number_of e, n, m)
no_mean t k (inr e) n m = omega (arith, ap number_of e, n, m)

pub returns-then-instances-gt8 : goal.returns-then-instances-gt8
returns-then-instances-gt8 c = too_many c.args.agreement c.args.instances.now c.if-instances-gt8.true

pub returns-in_default : goal.returns-in_default
unfolding left_agreed
returns-in_default c =
    let l = left_of c.args.instances.now in
    let past : 3 ≤ c.args.agreement = c.in_default.ensures in
    sym (of_eight c.args.agreement c.args.instances.now c.if-instances-gt8.false ∙ get_or-eq_default (pick_any l ∷ float_mean l ∷ vote l ∷ []) None past)

pub returns-in-Average : goal.returns-in-Average
unfolding left_agreed
returns-in-Average c =
    let l = c.args.instances.now in
    let number = ap number_of (sym c.in-Average.is) ∙ c.in-Ok.ensures in
    c.float_mean.ensures ∙ rw (← number) (sym (of_eight 1 l c.if-instances-gt8.false))

pub returns-in-PickAny : goal.returns-in-PickAny
returns-in-PickAny c =
    let a = c.args in
    let l = a.instances.now in
    c.agree.ensures
    ∙ ap (agreed a.agreement) (c.deref.ensures.0 ∙ c.left_of.ensures)
    ∙ sym (of_eight a.agreement l c.if-instances-gt8.false ∙ others a.agreement (left_of l) (no_mean c.in-Ok.kind a.agreement c.in-PickAny.is c.in-Ok.ensures))
