-- `agreement::agree` meets its contract: each agreement's answer is the element at the place of its number, and past the last one there is no result.
-- Assumes nothing.
use mathlib.Core.Path.{ap, sym, ◌∙◌}
use mathlib.Core.List.{[], ◌∷◌}
use Prim.Native.Nat.{◌≤◌}
use lib.ListN.{get_or-eq_default}
use Rattle.std.specs.Prelude.{None}
use Rattle.agreement.specs.Kinds.{number_of}
use Rattle.agreement.specs.Agreement.{pick_any, average, vote, agreed}
use Rattle.agreement.proofs.Turns.{first}
use Rattle.agreement.proofs.agree.Goals as goal

pub returns-in_default : goal.returns-in_default
unfolding agreed
returns-in_default c =
    let l = c.args.instances.now in
    let past : 3 ≤ c.args.agreement = c.in_default.ensures in
    sym (get_or-eq_default (pick_any l ∷ average l ∷ vote l ∷ []) None past)

pub returns-in-PickAny : goal.returns-in-PickAny
unfolding agreed
returns-in-PickAny c =
    let number = ap number_of (sym c.in-PickAny.is) ∙ c.in-Ok.ensures in
    rw (← number) (c.copied.ensures ∙ c.first.ensures.value ∙ first c.args.instances.now)

pub returns-in-Average : goal.returns-in-Average
unfolding agreed
returns-in-Average c =
    let number = ap number_of (sym c.in-Average.is) ∙ c.in-Ok.ensures in
    rw (← number) c.mean.ensures

pub returns-in-Vote : goal.returns-in-Vote
unfolding agreed
returns-in-Vote c =
    let number = ap number_of (sym c.in-Vote.is) ∙ c.in-Ok.ensures in
    rw (← number) c.voted.ensures
