use mathlib.Core.Path.{◌≡◌, ap, sym, ◌∙◌}
use Prim.Native.Nat.{◌+◌}
use native.Mathlib.Omega.{arith}
use lib.IntN.{pos}
use lib.ListN.{drop, get_or}
use mir.Syntax.{w64}
use mir.Val.{SFits, to_z, of_z}
use mir.ValLaws.{to_z-of_z}
use borrow.Author.Rules.{rules}
use Rattle.std.specs.Prelude.{Some}
use Rattle.packing.specs.Values.{pattern_of}
use Rattle.float.specs.Running.{more, finish, running_of}
use Rattle.agreement.specs.Floats.{left_of, float_mean}
use Rattle.agreement.proofs.Running.{running_from, turn, end, agreed_mean, running_mean}
use Rattle.agreement.proofs.float_mean.Goals.{After-divide}
use Rattle.agreement.proofs.float_mean.Goals as goal

pub loop-v-init : goal.loop-v-init
loop-v-init c = ap (λ r. running_from r c.args.instances.now) (sym c.no_sum-s.ensures)

pub loop-v-preserved : goal.loop-v-preserved
loop-v-preserved c =
    let p = c.loop-v in
    let l = c.args.instances.now in
    let v = get_or l p.v-index (pos 0) in
    let fits : SFits w64 v = search rules in
    let read = to_z-of_z w64 v fits in
    let added = c.add-s.ensures ∙ ap (more (running_of p.s)) (c.pattern_of.ensures ∙ ap (pattern_of 32) read) in
    p.invariant ∙ turn (running_of p.s) l p.v-index (omega arith) ∙ ap (λ r. running_from r (drop (p.v-index + 1) l)) (sym added)

-- the loop is through: what `divide` answers is the mean of those that are left
mean_is : (c : After-divide) → agreed_mean c.divide.result ≡ float_mean (left_of c.args.instances.now)
mean_is c =
    let p = c.loop-v in
    let l = c.args.instances.now in
    ap agreed_mean (c.divide.ensures ∙ ap finish (sym (p.invariant ∙ end (running_of p.s) l p.v-index (omega arith)))) ∙ running_mean l c.requires

pub returns-in_err-divide : goal.returns-in_err-divide
returns-in_err-divide c = c.from_residual.ensures ∙ sym (ap agreed_mean c.in_err-divide.was) ∙ mean_is (goal.at.returns-in_err-divide c).After-divide

pub returns : goal.returns
returns c =
    let read : to_z w64 (of_z w64 c.from.result) ≡ c.from.result = search rules in
    ap Some (read ∙ c.from.ensures) ∙ sym (ap agreed_mean c.in_ok-divide.was) ∙ mean_is (goal.at.returns c).After-divide
