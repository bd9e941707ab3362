-- `agreement::mean` meets its contract. The code's two tests are those of `message_values`, so a sum is taken of such instances alone; the sum and the quotient
-- have room, so that each is read back from its bits as it is. Assumes nothing.
use mathlib.Core.Path.{◌≡◌, ap, ap₂, sym, ◌∙◌}
use mathlib.Core.Bool.{Bool, true, false, not, ◌&&◌, ◌||◌}
use mathlib.Core.List.{List}
use Prim.Native.Nat.{◌≤◌, ◌^◌}
use native.Mathlib.Omega.{arith}
use lib.Dec.{ltb}
use lib.IntN.{ℤ, pos, nat_abs}
use lib.ListN.{length}
use lib.Signed.{quot_z}
use mir.Syntax.{w64}
use mir.Val.{SFits, to_z, of_z}
use mir.ValLaws.{to_z-of_z, to_z_pos}
use Rattle.std.specs.Prelude.{Some}
use Rattle.std.proofs.lemmas.Int.{ints}
use Rattle.whole.specs.Whole.{all_of}
use Rattle.whole.proofs.Integers.{small_fits, back}
use Rattle.agreement.specs.Agreement.{sum_of, mean_of, message_value, message_values}
use Rattle.agreement.proofs.MessageValues.{values_test, values_parts, no_mean, has_mean}
use Rattle.agreement.proofs.Quotient.{quotient_small}
use Rattle.agreement.proofs.mean.Goals.{Else-not-all_values}
use Rattle.agreement.proofs.mean.Goals as goal

pub returns-then-n : goal.returns-then-n
returns-then-n c =
    let l = c.args.instances.now in
    no_mean l (values_test l ∙ ap (λ t. not t && all_of message_value l) c.if-n.true)

-- after the test of the count, that of the values decides
decided : (l : List ℤ) (t : Bool) → (ltb (length l) 1 || ltb 8 (length l)) ≡ false → t ≡ all_of message_value l → message_values l ≡ t
decided l t few e = values_test l ∙ ap (λ b. not b && all_of message_value l) few ∙ sym e

pub returns-then-not-all_values : goal.returns-then-not-all_values
unfolding all_of
returns-then-not-all_values c =
    let l = c.args.instances.now in
    no_mean l (decided l c.all_values.result c.if-n.false c.all_values.ensures ∙ c.if-not-all_values.true)

passed : (c : Else-not-all_values) → message_values c.args.instances.now ≡ true
unfolding all_of
passed c = decided c.args.instances.now c.all_values.result c.if-n.false c.all_values.ensures ∙ c.if-not-all_values.false

pub sum_of-requires : goal.sum_of-requires
sum_of-requires c = passed c

-- whatever divides it, a sum that has room leaves its quotient room
room : (s d : ℤ) → nat_abs s ≤ 2 ^ 35 → SFits w64 (quot_z s d)
room s d h = small_fits (quot_z s d) (omega (arith, quotient_small s d))

pub nonzero_div-result : goal.nonzero_div-result
nonzero_div-result c =
    let parts = values_parts c.args.instances.now (passed (goal.at.nonzero_div-result c).Else-not-all_values) in
    (omega (arith, parts.0), search (arith, ints, room, c.sum_of.ensures.1))

mean_is : (s : ℤ) (l : List ℤ) → s ≡ sum_of l → quot_z s (pos (length l)) ≡ mean_of l
unfolding mean_of
mean_is s l e = ap (λ z. quot_z z (pos (length l))) e

-- the bits stand for the sum, the count and the quotient
pub returns : goal.returns
returns c =
    let l = c.args.instances.now in
    let s = c.sum_of.result in
    let small = c.sum_of.ensures.1 in
    let values = passed (goal.at.returns c).Else-not-all_values in
    let read_sum : to_z w64 (of_z w64 s) ≡ s = back s (omega arith) in
    let read_count : to_z w64 (length l) ≡ pos (length l) = to_z_pos w64 (length l) (omega (arith, (values_parts l values).1)) in
    let read = to_z-of_z w64 _ (room s (pos (length l)) small) in
    ap Some (ap (λ z. to_z w64 (of_z w64 z)) (ap₂ quot_z read_sum read_count) ∙ read ∙ mean_is s l c.sum_of.ensures.0) ∙ has_mean l values
