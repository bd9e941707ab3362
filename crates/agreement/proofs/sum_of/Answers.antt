use mathlib.Core.Path.{◌≡◌, sym}
use mathlib.Core.List.{List}
use Prim.Native.Nat.{◌≤◌, ◌+◌, ◌*◌, ◌^◌}
use native.Mathlib.Omega.{arith}
use lib.IntN.{ℤ, pos, nat_abs, ◌+ℤ◌, +ℤ_idl}
use lib.ListN.{get_or}
use mir.Syntax.{w64}
use mir.Val.{to_z, of_z}
use Rattle.whole.proofs.Integers.{small_fits, back}
use Rattle.agreement.specs.Agreement.{message_value}
use Rattle.agreement.proofs.Quotient.{abs_add}
use Rattle.agreement.proofs.MessageValues.{value_small, all_at, values_parts}
use Rattle.agreement.proofs.Turns.{sum_turn, sum_end}
use Rattle.agreement.proofs.sum_of.Goals.{In-loop-v}
use Rattle.agreement.proofs.sum_of.Goals as goal

pub loop-v-init : goal.loop-v-init
loop-v-init c = (omega arith, sym (+ℤ_idl _))

-- a turn: the instance that it adds, read back from its bits, and the sum with it, which has room
module _ (c : In-loop-v) where
  abbrev instances : List ℤ
  instances = c.args.instances.now

  abbrev added : ℤ
  added = get_or instances c.loop-v.v-index (pos 0)

  abbrev sum : ℤ
  sum = to_z w64 c.loop-v.s-bits +ℤ added

  value : nat_abs added ≤ 2 ^ 32
  value = value_small added (all_at message_value instances c.loop-v.v-index (pos 0) (values_parts instances c.requires).2 (omega arith))

  read : to_z w64 (of_z w64 added) ≡ added
  read = back added (omega (arith, value))

  small : nat_abs sum ≤ (c.loop-v.v-index + 1) * 2 ^ 32
  small = omega (arith, value, abs_add (to_z w64 c.loop-v.s-bits) added)

  room : nat_abs sum ≤ 2 ^ 40
  room = omega (arith, small, (values_parts instances c.requires).1)

pub overflow_add-s : goal.overflow_add-s
overflow_add-s c =
    let turn = (goal.at.overflow_add-s c).In-loop-v in
    rw (read turn) (small_fits (sum turn) (room turn))

pub loop-v-preserved : goal.loop-v-preserved
loop-v-preserved c =
    let turn = (goal.at.loop-v-preserved c).In-loop-v in
    let p = c.loop-v in
    rw (read turn, back (sum turn) (room turn))
    (small turn, sum_turn (instances turn) p.v-index (omega arith) (to_z w64 p.s-bits) p.invariant.1)

pub returns : goal.returns
returns c =
    let l = c.args.instances.now in
    let p = c.loop-v in
    (sum_end l p.v-index (omega arith) (to_z w64 p.s-bits) p.invariant.1, omega (arith, (values_parts l c.requires).1))
