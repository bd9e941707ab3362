use mathlib.Core.Path.{◌≡◌}
use Prim.Native.Nat.{◌-◌, ◌<◌, ◌≤◌, ◌^◌}
use native.Mathlib.Omega.{arith}
use Rattle.whole.specs.Whole.{Bytes}
use Rattle.packing.specs.Window.{window_of}
use Rattle.packing.proofs.Windows.{read_turn, window_room}
use Rattle.packing.proofs.Stretch.read.Goals.{In-loop-d}
use Rattle.packing.proofs.Stretch.read.Goals as goal

pub loop-d-init : goal.loop-d-init
unfolding window_of
loop-d-init c =
    let a = c.args in
    let none : a.self.past - a.self.first - (a.self.past - a.self.first) ≡ 0 = omega arith in
    (omega arith, rw none)

-- what is read has room for one byte more
room : (c : In-loop-d) → c.loop-d.x < 2 ^ 32
room c =
    let a = c.args in
    let l = c.loop-d in
    let n = a.self.past - a.self.first - l.d in
    let few : n ≤ 4 = omega (arith, c.requires.few) in
    let bytes : Bytes a.frame.now = λ i. (c.type_inv.frame i).fits in
    omega (arith, window_room a.self.big a.self.first a.self.past a.frame.now bytes l.d n 4 few, l.invariant.1)

pub overflow_mul-x : goal.overflow_mul-x
overflow_mul-x c = let h = room c in omega arith

pub byte-requires : goal.byte-requires
byte-requires c = (omega arith, omega arith)

pub overflow_cast-x : goal.overflow_cast-x
overflow_cast-x c = omega (arith, c.type_inv.frame c.byte.result)

pub overflow_add-x : goal.overflow_add-x
overflow_add-x c =
    let h = room (goal.at.overflow_add-x c).In-loop-d in
    omega (arith, c.type_inv.frame c.byte.result)

pub loop-d-preserved : goal.loop-d-preserved
loop-d-preserved c =
    let l = c.loop-d in
    let a = c.args in
    let turn = read_turn a.self.big a.self.first a.self.past a.frame.now l.d (a.self.past - a.self.first) (omega arith) (omega arith) in
    (omega arith, rw (c.byte.ensures.0, l.invariant.1) turn)

pub returns : goal.returns
returns c =
    let l = c.loop-d in
    let a = c.args in
    let e : l.d ≡ 0 = omega arith in
    let n : a.self.past - a.self.first - 0 ≡ a.self.past - a.self.first = omega arith in
    rw n at (rw e at l.invariant.1)
