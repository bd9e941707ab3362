use mathlib.Core.Path.{◌≡◌, refl, sym, ◌∙◌}
use Prim.Native.Nat.{suc, ◌+◌, ◌-◌, ◌*◌, ◌/◌, ◌^◌, ◌<◌}
use native.Mathlib.Omega.{arith}
use lib.Bits.{and_zero_r}
use lib.ListN.{length-set}
use Rattle.packing.proofs.Windows.{byte_in_mask, mask_turn, replaced_none, replaced_step, rest_in_mask, set_bytes}
use Rattle.packing.proofs.Stretch.put.Goals.{In-loop-m}
use Rattle.packing.proofs.Stretch.put.Goals as goal

pub loop-m-init : goal.loop-m-init
loop-m-init c =
    let a = c.args in
    let e : a.self.past - a.self.first - 0 ≡ a.self.past - a.self.first = omega arith in
    (omega arith, refl, λ i. (c.type_inv.frame i).fits, rw e c.requires.1, c.requires.2, rw e)

-- byte d is one of them, and the rest of the mask one of the bytes behind it
left : (c : In-loop-m) →
    let n = c.args.self.past - c.args.self.first in
    let l = c.loop-m in
    (l.d < n) × (l.m / 256 < 2 ^ ((n - (l.d + 1)) * 8))
left c = let l = c.loop-m in mask_turn _ l.d l.m (omega arith) l.invariant.3

pub byte-i-requires : goal.byte-i-requires
byte-i-requires c = let h = left c in (omega arith, omega arith)

pub replaced_byte-requires : goal.replaced_byte-requires
replaced_byte-requires c = let l = c.loop-m in byte_in_mask l.m l.y l.invariant.4

pub loop-m-preserved : goal.loop-m-preserved
loop-m-preserved c =
    let l = c.loop-m in
    let a = c.args in
    let i = c.byte-i.result in
    let n = a.self.past - a.self.first in
    let h = left (goal.at.loop-m-preserved c).In-loop-m in
    let e : n - l.d ≡ suc (n - (l.d + 1)) = omega arith in
    let step = replaced_step a.self.big a.self.first a.self.past l.frame l.d (n - (l.d + 1)) l.m l.y l.invariant.2 (omega arith) l.invariant.4 in (
      omega arith,
      length-set l.frame i _ ∙ l.invariant.1,
      set_bytes l.frame i _ l.invariant.2 (omega arith),
      h.1,
      rest_in_mask l.m l.y l.invariant.4,
      rw (c.replaced_byte.ensures, c.byte-i.ensures.0) (sym step ∙ rw e at l.invariant.5),
    )

pub shape_of-frame : goal.shape_of-frame
shape_of-frame c = c.loop-m.invariant.1

pub returns : goal.returns
returns c =
    let l = c.loop-m in
    let a = c.args in
    let m : l.m ≡ 0 = omega arith in
    let y : l.y ≡ 0 = sym l.invariant.4 ∙ rw m (and_zero_r l.y) in
    sym (replaced_none a.self.big a.self.first a.self.past l.frame l.invariant.2 l.d _ (omega arith)) ∙ rw (m, y) at l.invariant.5
