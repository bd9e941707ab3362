-- `packing::unpack_in` meets its contract: where the field lies in the first n bytes, what stands behind them is not read.
-- Assumes nothing.
use mathlib.Core.Path.{◌≡◌, sym, ◌∙◌}
use mathlib.Core.Bool.{true}
use native.Mathlib.Omega.{arith}
use Rattle.packing.specs.Places.{in_frame, unpacked}
use Rattle.packing.proofs.Places.{in_frame_bounds, places_inside, places_in_places, places_in_none}
use Rattle.packing.proofs.Windows.{unpacked_none, unpacked_take}
use Rattle.packing.proofs.unpack_in.Goals.{Then-is_in, else-width-gt0-via-then-width-gt0+else-is_in, else-width-gt0-via-else-width-gt0}
use Rattle.packing.proofs.unpack_in.Goals as goal

lies : (c : Then-is_in) →
    let a = c.args in
    in_frame a.n a.start a.width ≡ true
lies c = sym c.is_in.ensures ∙ c.if-is_in.true

pub unpack_wide-requires : goal.unpack_wide-requires
unpack_wide-requires c =
    let a = c.args in
    let h = in_frame_bounds a.n a.start a.width (lies c) in
    (omega arith, omega arith, h.0)

pub returns-then-is_in : goal.returns-then-is_in
returns-then-is_in c =
    let a = c.args in
    let h = in_frame_bounds a.n a.start a.width (lies (goal.at.returns-then-is_in c).Then-is_in) in
    rw (places_in_places a.n a.big a.start a.width (lies (goal.at.returns-then-is_in c).Then-is_in))
    (c.unpack_wide.ensures ∙ sym (unpacked_take a.n _ a.room.now (places_inside a.big a.n a.start a.width h.1)))

pub returns-else-width-gt0 : goal.returns-else-width-gt0
unfolding unpacked
returns-else-width-gt0 c =
    let a = c.args in
    elim c.else-width-gt0.branch [
      | else-width-gt0-via-then-width-gt0+else-is_in w ↦ rw (places_in_none a.n a.big a.start a.width (sym w.is_in.ensures ∙ w.if-is_in.false))
      | else-width-gt0-via-else-width-gt0 w ↦ sym (unpacked_none a.n a.big a.start a.width _ (omega arith))
    ]
