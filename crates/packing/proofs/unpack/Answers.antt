-- `packing::unpack` meets its contract: where the field lies in the frame its places are those of the whole message, and else there are none.
-- Assumes nothing.
use mathlib.Core.Path.{◌≡◌, sym, ◌∙◌}
use mathlib.Core.Bool.{true}
use lib.ListN.{length}
use Rattle.packing.specs.Places.{in_frame, unpacked}
use Rattle.packing.proofs.Places.{in_frame_bounds, places_in_places, places_in_none}
use Rattle.packing.proofs.unpack.Goals.{Then-is_in}
use Rattle.packing.proofs.unpack.Goals as goal

lies : (c : Then-is_in) →
    let a = c.args in
    in_frame (length a.frame.now) a.start a.width ≡ true
lies c = sym c.is_in.ensures ∙ c.if-is_in.true

pub unpack-requires : goal.unpack-requires
unpack-requires c =
    let a = c.args in
    let h = in_frame_bounds (length a.frame.now) a.start a.width (lies c) in
    (h.1, h.0)

pub returns-then-is_in : goal.returns-then-is_in
returns-then-is_in c =
    let a = c.args in
    rw (places_in_places (length a.frame.now) a.big a.start a.width (lies (goal.at.returns-then-is_in c).Then-is_in))
    c.unpack.ensures

pub returns-else-is_in : goal.returns-else-is_in
unfolding unpacked
returns-else-is_in c =
    let a = c.args in
    rw (places_in_none (length a.frame.now) a.big a.start a.width (sym c.is_in.ensures ∙ c.if-is_in.false))
