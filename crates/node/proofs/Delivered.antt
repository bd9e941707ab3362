-- The data of a frame of a sound node: as long as the frame, and what was delivered last.
-- Assumes nothing.
use mathlib.Core.Path.{◌≡◌, ◌∙◌}
use mathlib.Core.List.{List}
use Prim.Native.Nat.{ℕ, ◌<◌, ◌≤◌}
use native.Mathlib.Omega.{arith}
use lib.ListN.{length, take, length-take}
use lib.Seq.{take_all, take-length, take_at}
use Rattle.store.specs.declared.Frame.{Frame}
use Rattle.store.specs.Node.{Delivery, Node, frame_at, delivery_at, data_at}
use Rattle.node.specs.Calls.{kept}
use Rattle.node.specs.Sound.{SoundDelivery, Sound}

pub data_length : {n : Node} → Sound n → (f : ℕ) → f < n.layout.frame_number → length (data_at n f) ≡ (frame_at n.layout f).length
data_length {n} s f l =
    let h = s.layout.frames f l in
    let y = s.state.deliveries f l in
    length-take (frame_at n.layout f).length (delivery_at n.state f).bytes ∙ omega arith

pub kept_data : (h : Frame) (y : Delivery) (d : List ℕ) → SoundDelivery h y → h.length ≤ 32 → length d ≡ h.length
    → take h.length (kept y d).bytes ≡ d
unfolding kept
kept_data h y d s few size = let room : length d ≤ 32 = omega arith in rw (take_all 32 d room, take-length) (take_at d _ h.length size)
