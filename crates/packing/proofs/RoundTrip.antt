-- A value that is packed into a field and unpacked again is the same value: the round trip of the field's places, and that of the width's patterns.
-- Assumes nothing.
use mathlib.Core.Path.{◌≡◌, ap, ◌∙◌}
use mathlib.Core.Bool.{Bool, true}
use mathlib.Core.List.{List}
use Prim.Native.Nat.{ℕ}
use lib.IntN.{ℤ}
use lib.ListN.{length}
use Rattle.packing.specs.Places.{in_frame, places_in, packed, unpacked}
use Rattle.packing.specs.Values.{in_range, value_of, pattern_of}
use Rattle.packing.proofs.Frame.{round_trip}
use Rattle.packing.proofs.Places.{places_length, in_frame_bounds, places_in_places, places_in_inside, places_in_distinct}
use Rattle.packing.proofs.Values.{pattern_lowest, value_pattern}

pub there_and_back : (signed big : Bool) (start w : ℕ) (z : ℤ) (f : List ℕ) → in_frame (length f) start w ≡ true → in_range signed w z ≡ true
    → value_of signed w (unpacked (places_in (length f) big start w) (packed (places_in (length f) big start w) (pattern_of 32 z) f)) ≡ z
there_and_back signed big start w z f i r =
    let n = length f in
    let ps = places_in n big start w in
    let pattern = round_trip ps (pattern_of 32 z) f (places_in_inside n big start w) (places_in_distinct n big start w) in
    let bits : length ps ≡ w = ap length (places_in_places n big start w i) ∙ places_length big start w in
    rw (pattern, bits, pattern_lowest 32 w z (in_frame_bounds n start w i).0) (value_pattern signed w z r)
