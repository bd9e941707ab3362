-- Where the bits of a message lie: the place of each message bit, in both orders; the places of a run are as many as its bits, lie inside the
-- frame and differ. All of it follows from two facts: each frame bit has a place of its own, and each message bit a frame bit of its own.
-- Assumes nothing.
use mathlib.Core.Path.{◌≡◌, refl, ap, ◌∙◌}
use mathlib.Core.Bool.{Bool, true, false, cond, and-eq-true_iff}
use mathlib.Core.List.{List, []}
use mathlib.Core.Logic.{◌⊎◌, ⊎_elim}
use Prim.Native.Nat.{ℕ, zero, suc, ◌+◌, ◌-◌, ◌*◌, ◌/◌, ◌%◌, ◌<◌, ◌≤◌}
use native.Mathlib.Omega.{arith}
use lib.Dec.{leb}
use lib.ListN.{length, get_or}
use borrow.Author.Tests.{leb-true}
use Rattle.packing.specs.Places.{place, place_of, frame_bit, bit_places, places, in_frame, places_in, Inside, Outside, Distinct}

-- ---- a frame bit's place, and a message bit's frame bit

place_below : (big : Bool) (n i : ℕ) → i < n * 8 → place_of big i < n * 8
unfolding place_of
place_below false n i h = omega arith
place_below true n i h = omega arith

pub place_own : (big : Bool) (i j : ℕ) → place_of big i ≡ place_of big j → i ≡ j
unfolding place_of
place_own false i j e = omega arith
place_own true i j e = omega arith

pub frame_bit_inside : (big : Bool) (start w j : ℕ) → j < w → (start ≤ frame_bit big start w j) × (frame_bit big start w j < start + w)
unfolding frame_bit
frame_bit_inside false start w j h = omega arith
frame_bit_inside true start w j h = omega arith

frame_bit_own : (big : Bool) (start w j k : ℕ) → j < w → k < w → frame_bit big start w j ≡ frame_bit big start w k → j ≡ k
unfolding frame_bit
frame_bit_own false start w j k h l e = omega arith
frame_bit_own true start w j k h l e = omega arith

-- a message bit's place lies in the frame
message_place_below : (big : Bool) (n start w j : ℕ) → j < w → start + w ≤ n * 8 → place_of big (frame_bit big start w j) < n * 8
message_place_below big n start w j h l =
    let at = frame_bit_inside big start w j h in
    place_below big n (frame_bit big start w j) (omega arith)

-- each frame bit of the run is that of a message bit
pub message_bit : (big : Bool) (start w i : ℕ) → start ≤ i → i < start + w → (j : ℕ) × (j < w) × (i ≡ frame_bit big start w j)
unfolding frame_bit
message_bit false start w i h l = (i - start, omega arith, omega arith)
message_bit true start w i h l = (w - 1 - (i - start), omega arith, omega arith)

-- ---- the places of n message bits from bit j on

module _ (big : Bool) (start w : ℕ) where
  bits_length : (j n : ℕ) → length (bit_places big start w j n) ≡ n
  unfolding bit_places
  bits_length j zero = refl
  bits_length j (suc n) = ap suc (bits_length (j + 1) n)

  bits_at : (j n k : ℕ) → k < n → get_or (bit_places big start w j n) k 0 ≡ place_of big (frame_bit big start w (j + k))
  unfolding bit_places
  bits_at j zero k h = absurd (omega arith)
  bits_at j (suc n) zero h = ap (λ (i : ℕ). place_of big (frame_bit big start w i)) (omega arith)
  bits_at j (suc n) (suc k) h =
      bits_at (j + 1) n k (omega arith) ∙ ap (λ (i : ℕ). place_of big (frame_bit big start w i)) (omega arith)

  -- what holds of each of the places holds of the list
  bits_inside : (m j n : ℕ) → j + n ≤ w → start + w ≤ m * 8 → Inside m (bit_places big start w j n)
  unfolding bit_places
  bits_inside m j zero h l = tt
  bits_inside m j (suc n) h l = (message_place_below big m start w j (omega arith) l, bits_inside m (j + 1) n (omega arith) l)

  bits_apart : (i j n : ℕ) → ((k : ℕ) → j ≤ k → k < j + n → i ≡ frame_bit big start w k → ⊥) → Outside (place_of big i) (bit_places big start w j n)
  unfolding bit_places
  bits_apart i j zero h = tt
  bits_apart i j (suc n) h = (
    λ e. h j (omega arith) (omega arith) (place_own big i (frame_bit big start w j) e),
    bits_apart i (j + 1) n (λ k l m. h k (omega arith) (omega arith)),
  )

  bits_distinct : (j n : ℕ) → j + n ≤ w → Distinct (bit_places big start w j n)
  unfolding bit_places
  bits_distinct j zero h = tt
  bits_distinct j (suc n) h = (
    bits_apart (frame_bit big start w j) (j + 1) n (λ k l m e. omega (arith, frame_bit_own big start w j k (omega arith) (omega arith) e)),
    bits_distinct (j + 1) n (omega arith),
  )

-- ---- the places of a whole message

pub places_length : (big : Bool) (start w : ℕ) → length (places big start w) ≡ w
unfolding places
places_length big start w = bits_length big start w 0 w

pub places_at : (big : Bool) (start w j : ℕ) → j < w → get_or (places big start w) j 0 ≡ place_of big (frame_bit big start w j)
unfolding places
places_at big start w j h =
    bits_at big start w 0 w j h ∙ ap (λ (i : ℕ). place_of big (frame_bit big start w i)) (omega arith)

-- in little order message bit j lies at frame bit start + j, and frame bit i is bit (i mod 8) of byte (i div 8)
pub little_place : (start w j : ℕ) → j < w → get_or (places false start w) j 0 ≡ place ((start + j) / 8) ((start + j) % 8)
unfolding place_of frame_bit
little_place start w j h = places_at false start w j h

-- in big order message bit j lies as far behind start as it is below the most significant bit, and frame bit i is bit 7 - (i mod 8) of byte (i div 8)
pub big_place : (start w j : ℕ) → j < w
    → get_or (places true start w) j 0 ≡ place ((start + (w - 1 - j)) / 8) (7 - (start + (w - 1 - j)) % 8)
unfolding place_of frame_bit
big_place start w j h = places_at true start w j h

pub places_inside : (big : Bool) (n start w : ℕ) → start + w ≤ n * 8 → Inside n (places big start w)
unfolding places
places_inside big n start w h = bits_inside big start w n 0 w (omega arith) h

pub places_distinct : (big : Bool) (start w : ℕ) → Distinct (places big start w)
unfolding places
places_distinct big start w = bits_distinct big start w 0 w (omega arith)

-- a frame bit outside the run is none of its places
pub places_apart : (big : Bool) (i start w : ℕ) → (i < start) ⊎ (start + w ≤ i) → Outside (place_of big i) (places big start w)
unfolding places
places_apart big i start w h =
    bits_apart big start w i 0 w (λ k l m e. let at = frame_bit_inside big start w k (omega arith) in ⊎_elim (λ b. omega arith) (λ b. omega arith) h)

-- ---- the places of a message in a frame

pub in_frame_bounds : (n start w : ℕ) → in_frame n start w ≡ true → (w ≤ 32) × (start + w ≤ n * 8)
unfolding in_frame
in_frame_bounds n start w t =
    let both = (and-eq-true_iff (leb w 32) (leb (start + w) (n * 8))).0 t in
    (leb-true w 32 both.0, leb-true (start + w) (n * 8) both.1)

module _ (n : ℕ) (big : Bool) (start w : ℕ) where
  pub places_in_places : in_frame n start w ≡ true → places_in n big start w ≡ places big start w
  unfolding places_in
  places_in_places t = rw t

  pub places_in_none : in_frame n start w ≡ false → places_in n big start w ≡ []
  unfolding places_in
  places_in_none t = rw t

  -- what holds of no places, and of those of a message that lies in the frame
  either : (P : List ℕ → Type 0) → P [] → ((w ≤ 32) × (start + w ≤ n * 8) → P (places big start w)) → P (places_in n big start w)
  unfolding places_in
  either P none all = go (in_frame n start w) refl
    where
      go : (t : Bool) → in_frame n start w ≡ t → P (cond t (places big start w) [])
      go true e = all (in_frame_bounds n start w e)
      go false e = none

  pub places_in_inside : Inside n (places_in n big start w)
  places_in_inside = either (Inside n) tt (λ h. places_inside big n start w h.1)

  pub places_in_distinct : Distinct (places_in n big start w)
  places_in_distinct = either Distinct tt (λ h. places_distinct big start w)
