-- What holds of where bits lie, of packing and unpacking at any places, and of values and their patterns. Each line is a theorem; proofs/Claims.antt says
-- where it is proved.
-- Assumes nothing.
use Rattle.std.specs.Prelude.{◌≡◌, Bool, true, false, List, ◌++◌, ◌↔◌, ℕ, ◌+◌, ◌-◌, ◌*◌, ◌/◌, ◌%◌, ◌^◌, ◌<◌, ℤ, length, get_or}
use Rattle.whole.specs.Whole.{Bytes}
use Rattle.packing.specs.Places.{bit_of, bit_at, place, places, in_frame, places_in, packed, unpacked}
use Rattle.packing.specs.Places.{Inside, Outside, Distinct, Disjoint, Agree}
use Rattle.packing.specs.Values.{is_width, in_range, value_of, pattern_of, extended}

pub record Claims : Type 0 where
  -- Little order: message bit j lies at start + j, and frame bit i is bit (i mod 8) of byte (i div 8)
  pub little_place : (start w j : ℕ) → j < w → get_or (places false start w) j 0 ≡ place ((start + j) / 8) ((start + j) % 8)
  -- Big order: the most significant message bit lies at start, the lower ones behind it, and frame bit i is bit 7 - (i mod 8) of byte (i div 8)
  pub big_place : (start w j : ℕ) → j < w
      → get_or (places true start w) j 0 ≡ place ((start + (w - 1 - j)) / 8) (7 - (start + (w - 1 - j)) % 8)
  -- The places of any field lie in its frame, and no two of them are the same
  pub inside : (n : ℕ) (big : Bool) (start w : ℕ) → Inside n (places_in n big start w)
  pub distinct : (n : ℕ) (big : Bool) (start w : ℕ) → Distinct (places_in n big start w)
  -- What a field packs it unpacks again: the pattern, as far as there are places for it; and the value
  pub round_trip : (ps : List ℕ) (v : ℕ) (f : List ℕ) → Inside (length f) ps → Distinct ps → unpacked ps (packed ps v f) ≡ v % 2 ^ length ps
  pub there_and_back : (signed big : Bool) (start w : ℕ) (z : ℤ) (f : List ℕ) → in_frame (length f) start w ≡ true → in_range signed w z ≡ true
      → value_of signed w (unpacked (places_in (length f) big start w) (packed (places_in (length f) big start w) (pattern_of 32 z) f)) ≡ z
  -- Bit j of the pattern stands at place j
  pub packed_bit : (ps : List ℕ) (v : ℕ) (f : List ℕ) (j : ℕ) → Inside (length f) ps → Distinct ps → j < length ps
      → bit_at (packed ps v f) (get_or ps j 0) ≡ bit_of v j
  -- No other bit of the frame changes; the frame stays a frame of as many bytes
  pub packed_other : (q : ℕ) (ps : List ℕ) (v : ℕ) (f : List ℕ) → Outside q ps → bit_at (packed ps v f) q ≡ bit_at f q
  pub packed_length : (ps : List ℕ) (v : ℕ) (f : List ℕ) → length (packed ps v f) ≡ length f
  pub packed_bytes : (ps : List ℕ) (v : ℕ) (f : List ℕ) → Bytes f → Bytes (packed ps v f)
  -- Two fields that share no bit are packed in either order, and each reads what it read before the other was packed
  pub packed_exchange : (ps qs : List ℕ) (v u : ℕ) (f : List ℕ) → Disjoint ps qs → packed ps v (packed qs u f) ≡ packed qs u (packed ps v f)
  pub unpacked_other : (ps qs : List ℕ) (u : ℕ) (f : List ℕ) → Disjoint ps qs → unpacked ps (packed qs u f) ≡ unpacked ps f
  -- What is unpacked depends on the bits at the places, on each of them and on no other
  pub agree : (ps f g : List ℕ) → Agree f g ps ↔ (unpacked ps f ≡ unpacked ps g)
  -- Of the pattern, only as many bits count as there are places
  pub packed_lowest : (ps : List ℕ) (v : ℕ) (f : List ℕ) → packed ps (v % 2 ^ length ps) f ≡ packed ps v f
  -- One run of places after another: the first takes the pattern's lowest bits, the second what is left of it
  pub packed_append : (ps qs : List ℕ) (v : ℕ) (f : List ℕ) → packed (ps ++ qs) v f ≡ packed qs (v / 2 ^ length ps) (packed ps v f)
  pub unpacked_append : (ps qs f : List ℕ) → unpacked (ps ++ qs) f ≡ unpacked qs f * 2 ^ length ps + unpacked ps f
  -- Values and patterns of a width stand for each other: two's complement
  pub value_pattern : (signed : Bool) (w : ℕ) (z : ℤ) → in_range signed w z ≡ true → value_of signed w (pattern_of w z) ≡ z
  pub pattern_value : (signed : Bool) (w v : ℕ) → v < 2 ^ w → pattern_of w (value_of signed w v) ≡ v
  pub value_range : (signed : Bool) (w v : ℕ) → is_width w ≡ true → v < 2 ^ w → in_range signed w (value_of signed w v) ≡ true
  -- A word is zero- or sign-extended from w bits exactly if it is the 32-bit pattern of a value that a message of w bits holds
  pub extended_pattern : (signed : Bool) (w x : ℕ) → (extended signed w x ≡ true) ↔ ((z : ℤ) × (x ≡ pattern_of 32 z) × (in_range signed w z ≡ true))
