-- Where the bits of a message lie in a frame, and what packing and unpacking mean. A frame is the list of its bytes. A place is one bit of it,
-- numbered 8 * byte + bit with bit 0 of a byte the least significant, whatever the frame's order; `big` is true for big order.
-- Assumes nothing.
use Rattle.std.specs.Prelude.{◌≡◌, Bool, true, false, cond, ◌&&◌, List, [], ◌∷◌, ℕ, zero, suc, ◌+◌, ◌-◌, ◌*◌, ◌/◌, ◌%◌, ◌^◌, ◌<◌, leb, get_or, set}

-- ---- one bit

-- bit k of the number x
unfoldable pub bit_of : ℕ → ℕ → ℕ
bit_of x k = x / 2 ^ k % 2

-- the number x with b for its bit k
unfoldable pub with_bit : ℕ → ℕ → ℕ → ℕ
with_bit x k b = x - bit_of x k * 2 ^ k + b * 2 ^ k

-- the frame's bit at a place
unfoldable pub bit_at : List ℕ → ℕ → ℕ
bit_at f p = bit_of (get_or f (p / 8) 0) (p % 8)

-- the frame with b for its bit at a place
unfoldable pub put_bit : List ℕ → ℕ → ℕ → List ℕ
put_bit f p b = set f (p / 8) (with_bit (get_or f (p / 8) 0) (p % 8) b)

-- ---- where the bits lie

-- a bit of a byte
abbrev pub place : ℕ → ℕ → ℕ
place byte bit = byte * 8 + bit

-- frame bit i is bit (i mod 8) of byte (i div 8) in little order, and bit 7 - (i mod 8) of it in big order
unfoldable pub place_of : Bool → ℕ → ℕ
place_of false i = place (i / 8) (i % 8)
place_of true i = place (i / 8) (7 - i % 8)

-- message bit j, of w bits, lies at start + j in little order; in big order the most significant one, w - 1, lies at start, the lower ones behind it
unfoldable pub frame_bit : Bool → ℕ → ℕ → ℕ → ℕ
frame_bit false start w j = start + j
frame_bit true start w j = start + (w - 1 - j)

-- the places of n message bits from bit j on
unfoldable pub bit_places : Bool → ℕ → ℕ → ℕ → ℕ → List ℕ
bit_places big start w j zero = []
bit_places big start w j (suc n) = place_of big (frame_bit big start w j) ∷ bit_places big start w (j + 1) n

-- the places of all w message bits, the least significant first
unfoldable pub places : Bool → ℕ → ℕ → List ℕ
places big start w = bit_places big start w 0 w

-- w bits from start, no more than a message may have, lie in a frame of n bytes
unfoldable pub in_frame : ℕ → ℕ → ℕ → Bool
in_frame n start w = leb w 32 && leb (start + w) (n * 8)

-- their places in such a frame: none at all where they do not lie in it
unfoldable pub places_in : ℕ → Bool → ℕ → ℕ → List ℕ
places_in n big start w = cond (in_frame n start w) (places big start w) []

-- ---- packing and unpacking, for any list of places

-- the pattern's bits go to the places, its lowest to the first, and every other bit of the frame stays
unfoldable pub packed : List ℕ → ℕ → List ℕ → List ℕ
packed [] v f = f
packed (p ∷ ps) v f = packed ps (v / 2) (put_bit f p (v % 2))

-- the pattern that stands at the places
unfoldable pub unpacked : List ℕ → List ℕ → ℕ
unpacked [] f = 0
unpacked (p ∷ ps) f = unpacked ps f * 2 + bit_at f p

-- ---- what is said of places

-- each lies in a frame of n bytes
abbrev pub Inside : ℕ → List ℕ → Type 0
Inside n [] = Unit {0}
Inside n (p ∷ ps) = (p < n * 8) × Inside n ps

-- none of them is q
abbrev pub Outside : ℕ → List ℕ → Type 0
Outside q [] = Unit {0}
Outside q (p ∷ ps) = (q ≡ p → ⊥) × Outside q ps

-- no place occurs twice
abbrev pub Distinct : List ℕ → Type 0
Distinct [] = Unit {0}
Distinct (p ∷ ps) = Outside p ps × Distinct ps

-- two lists share no place
abbrev pub Disjoint : List ℕ → List ℕ → Type 0
Disjoint [] qs = Unit {0}
Disjoint (p ∷ ps) qs = Outside p qs × Disjoint ps qs

-- two frames have the same bit at each
abbrev pub Agree : List ℕ → List ℕ → List ℕ → Type 0
Agree f g [] = Unit {0}
Agree f g (p ∷ ps) = (bit_at f p ≡ bit_at g p) × Agree f g ps
