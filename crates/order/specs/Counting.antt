-- The counting instances of a message as fields in frames: their frame order, which of them take part in the agreement, and which of these has the
-- lowest frame number.
-- Assumes nothing.
use Rattle.std.specs.Prelude.{◌≡◌, true, false, List, map, ◌↔◌, ℕ, ◌<◌, ◌≤◌, ℤ}
use Rattle.packing.specs.Values.{pattern_of}
use Rattle.float.specs.Patterns.{aside}
use Rattle.store.specs.Node.{Node, is_float, message_at, laid_at}
use Rattle.own.specs.Own.{is_in, Rising}
use Rattle.closing.specs.Closing.{counts, value_in}

-- field d of the layout is an instance of message m, and counts
pub record CountingField (n : Node) (m d : ℕ) : Type 0 where
  pub field : d < n.layout.field_number
  pub message : (laid_at n.layout d).message ≡ m
  pub counting : counts n (laid_at n.layout d) ≡ true

-- the frame number of field d, and the value that it carries as one of message m
abbrev pub frame_number : Node → ℕ → ℕ
frame_number n d = (laid_at n.layout d).frame

abbrev pub carried_value : Node → ℕ → ℕ → ℤ
carried_value n m d = value_in n (message_at n.layout m) (laid_at n.layout d)

-- the list has all counting fields of message m and no others, the lowest frame number first
pub record InFrameOrder (n : Node) (m : ℕ) (l : List ℕ) : Type 0 where
  pub all : (d : ℕ) → (is_in d l ≡ true) ↔ CountingField n m d
  pub rising : Rising (map (frame_number n) l)

-- a counting instance takes part in the agreement if, of a float, it is not set aside
pub record TakesPart (n : Node) (m d : ℕ) : Type 0 where
  pub counting : CountingField n m d
  pub not_aside : is_float (message_at n.layout m) ≡ true → aside (pattern_of 32 (carried_value n m d)) ≡ false

-- and none that takes part has a lower frame number
pub record HasLowestFrame (n : Node) (m d : ℕ) : Type 0 where
  pub part : TakesPart n m d
  pub lowest : (e : ℕ) → TakesPart n m e → frame_number n d ≤ frame_number n e
