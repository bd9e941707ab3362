-- A field's bytes as one number, which the code of unpacking reads at once and that of packing changes byte by byte. The contracts of `pack` and
-- `unpack` speak of places alone.
-- Assumes nothing.
use Rattle.std.specs.Prelude.{Bool, true, false, List, ℕ, zero, suc, ◌+◌, ◌-◌, ◌*◌, ◌/◌, ◌%◌, ◌<◌, ◌≤◌, get_or, set}
use Rattle.std.specs.Int.Bits.{bit_and}

-- the bytes first .. past of a frame of n bytes, no more than a message of 32 bits can touch
pub record Window (n first past : ℕ) : Type 0 where
  pub ordered : first ≤ past
  pub inside : past ≤ n
  pub few : past ≤ first + 5
  pub short : past ≤ 36

-- bytes that hold a field from start to end, the field's lowest bit among the lowest 64 of their number
pub record Around (first past start end : ℕ) : Type 0 where
  pub from : first * 8 ≤ start
  pub to : end ≤ past * 8
  pub short : past ≤ 44
  pub before : start < first * 8 + 64
  pub behind : past * 8 < end + 64

-- byte d of these, counted from the one with the message's lowest bits
unfoldable pub window_byte : Bool → ℕ → ℕ → ℕ → ℕ
window_byte false first past d = first + d
window_byte true first past d = past - 1 - d

-- n of these bytes from byte d on as a number, byte d the lowest
unfoldable pub window_of : Bool → ℕ → ℕ → List ℕ → ℕ → ℕ → ℕ
window_of big first past f d zero = 0
window_of big first past f d (suc n) = window_of big first past f (d + 1) n * 256 + get_or f (window_byte big first past d) 0

-- the frame with a number for these bytes
unfoldable pub with_window : Bool → ℕ → ℕ → ℕ → ℕ → ℕ → List ℕ → List ℕ
with_window big first past d zero y f = f
with_window big first past d (suc n) y f = with_window big first past (d + 1) n (y / 256) (set f (window_byte big first past d) (y % 256))

-- the number x with the bits of y, all of them in the mask m, for its own bits there
unfoldable pub replaced : ℕ → ℕ → ℕ → ℕ
replaced x m y = x - bit_and x m + y

-- the frame with n of these bytes from byte d on, as a number, changed so
unfoldable pub with_replaced : Bool → ℕ → ℕ → ℕ → ℕ → ℕ → ℕ → List ℕ → List ℕ
with_replaced big first past d n m y f = with_window big first past d n (replaced (window_of big first past f d n) m y) f

-- the number's bit that is the lowest of a field from start to end
unfoldable pub low_bit : Bool → ℕ → ℕ → ℕ → ℕ → ℕ
low_bit false first past start end = start - first * 8
low_bit true first past start end = past * 8 - end
