-- The table of used bits: 32 rows of 32 bytes, a row for each frame, and eight bytes behind the last. Bit b % 8 of byte b / 8 of row f is 1 where
-- bit b of frame f is used. A place of the table is numbered as one of a frame: 8 * byte + bit.
-- Assumes nothing.
use Rattle.std.specs.Prelude.{Bool, false, ◌&&◌, List, ◌++◌, ℕ, ◌+◌, ◌-◌, ◌*◌, ◌^◌, eqb, ltb, leb, take, drop}
use Rattle.packing.specs.Places.{bit_at, places, packed}
use Rattle.record.specs.Numbers.{any_below}
use Rattle.record.specs.declared.Run.{Run}

-- the bytes of the table
abbrev pub table_size : ℕ
table_size = 1032

-- bit b of frame f is used
unfoldable pub is_used : List ℕ → ℕ → ℕ → Bool
is_used t f b = eqb (bit_at t (f * 256 + b)) 1

-- frame bit b is one of the run's
unfoldable pub in_run : Run → ℕ → Bool
in_run a b = leb a.start b && ltb b (a.start + a.width)

-- a bit of the run is used in frame f
unfoldable pub any_used : List ℕ → ℕ → Run → Bool
any_used t f a = any_below (λ k. is_used t f (a.start + k)) a.width

-- row f, and the table with another in its place
abbrev pub row : List ℕ → ℕ → List ℕ
row t f = take 32 (drop (f * 32) t)

abbrev pub with_row : List ℕ → ℕ → List ℕ → List ℕ
with_row t f r = take (f * 32) t ++ (r ++ drop 32 (drop (f * 32) t))

-- the table with ones in the run's bits of frame f
unfoldable pub with_run : List ℕ → ℕ → Run → List ℕ
with_run t f a = with_row t f (packed (places false a.start a.width) (2 ^ 32 - 1) (row t f))
