-- The paper's example of a layout file.
-- Assumes nothing.
use Rattle.std.specs.Prelude.{List, [], ◌∷◌, ◌++◌, ℕ, ◌-◌, length, replicate}

-- a record: its first bytes, and zeros to 24
unfoldable pub record_of : List ℕ → List ℕ
record_of l = l ++ replicate (24 - length l) 0

-- the paper's file: 01 00 02, 02 00 0A and 03 00 00 03, each filled with zeros
abbrev pub paper : List ℕ
paper = record_of (1 ∷ 0 ∷ 2 ∷ []) ++ record_of (2 ∷ 0 ∷ 10 ∷ []) ++ record_of (3 ∷ 0 ∷ 0 ∷ 3 ∷ [])
