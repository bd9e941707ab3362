-- Memory as regions: a region is a list of cells, each of the same number of bytes.
-- Assumes nothing.
use Rattle.std.specs.Prelude.{List, [], ◌∷◌, ◌++◌, ℕ, zero, suc, ◌+◌, take, drop}

-- the s bytes at a place
abbrev pub part : List ℕ → ℕ → ℕ → List ℕ
part b at s = take s (drop at b)

-- the memory with c over the s bytes there
abbrev pub overwritten : List ℕ → ℕ → ℕ → List ℕ → List ℕ
overwritten b at s c = take at b ++ (c ++ drop (at + s) b)

module _ {A : Type 0} where
  -- the bytes of cells, one after the other
  unfoldable pub cells : (A → List ℕ) → List A → List ℕ
  cells encode [] = []
  cells encode (x ∷ l) = encode x ++ cells encode l

  -- the first n cells of s bytes each
  unfoldable pub uncells : (List ℕ → A) → ℕ → ℕ → List ℕ → List A
  uncells decode s zero b = []
  uncells decode s (suc n) b = decode (take s b) ∷ uncells decode s n (drop s b)
