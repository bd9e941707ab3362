-- A text written into a buffer.
-- Assumes nothing.
use Rattle.std.specs.Prelude.{◌≡◌, List, [], ◌∷◌, ℕ, ◌+◌, ◌≤◌, length, set}
use Rattle.listing.specs.declared.Text.{Text}

-- the buffer with the text over its bytes from a place on
unfoldable pub put_all : List ℕ → ℕ → List ℕ → List ℕ
put_all l at [] = l
put_all l at (b ∷ t) = put_all (set l at b) (at + 1) t

-- the buffer was l and is m, with the text from `at` up to `next`, which is at most so many bytes long
pub record Put (l m : List ℕ) (at next : ℕ) (text : List ℕ) (most : ℕ) : Type 0 where
  pub written : m ≡ put_all l at text
  pub after : next ≡ at + length text
  pub short : length text ≤ most

-- the text in the buffer grew by so many bytes at most, and lies in the same buffer
pub record Adds (old new : Text) (text : List ℕ) (most : ℕ) : Type 0 where
  pub put : Put old.out.now new.out.now old.at new.at text most
  pub same : new.out.ghost_name ≡ old.out.ghost_name
