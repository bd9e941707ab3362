-- Which cells are the fields of a message and of a frame, on any memory: the layout alone says it.
-- Assumes nothing.
use Rattle.std.specs.Prelude.{◌≡◌, Bool, true, false, cond, ◌&&◌, ◌||◌, List, [], ◌∷◌, map, ℕ, suc, ◌+◌, ◌-◌, ◌<◌, min, eqb, ltb}
use Rattle.record.specs.declared.Field.{Field as FieldRecord}
use Rattle.store.specs.declared.Field.{Field}
use Rattle.store.specs.Node.{Layout, Node, frame_at, message_at, laid_at, listed_at, field_at}
use Rattle.start.specs.Start.{table}
use Rattle.own.specs.declared.Owner.{Owner}
use Rattle.own.specs.declared.Places.{Places}
use Rattle.std.specs.declared.ops.Range.{Range}

-- ---- lists

module _ {A : Type 0} where
  -- the elements that pass a test, in order
  unfoldable pub chosen : (A → Bool) → List A → List A
  chosen p [] = []
  chosen p (x ∷ l) = cond (p x) (x ∷ chosen p l) (chosen p l)

  -- the elements whose number passes a test changed, and the others as they are; their numbers count from i
  unfoldable pub changed : (ℕ → Bool) → (ℕ → A → A) → ℕ → List A → List A
  changed p g i [] = []
  changed p g i (x ∷ l) = cond (p i) (g i x) x ∷ changed p g (suc i) l

-- the number is in the list
unfoldable pub is_in : ℕ → List ℕ → Bool
is_in d [] = false
is_in d (e ∷ l) = eqb d e || is_in d l

-- each number is below all that come after it, so that none stands there twice
abbrev pub Rising : List ℕ → Type 0
Rising [] = Unit {0}
Rising (d ∷ l) = ((e : ℕ) → is_in e l ≡ true → d < e) × Rising l

-- ---- an owner's cells

-- the places where an owner's fields are found: of a message among the fields themselves, from its first on, at most eight; of a frame in the index,
-- from its first on
abbrev pub first_place : Layout → Owner → ℕ
first_place l (Owner.Message m) = (message_at l m).first
first_place l (Owner.Frame f) = (frame_at l f).first

abbrev pub end_place : Layout → Owner → ℕ
end_place l (Owner.Message m) = min 128 ((message_at l m).first + min (message_at l m).fields 8)
end_place l (Owner.Frame f) = min 128 ((frame_at l f).first + (frame_at l f).fields)

abbrev pub places_of : Layout → Owner → Places
places_of l o = record { from = first_place l o; end = end_place l o }

-- the numbers of those places
abbrev pub range_of : Places → Range ℕ
range_of p = record { start = p.from; end = p.end }

-- the cell that a place gives
abbrev pub cell_at : Layout → Owner → ℕ → ℕ
cell_at l (Owner.Message m) i = i
cell_at l (Owner.Frame f) i = listed_at l i

-- what a place gives is, of a message, a cell that the memory has; of a frame it may be any number
abbrev pub Given : Owner → ℕ → Type 0
Given (Owner.Message m) d = d < 128
Given (Owner.Frame f) d = Unit {0}

-- the owner's number is one that a region of the memory has
abbrev pub InMemory : Owner → Type 0
InMemory (Owner.Message m) = m < 32
InMemory (Owner.Frame f) = f < 32

-- a field names the message, or the frame
abbrev pub names : Owner → FieldRecord → Bool
names (Owner.Message m) x = eqb x.message m
names (Owner.Frame f) x = eqb x.frame f

-- the memory has cell d, and the field there names the owner
unfoldable pub owns : Layout → Owner → ℕ → Bool
owns l o d = ltb d 128 && names o (laid_at l d)

-- the owner's cells, in the order of its places, and the fields there
unfoldable pub cells_of : Layout → Owner → List ℕ
cells_of l o = chosen (owns l o) (table (cell_at l o) (first_place l o) (end_place l o - first_place l o))

abbrev pub fields_of : Layout → Owner → List FieldRecord
fields_of l o = map (laid_at l) (cells_of l o)

-- the owner's fields, each with its stage
abbrev pub stored_of : Node → Owner → List Field
stored_of n o = map (field_at n) (cells_of n.layout o)
