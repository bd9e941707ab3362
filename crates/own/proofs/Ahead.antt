-- Loops over an owner's places: the cells that are ahead at place i are those that the places from i on give, and a turn takes one of them off, or
-- none. And the same of an owner's fields.
-- Assumes nothing.
use mathlib.Core.Path.{◌≡◌, refl, ap, sym, ◌∙◌}
use mathlib.Core.Bool.{Bool, true, false, cond}
use mathlib.Core.List.{List, [], ◌∷◌, map}
use Prim.Native.Nat.{ℕ, suc, ◌+◌, ◌-◌, ◌<◌, ◌≤◌}
use native.Mathlib.Numerals.{add-one}
use native.Mathlib.Omega.{arith}
use lib.ListN.{length}
use Rattle.record.specs.declared.Field.{Field as FieldRecord}
use Rattle.store.specs.declared.Field.{Field}
use Rattle.store.specs.Node.{Layout, Node, layout_of, node_of, laid_at, field_at}
use Rattle.start.specs.Start.{table}
use Rattle.start.proofs.Tables.{length_table}
use Rattle.own.specs.Ahead.{cells_between}
use Rattle.own.specs.declared.Owner.{Owner}
use Rattle.own.specs.Own.{chosen, first_place, end_place, cell_at, owns, cells_of, fields_of, stored_of}
use Rattle.own.proofs.Lists.{chosen_few}
use Rattle.own.proofs.Owners.{owns_parts}

-- ---- the cells ahead

-- an owner has no place past the cells
pub end_few : (l : Layout) (o : Owner) → end_place l o ≤ 128
end_few l (Owner.Message m) = omega arith
end_few l (Owner.Frame f) = omega arith

module _ (l : Layout) (o : Owner) where
  pub none_between : (i e : ℕ) → e ≤ i → cells_between l o i e ≡ []
  unfolding chosen table
  none_between i e past = let none : e - i ≡ 0 = omega arith in rw none refl

  -- the cell at place i comes first, if it is the owner's
  next_between : (i e : ℕ) → i < e
      → cells_between l o i e ≡ cond (owns l o (cell_at l o i)) (cell_at l o i ∷ cells_between l o (i + 1) e) (cells_between l o (i + 1) e)
  unfolding chosen table
  next_between i e here = let more : e - i ≡ suc (e - (i + 1)) = omega arith in rw (more, add-one) refl

  -- what the code is told of place i: its cell, and whether that is the owner's
  module _ {d : ℕ} {r : Bool} (asked : r ≡ owns l o d) where
    pub inside : r ≡ true → d < 128
    inside t = ((owns_parts l o d).0 (sym asked ∙ t)).0

  module _ (i e : ℕ) (here : i < e) {d : ℕ} (told : d ≡ cell_at l o i) {r : Bool} (asked : r ≡ owns l o d) where
    pub own_between : r ≡ true → cells_between l o i e ≡ d ∷ cells_between l o (i + 1) e
    own_between t = let mine = sym asked ∙ t in next_between i e here ∙ rw (rw told at mine, told) refl

    pub other_between : r ≡ false → cells_between l o i e ≡ cells_between l o (i + 1) e
    other_between t = let none = sym asked ∙ t in next_between i e here ∙ rw (rw told at none) refl

  abbrev pub ahead : ℕ → List ℕ
  ahead i = cells_between l o i (end_place l o)

  pub first_ahead : ahead (first_place l o) ≡ cells_of l o
  unfolding cells_of
  first_ahead = refl

  pub last_ahead : (i : ℕ) → end_place l o ≤ i → ahead i ≡ []
  last_ahead i past = none_between i (end_place l o) past

  -- a place that a loop up to there takes is before it
  pub here_ahead : {i e : ℕ} → 0 < e - i → e ≡ end_place l o → i < end_place l o
  here_ahead some same = omega (arith, some, same)

  module _ (i : ℕ) (here : i < end_place l o) {d : ℕ} (told : d ≡ cell_at l o i) {r : Bool} (asked : r ≡ owns l o d) where
    pub own_ahead : r ≡ true → ahead i ≡ d ∷ ahead (i + 1)
    own_ahead t = own_between i (end_place l o) here told asked t

    pub other_ahead : r ≡ false → ahead i ≡ ahead (i + 1)
    other_ahead t = other_between i (end_place l o) here told asked t

-- and the records there
module _ (l : Layout) (o : Owner) where
  abbrev pub fields_ahead : ℕ → List FieldRecord
  fields_ahead i = map (laid_at l) (ahead l o i)

  pub all_fields_ahead : fields_ahead (first_place l o) ≡ fields_of l o
  all_fields_ahead = ap (map (laid_at l)) (first_ahead l o)

-- a message has at most eight
pub cells_few : (l : Layout) (m : ℕ) → length (cells_of l (Owner.Message m)) ≤ 8
unfolding cells_of
cells_few l m =
    let o = Owner.Message m in
    let from = first_place l o in
    omega (arith, rw (length_table (cell_at l o) from (end_place l o - from)) at (chosen_few (owns l o) (table (cell_at l o) from (end_place l o - from))))

-- ---- an owner's fields, gone through from place i up to e

module _ (b : List ℕ) (o : Owner) where
  abbrev stored_between : ℕ → ℕ → List Field
  stored_between i e = map (field_at (node_of b)) (cells_between (layout_of b) o i e)

  pub none_stored : (i e : ℕ) → e ≤ i → stored_between i e ≡ []
  none_stored i e past = rw (none_between (layout_of b) o i e past) refl

  module _ {i e j k d x : ℕ} {r : Bool} (here : 0 < e - i) (placed : x ≡ i) (told : d ≡ cell_at (layout_of b) o x) (asked : r ≡ owns (layout_of b) o d)
      (on : j ≡ i + 1) (same : k ≡ e) where
    pub own_stored : r ≡ true → stored_between i e ≡ field_at (node_of b) d ∷ stored_between j k
    own_stored t = rw (on, same, own_between (layout_of b) o i e (omega arith) (rw placed at told) asked t) refl

    pub other_stored : r ≡ false → stored_between i e ≡ stored_between j k
    other_stored t = rw (on, same, other_between (layout_of b) o i e (omega arith) (rw placed at told) asked t) refl

-- their records are the owner's
pub laid_stored : (n : Node) (o : Owner) → map (λ (x : Field). x.laid) (stored_of n o) ≡ fields_of n.layout o
laid_stored n o = go (cells_of n.layout o)
  where
    go : (l : List ℕ) → map (λ (x : Field). x.laid) (map (field_at n) l) ≡ map (laid_at n.layout) l
    go [] = refl
    go (d ∷ l) = ap (λ (r : List FieldRecord). laid_at n.layout d ∷ r) (go l)
