-- Whose fields. In any layout the fields in an owner's cells name it. In a sound layout its cells are all below the count, and all such cells: a field
-- stands in the run of its message, and has a place in that of its frame; and each stands there once, since the numbers in a run rise.
-- Assumes nothing.
use mathlib.Core.Path.{◌≡◌, refl, ap}
use mathlib.Core.Bool.{true, and-eq-true_iff}
use mathlib.Core.Logic.{◌↔◌}
use Prim.Native.Nat.{ℕ, ◌+◌, ◌-◌, ◌<◌, ◌≤◌}
use native.Mathlib.Decide.{dec_lt}
use native.Mathlib.Omega.{arith}
use lib.Dec.{ltb}
use borrow.Author.Tests.{ltb-true, lt-ltb, eqb-true}
use Rattle.store.specs.declared.Frame.{Frame}
use Rattle.store.specs.declared.Message.{Message}
use Rattle.store.specs.Node.{Layout, frame_at, message_at, laid_at, listed_at}
use Rattle.start.specs.Start.{table}
use Rattle.own.specs.declared.Owner.{Owner}
use Rattle.own.specs.Own.{is_in, Rising, first_place, end_place, cell_at, names, owns, cells_of}
use Rattle.own.specs.SoundLayout.{SoundLayout}
use Rattle.own.proofs.Lists.{in_chosen, in_table, chosen_rise}

module _ (l : Layout) (o : Owner) where
  pub owns_parts : (d : ℕ) → (owns l o d ≡ true) ↔ ((d < 128) × (names o (laid_at l d) ≡ true))
  unfolding owns
  owns_parts d =
      let parts = and-eq-true_iff (ltb d 128) (names o (laid_at l d)) in
      (λ t. (ltb-true d 128 (parts.0 t).0, (parts.0 t).1), λ h. parts.1 (lt-ltb d 128 h.0, h.1))

  -- what a place gives is one of its cells exactly if it owns it
  cell_placed : (d : ℕ)
      → (is_in d (cells_of l o) ≡ true)
      ↔ ((is_in d (table (cell_at l o) (first_place l o) (end_place l o - first_place l o)) ≡ true) × (owns l o d ≡ true))
  unfolding cells_of
  cell_placed d = in_chosen (owns l o) d (table (cell_at l o) (first_place l o) (end_place l o - first_place l o))

  pub cell_names : (d : ℕ) → is_in d (cells_of l o) ≡ true → names o (laid_at l d) ≡ true
  cell_names d t = ((owns_parts d).0 ((cell_placed d).0 t).1).1

module _ {l : Layout} (s : SoundLayout l) where
  -- what the places of an owner give are numbers of fields
  given_below : (o : Owner) (j : ℕ) → first_place l o ≤ j → j < end_place l o → cell_at l o j < l.field_number
  given_below (Owner.Message m) j from to = go (dec_lt m l.message_number)
    where
      go : Dec (m < l.message_number) → j < l.field_number
      go (yes h) = let g = s.messages m h in omega arith
      go (no h) = let none = s.no_messages m (omega arith) in absurd (omega (arith, ap (λ (g : Message). g.fields) none))
  given_below (Owner.Frame f) j from to = go (dec_lt f l.frame_number)
    where
      go : Dec (f < l.frame_number) → listed_at l j < l.field_number
      go (yes h) = (s.frame_run f j h from (omega arith)).0
      go (no h) = let none = s.no_frames f (omega arith) in absurd (omega (arith, ap (λ (h : Frame). h.fields) none))

  -- a cell below the count that names the owner stands at one of its places
  placed : (o : Owner) (d : ℕ) → d < l.field_number → names o (laid_at l d) ≡ true
      → (j : ℕ) × (first_place l o ≤ j) × (j < first_place l o + (end_place l o - first_place l o)) × (cell_at l o j ≡ d)
  placed (Owner.Message m) d h t =
      let x = s.fields d h in
      let e = eqb-true (laid_at l d).message m t in
      let from : (message_at l m).first ≤ d = rw e at x.run_from in
      let to : d < (message_at l m).first + (message_at l m).fields = rw e at x.run_to in
      let g = s.messages m (rw e at x.message) in
      (d, from, omega arith, refl)
  placed (Owner.Frame f) d h t =
      let x = s.fields d h in
      let e = eqb-true (laid_at l d).frame f t in
      let at = x.listed.place in
      let from : (frame_at l f).first ≤ at = rw e at x.listed.from in
      let to : at < (frame_at l f).first + (frame_at l f).fields = rw e at x.listed.to in
      let r = s.frames f (rw e at x.frame) in
      (at, from, omega arith, x.listed.number)

  pub fields_named : (o : Owner) (d : ℕ) → (is_in d (cells_of l o) ≡ true) ↔ ((d < l.field_number) × (names o (laid_at l d) ≡ true))
  fields_named o d = (
    λ t.
        let (there, mine) = (cell_placed l o d).0 t in
        let (j, from, to, e) = (in_table (cell_at l o) d (first_place l o) (end_place l o - first_place l o)).0 there in
        (rw e at (given_below o j from (omega arith)), ((owns_parts l o d).0 mine).1),
    λ h. let there = (in_table (cell_at l o) d (first_place l o) (end_place l o - first_place l o)).1 (placed o d h.0 h.1) in
        (cell_placed l o d).1 (there, (owns_parts l o d).1 (omega (arith, s.few_fields), h.1)),
  )

  -- of two places of an owner that give its cells the later gives the higher one
  places_rise : (o : Owner) (a b : ℕ) → first_place l o ≤ a → a < b → b < end_place l o
      → owns l o (cell_at l o a) ≡ true → owns l o (cell_at l o b) ≡ true → cell_at l o a < cell_at l o b
  places_rise (Owner.Message m) a b from h to one other = h
  places_rise (Owner.Frame f) a b from h to one other =
      let named = eqb-true (laid_at l (listed_at l a)).frame f ((owns_parts l (Owner.Frame f) (listed_at l a)).0 one).1 in
      let its_frame_lem = (s.fields (listed_at l a) (given_below (Owner.Frame f) a from (omega arith))).frame in
      s.frame_rising f a b (rw named at its_frame_lem) from h (omega arith)

  pub cells_rise : (o : Owner) → Rising (cells_of l o)
  unfolding cells_of
  cells_rise o =
      chosen_rise (owns l o) (cell_at l o) (first_place l o) (end_place l o - first_place l o)
      (λ a b from h to. places_rise o a b from h (omega arith))
