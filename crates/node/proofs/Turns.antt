-- Loops over an owner's cells: whether there is one and the messages of all are invalid; and stages that are moved on, one by one, in place.
-- Assumes nothing.
use mathlib.Core.Path.{◌≡◌, refl, ap, sym, ◌∙◌}
use mathlib.Core.Bool.{Bool, true, false, not, cond, ◌&&◌, ◌||◌, and-true, or-true, or-false}
use mathlib.Core.List.{List, [], ◌∷◌, map}
use Prim.Native.Nat.{ℕ, ◌+◌, ◌<◌, ◌≤◌}
use native.Mathlib.Decide.{ℕ_discrete}
use native.Mathlib.Omega.{arith}
use lib.ListN.{length, get_or, set, length-set}
use lib.Seq.{ext_get_or, get_or-set_same, get_or-set_other}
use borrow.Author.Tests.{eq-eqb, ne_eqb}
use Rattle.whole.specs.Whole.{all_of}
use Rattle.store.specs.declared.Stage.{Stage}
use Rattle.store.specs.declared.Stage.TheVariants.{Waiting, Loaded, Gone}
use Rattle.store.specs.Node.{Layout, State, Node, StoredStage, laid_at, stage_at, no_stage, with_stages, with_stage, node_with}
use Rattle.message.specs.declared.Change.{Change}
use Rattle.message.specs.Fields.{stage_after}
use Rattle.own.specs.declared.Owner.{Owner}
use Rattle.own.specs.Own.{changed, is_in, first_place, end_place, cell_at, owns, cells_of, fields_of}
use Rattle.node.specs.Calls.{is_empty, invalid_in, all_invalid, moved}
use Rattle.own.proofs.Lists.{changed_length, changed_at}
use Rattle.own.proofs.Ahead.{ahead, first_ahead, last_ahead, own_ahead, other_ahead}

-- ---- the messages of an owner's fields, all invalid, where there must be a field: `some` says that one was there

module _ (l : Layout) (o : Owner) (s : State) where
  abbrev pub invalid_ahead : Bool → ℕ → Bool
  invalid_ahead some i = (some || not (is_empty (map (laid_at l) (ahead l o i)))) && all_of (invalid_in s) (map (laid_at l) (ahead l o i))

  pub invalid_begin : all_invalid s (fields_of l o) ≡ invalid_ahead false (first_place l o)
  invalid_begin = rw first_ahead refl

  module _ (i : ℕ) (here : i < end_place l o) {d : ℕ} (told : d ≡ cell_at l o i) {r : Bool} (asked : r ≡ owns l o d) (some : Bool) {X : Bool}
      (so_far : X ≡ invalid_ahead some i) where
    pub invalid_turn : r ≡ true → invalid_in s (laid_at l d) ≡ true → X ≡ invalid_ahead true (i + 1)
    unfolding all_of
    invalid_turn mine t = so_far ∙ rw (own_ahead l o i here told asked mine, or-true, t) refl

    pub invalid_skip : r ≡ false → X ≡ invalid_ahead some (i + 1)
    invalid_skip other = so_far ∙ rw (other_ahead l o i here told asked other) refl

    pub invalid_stop : r ≡ true → invalid_in s (laid_at l d) ≡ false → false ≡ X
    unfolding all_of
    invalid_stop mine t = sym (so_far ∙ rw (own_ahead l o i here told asked mine, or-true, t) refl)

  pub invalid_end : (i : ℕ) {some X : Bool} → end_place l o ≤ i → X ≡ invalid_ahead some i → some ≡ X
  unfolding all_of
  invalid_end i {some} past so_far = sym (so_far ∙ rw (last_ahead l o i past, or-false, and-true) refl)

-- ---- stages, moved on in place

-- a stage that the memory can hold changes to one that it can hold
pub after_stored : (change : Change) (t : Stage) → StoredStage t → StoredStage (stage_after change t)
after_stored Change.Send Waiting h = refl
after_stored Change.Send Loaded h = refl
after_stored Change.Send (Gone k) h = refl
after_stored Change.Load Waiting h = refl
after_stored Change.Load Loaded h = refl
after_stored Change.Load (Gone k) h = h
after_stored Change.Consume Waiting h = refl
after_stored Change.Consume Loaded h = refl
after_stored Change.Consume (Gone k) h = h

-- a second time changes nothing
after_twice : (c : Change) (t : Stage) → stage_after c (stage_after c t) ≡ stage_after c t
after_twice Change.Send Waiting = refl
after_twice Change.Send Loaded = refl
after_twice Change.Send (Gone k) = refl
after_twice Change.Load Waiting = refl
after_twice Change.Load Loaded = refl
after_twice Change.Load (Gone k) = refl
after_twice Change.Consume Waiting = refl
after_twice Change.Consume Loaded = refl
after_twice Change.Consume (Gone k) = refl

-- one cell after the other
unfoldable pub moved_all : (Stage → Stage) → List ℕ → List Stage → List Stage
moved_all g [] t = t
moved_all g (d ∷ l) t = moved_all g l (set t d (g (get_or t d no_stage)))

-- each cell is moved on that is there, once or twice
module _ (g : Stage → Stage) (twice : (t : Stage) → g (g t) ≡ g t) where
  abbrev moved_in : List ℕ → List Stage → List Stage
  moved_in l t = changed (λ d. is_in d l) (λ d x. g x) 0 t

  moved_at : (l : List ℕ) (t : List Stage) (j : ℕ) → j < length t
      → get_or (moved_in l t) j no_stage ≡ cond (is_in j l) (g (get_or t j no_stage)) (get_or t j no_stage)
  moved_at l t j h = changed_at (λ d. is_in d l) (λ d x. g x) t j no_stage h

  moved_length : (l : List ℕ) (t : List Stage) → length (moved_in l t) ≡ length t
  moved_length l t = changed_length (λ d. is_in d l) (λ d x. g x) 0 t

  none_moved : (t : List Stage) → t ≡ moved_in [] t
  unfolding is_in
  none_moved t = ext_get_or no_stage t (moved_in [] t) (sym (moved_length [] t)) (λ j h. sym (moved_at [] t j h))

  again : (b : Bool) (x : Stage) → cond b (g (g x)) (g x) ≡ g x
  again true x = twice x
  again false x = refl

  module _ (d : ℕ) (l : List ℕ) (t : List Stage) where
    abbrev first : List Stage
    first = set t d (g (get_or t d no_stage))

    first_at : (j : ℕ) → j < length t → Dec (j ≡ d)
        → cond (is_in j l) (g (get_or first j no_stage)) (get_or first j no_stage) ≡ cond (is_in j (d ∷ l)) (g (get_or t j no_stage)) (get_or t j no_stage)
    unfolding is_in
    first_at j h (yes e) =
        let here : d < length t = omega arith in
        rw (e, eq-eqb d d refl, get_or-set_same t d (g (get_or t d no_stage)) no_stage here) (again (is_in d l) (get_or t d no_stage))
    first_at j h (no n) = rw (get_or-set_other t d j (g (get_or t d no_stage)) no_stage n, ne_eqb j d n) refl

    one_moved : moved_in l first ≡ moved_in (d ∷ l) t
    one_moved =
        let size : length (moved_in l first) ≡ length t = moved_length l first ∙ length-set t d _ in
        ext_get_or no_stage (moved_in l first) (moved_in (d ∷ l) t) (size ∙ sym (moved_length (d ∷ l) t))
        (λ j h. let here : j < length t = omega arith in
        moved_at l first j (rw length-set here) ∙ first_at j here (ℕ_discrete j d) ∙ sym (moved_at (d ∷ l) t j here))

  moved_all_lem : (l : List ℕ) (t : List Stage) → moved_all g l t ≡ changed (λ d. is_in d l) (λ d x. g x) 0 t
  unfolding moved_all
  moved_all_lem [] t = none_moved t
  moved_all_lem (d ∷ l) t = moved_all_lem l (first d l t) ∙ one_moved d l t

-- the state with the cells moved on that are ahead at place i
module _ (c : Change) (o : Owner) where
  abbrev pub moved_ahead : Node → ℕ → State
  moved_ahead n i = with_stages n.state (moved_all (stage_after c) (ahead n.layout o i) n.state.stages)

  pub move_begin : (n : Node) → moved_ahead n (first_place n.layout o) ≡ moved c o n
  move_begin n =
      rw (first_ahead n.layout o)
      (ap (with_stages n.state) (moved_all_lem (stage_after c) (after_twice c) (cells_of n.layout o) n.state.stages))

  module _ (n : Node) (i : ℕ) (here : i < end_place n.layout o) {d : ℕ} (told : d ≡ cell_at n.layout o i) {r : Bool}
      (asked : r ≡ owns n.layout o d) where
    pub move_turn : {after : Node} → r ≡ true → after ≡ node_with n (with_stage n.state d (stage_after c (stage_at n.state d)))
        → node_with after (moved_ahead after (i + 1)) ≡ node_with n (moved_ahead n i)
    unfolding moved_all
    move_turn mine put = rw (put, own_ahead n.layout o i here told asked mine) refl

    pub move_skip : r ≡ false → moved_ahead n (i + 1) ≡ moved_ahead n i
    move_skip other = rw (other_ahead n.layout o i here told asked other) refl

  pub move_end : (n : Node) (i : ℕ) → end_place n.layout o ≤ i → moved_ahead n i ≡ n.state
  unfolding moved_all
  move_end n i past = rw (last_ahead n.layout o i past) refl
