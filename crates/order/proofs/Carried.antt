-- The fields of a message in a layout, and the frames that carry it: in a sound layout the cells of a message are those of the fields that name it,
-- and a frame carries it exactly if one of these fields lies there.
-- Assumes nothing.
use mathlib.Core.Path.{◌≡◌, refl}
use mathlib.Core.Bool.{Bool, true, false, not, ◌&&◌, ◌||◌}
use mathlib.Core.List.{List, [], ◌∷◌}
use mathlib.Core.Logic.{◌↔◌}
use Prim.Native.Nat.{ℕ, ◌<◌}
use lib.Dec.{eqb}
use borrow.Author.Tests.{eqb-true, eq-eqb, not-true}
use Rattle.whole.specs.Whole.{all_of}
use Rattle.record.specs.declared.Field.{Field as FieldRecord}
use Rattle.store.specs.Node.{Layout, laid_at}
use Rattle.own.specs.declared.Owner.{Owner}
use Rattle.own.specs.Own.{is_in, cells_of, fields_of}
use Rattle.own.specs.SoundLayout.{SoundLayout}
use Rattle.own.proofs.Lists.{all_in}
use Rattle.own.proofs.Owners.{fields_named}
use Rattle.order.specs.Order.{some_of, carries}
use Rattle.order.proofs.Chosen.{some_field}

-- field d is the one of message m in frame f
pub record FieldOf (l : Layout) (d m f : ℕ) : Type 0 where
  pub known : d < l.field_number
  pub message : (laid_at l d).message ≡ m
  pub frame : (laid_at l d).frame ≡ f

-- one of the fields is of message m exactly if not all are of others
some_test : (m : ℕ) (l : List FieldRecord) → some_of m l ≡ not (all_of (λ x. not (eqb x.message m)) l)
unfolding some_of all_of
some_test m [] = refl
some_test m (x ∷ l) = rw (some_test m l) (either (eqb x.message m) _)
  where
    either : (a b : Bool) → (a || not b) ≡ not (not a && b)
    either true b = refl
    either false b = refl

-- in any layout a frame carries message m exactly if a field of m is in one of its cells
pub carrying : (l : Layout) (f m : ℕ)
    → (carries l f m ≡ true) ↔ ((d : ℕ) × (is_in d (cells_of l (Owner.Frame f)) ≡ true) × (eqb (laid_at l d).message m ≡ true))
carrying l f m =
    let some = some_field l (Owner.Frame f) (λ x. eqb x.message m) in
    let test = some_test m (fields_of l (Owner.Frame f)) in
    (λ t. some.0 (not-true _ (rw test at t)), λ h. rw (test, some.1 h) refl)

module _ {l : Layout} (s : SoundLayout l) (m : ℕ) where
  pub all_fields : (p : ℕ → Bool) → (all_of p (cells_of l (Owner.Message m)) ≡ true) ↔ ((d f : ℕ) → FieldOf l d m f → p d ≡ true)
  all_fields p =
      let all = all_in p (cells_of l (Owner.Message m)) in
      let named = fields_named s (Owner.Message m) in (
        λ t d f x. all.0 t d ((named d).1 (x.known, eq-eqb _ m x.message)),
        λ h. all.1 (λ d i. let (known, names) = (named d).0 i in h d _ (record { known = known; message = eqb-true _ m names; frame = refl })),
      )

  pub carried : (f : ℕ) → (carries l f m ≡ true) ↔ ((d : ℕ) × FieldOf l d m f)
  carried f =
      let named = fields_named s (Owner.Frame f) in (
        λ t. let (d, i, message) = (carrying l f m).0 t in
            let (known, names) = (named d).0 i in
            (d, record { known = known; message = eqb-true _ m message; frame = eqb-true _ f names }),
        λ h. let (d, x) = h in (carrying l f m).1 (d, (named d).1 (x.known, eq-eqb _ f x.frame), eq-eqb _ m x.message),
      )
