-- A message's fields stand in frame order, each in a frame of its own: their cells rise, and a message's frames rise with them. So at most one of them
-- lies in a given frame, and where all that pass a test lie there, no other is chosen.
-- Assumes nothing.
use mathlib.Core.Path.{◌≡◌, refl, sym, ap, ◌∙◌}
use mathlib.Core.Bool.{Bool, true, false, cond}
use mathlib.Core.List.{List, [], ◌∷◌, map, map-map}
use mathlib.Core.Logic.{⊎_elim}
use Prim.Native.Nat.{ℕ, ◌<◌}
use native.Mathlib.Omega.{arith}
use borrow.Author.Tests.{eqb-true}
use Rattle.record.specs.declared.Field.{Field as FieldRecord}
use Rattle.store.specs.Node.{Layout, laid_at}
use Rattle.own.specs.declared.Owner.{Owner}
use Rattle.own.specs.Own.{chosen, Rising, cells_of, fields_of}
use Rattle.own.specs.SoundLayout.{SoundLayout}
use Rattle.own.proofs.Lists.{Every, every_map, every_in, every_number, chosen_each}
use Rattle.own.proofs.Owners.{fields_named, cells_rise}
use Rattle.order.specs.Order.{In}
use Rattle.order.proofs.Among.{in_none, in_cases}
use Rattle.order.proofs.Chosen.{no_element}

-- ---- lists

module _ {A : Type 0} where
  every_both : (P Q R : A → Type 0) → ((x : A) → P x → Q x → R x) → (l : List A) → Every P l → Every Q l → Every R l
  every_both P Q R f [] h k = tt
  every_both P Q R f (x ∷ l) h k = (f x h.0 k.0, every_both P Q R f l h.1 k.1)

  pub every_at : (P : A → Type 0) {x : A} (l : List A) → Every P l → In x l → P x
  every_at P [] h i = absurd (in_none i)
  every_at P (y ∷ l) h i = ⊎_elim (λ same. rw same h.0) (λ j. every_at P l h.1 j) (in_cases i)

  -- what holds of all images holds of the elements by theirs
  every_image : (f : A → ℕ) (P : ℕ → Type 0) (l : List A) → Every P (map f l) → Every (λ x. P (f x)) l
  every_image f P [] h = tt
  every_image f P (x ∷ l) h = (h.0, every_image f P l h.1)

  -- an element of the images of numbers is the image of one of them
  image_of : (f : ℕ → A) {x : A} (P : ℕ → Type 0) (l : List ℕ) → Every P l → In x (map f l) → (d : ℕ) × P d × (f d ≡ x)
  image_of f P [] h i = absurd (in_none i)
  image_of f P (d ∷ l) h i = ⊎_elim (λ same. (d, h.0, sym same)) (λ j. image_of f P l h.1 j) (in_cases i)

-- images of rising numbers rise where each step does
pub images_rise : (f : ℕ → ℕ) (P : ℕ → Type 0) → ((d e : ℕ) → P d → P e → d < e → f d < f e) → (l : List ℕ) → Every P l → Rising l → Rising (map f l)
images_rise f P step [] h r = tt
images_rise f P step (d ∷ l) h r =
    let above = every_both P (λ e. d < e) (λ e. f d < f e) (λ e k less. step d e h.0 k less) l h.1 (every_number _ l r.0) in (
      λ e i. every_in (λ e. f d < e) (map f l) e (every_map f _ l above) i,
      images_rise f P step l h.1 r.1,
    )

module _ {A : Type 0} where
  -- of elements whose images rise, those that pass a test all have the image of x, and so none but x is chosen
  pub chosen_alone : (g : A → ℕ) (p : A → Bool) {x : A} (l : List A) → Rising (map g l) → In x l → Every (λ y. p y ≡ true → g y ≡ g x) l
      → chosen p l ≡ cond (p x) (x ∷ []) []
  unfolding chosen
  chosen_alone g p [] r i h = absurd (in_none i)
  chosen_alone g p {x} (y ∷ l) r i h = ⊎_elim first (λ j. later j (chosen_alone g p l r.1 j h.1)) (in_cases i)
    where
      above : Every (λ z. g y < g z) l
      above = every_image g (λ e. g y < e) l (every_number (λ e. g y < e) (map g l) r.0)

      first : x ≡ y → cond (p y) (y ∷ chosen p l) (chosen p l) ≡ cond (p x) (x ∷ []) []
      first same =
          let others : Every (λ z. p z ≡ true → ⊥) l =
          every_both _ _ _ (λ z less one t. omega (arith, one t, ap g same)) l above h.1 in
          let none : chosen p l ≡ [] = no_element (chosen p l) (chosen_each p (λ z. ⊥) l others) in
          rw (none, same) refl

      later : In x l → chosen p l ≡ cond (p x) (x ∷ []) [] → cond (p y) (y ∷ chosen p l) (chosen p l) ≡ cond (p x) (x ∷ []) []
      later j rest = go (p y) refl
        where
          go : (b : Bool) → p y ≡ b → cond b (y ∷ chosen p l) (chosen p l) ≡ cond (p x) (x ∷ []) []
          go true t = absurd (omega (arith, h.0 t, every_at (λ z. g y < g z) l above j))
          go false t = rest

-- ---- a message's fields

module _ {l : Layout} (s : SoundLayout l) (m : ℕ) where
  -- a field of the layout that names the message
  abbrev Its : ℕ → Type 0
  Its d = (d < l.field_number) × ((laid_at l d).message ≡ m)

  all_its : Every Its (cells_of l (Owner.Message m))
  all_its =
      every_number Its (cells_of l (Owner.Message m))
      (λ d i. let (known, names) = (fields_named s (Owner.Message m) d).0 i in (known, eqb-true _ m names))

  pub its_cell : {x : FieldRecord} → In x (fields_of l (Owner.Message m)) → (d : ℕ) × Its d × (laid_at l d ≡ x)
  its_cell i = image_of (laid_at l) Its (cells_of l (Owner.Message m)) all_its i

  pub field_order : Rising (map (λ x. x.frame) (fields_of l (Owner.Message m)))
  field_order =
      rw (map-map (λ (x : FieldRecord). x.frame) (laid_at l) (cells_of l (Owner.Message m)))
      (images_rise (λ d. (laid_at l d).frame) Its (λ d e k n less. s.rising d e less n.0 (k.1 ∙ sym n.1)) (cells_of l (Owner.Message m)) all_its
      (cells_rise s (Owner.Message m)))
