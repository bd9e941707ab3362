-- More laws of `chosen` and of a test of all, by induction on the list. Of two tests on two lists: where the same elements pass, two by two, the chosen
-- have the same values. Of one: that not all numbers of a list fail it is said by a number. What is asked of all fields of a message or a frame is asked
-- of its cells.
-- Assumes nothing.
use mathlib.Core.Path.{◌≡◌, refl, sym, ap, ap₂, ◌∙◌}
use mathlib.Core.Bool.{Bool, true, false, cond, not, true≢false}
use mathlib.Core.List.{List, [], ◌∷◌, map}
use mathlib.Core.Logic.{◌↔◌}
use Prim.Native.Nat.{ℕ, suc, ◌<◌}
use native.Mathlib.Omega.{arith}
use lib.ListN.{length}
use borrow.Author.Tests.{not-true, not-false}
use Rattle.whole.specs.Whole.{all_of}
use Rattle.record.specs.declared.Field.{Field as FieldRecord}
use Rattle.store.specs.Node.{Layout, laid_at}
use Rattle.own.specs.declared.Owner.{Owner}
use Rattle.own.specs.Own.{chosen, is_in, cells_of, fields_of}
use Rattle.own.proofs.Lists.{by_test, same_test, Every, every_map, every_number, all_in}
use Rattle.own.proofs.Tables.{all_map}
use Rattle.order.specs.Replicas.{Pairwise}

-- ---- two by two

module _ {A : Type 0} where
  -- what relates the elements of two lists in two ways, and holds of those of each, relates them in a third
  pub pairwise_more : (P P' : A → Type 0) (R S T : A → A → Type 0) → ((x x' : A) → P x → P' x' → R x x' → S x x' → T x x')
      → (l l' : List A) → Every P l → Every P' l' → Pairwise R l l' → Pairwise S l l' → Pairwise T l l'
  pairwise_more P P' R S T f [] [] h h' r s = tt
  pairwise_more P P' R S T f [] (x' ∷ l') h h' r s = r
  pairwise_more P P' R S T f (x ∷ l) [] h h' r s = r
  pairwise_more P P' R S T f (x ∷ l) (x' ∷ l') h h' r s =
      (f x x' h.0 h'.0 r.0 s.0, pairwise_more P P' R S T f l l' h.1 h'.1 r.1 s.1)

  -- a list with itself
  pub pairwise_same : (R : A → A → Type 0) (l : List A) → Every (λ x. R x x) l → Pairwise R l l
  pairwise_same R [] h = tt
  pairwise_same R (x ∷ l) h = (h.0, pairwise_same R l h.1)

-- ---- two tests

module _ {A : Type 0} (p p' : A → Bool) where
  pub all_pairwise : (l l' : List A) → Pairwise (λ x x'. p x ≡ p' x') l l' → all_of p l ≡ all_of p' l'
  unfolding all_of
  all_pairwise [] [] h = refl
  all_pairwise [] (x' ∷ l') h = absurd h
  all_pairwise (x ∷ l) [] h = absurd h
  all_pairwise (x ∷ l) (x' ∷ l') h = rw (h.0, all_pairwise l l' h.1)

  pub all_alike : (l : List A) → Every (λ x. p x ≡ p' x) l → all_of p l ≡ all_of p' l
  all_alike l h = all_pairwise l l (pairwise_same (λ x x'. p x ≡ p' x') l h)

  pub chosen_pairwise : {B : Type 0} (v v' : A → B) (l l' : List A) → Pairwise (λ x x'. (p x ≡ p' x') × (p x ≡ true → v x ≡ v' x')) l l'
      → map v (chosen p l) ≡ map v' (chosen p' l')
  unfolding chosen
  chosen_pairwise v v' [] [] h = refl
  chosen_pairwise v v' [] (x' ∷ l') h = absurd h
  chosen_pairwise v v' (x ∷ l) [] h = absurd h
  chosen_pairwise v v' (x ∷ l) (x' ∷ l') h =
      let later = chosen_pairwise v v' l l' h.1 in
      rw (← h.0.0) (same_test (λ (k k' : List A). map v k ≡ map v' k') (p x) (λ t. ap₂ ◌∷◌ (h.0.1 t) later) (λ t. later))

-- ---- one test

module _ {A : Type 0} (p : A → Bool) where
  one_fails : (P : A → Type 0) (l : List A) → Every P l → all_of p l ≡ false → (x : A) × P x × (p x ≡ false)
  unfolding all_of
  one_fails P [] h t = absurd (true≢false t)
  one_fails P (x ∷ l) h t = go (p x) refl (one_fails P l h.1)
    where
      go : (b : Bool) → p x ≡ b → (all_of p l ≡ false → (y : A) × P y × (p y ≡ false)) → (y : A) × P y × (p y ≡ false)
      go true e later = later (rw e at t)
      go false e later = (x, h.0, e)

  -- not all fail: some are chosen
  pub chosen_some : (l : List A) → all_of (λ x. not (p x)) l ≡ false → 0 < length (chosen p l)
  unfolding all_of chosen
  chosen_some [] t = absurd (true≢false t)
  chosen_some (x ∷ l) t = by_test (λ (k : List A). 0 < length k) (p x) (λ e. omega arith) (λ e. chosen_some l (rw e at t))

  -- where no value is, none was chosen
  pub chosen_none : {B : Type 0} (v : A → B) (l : List A) → map v (chosen p l) ≡ [] → Every (λ x. p x ≡ false) l
  unfolding chosen
  chosen_none v [] e = tt
  chosen_none {B} v (x ∷ l) e = go (p x) refl e (chosen_none v l)
    where
      go : (b : Bool) → p x ≡ b → map v (cond b (x ∷ chosen p l) (chosen p l)) ≡ [] → (map v (chosen p l) ≡ [] → Every (λ y. p y ≡ false) l)
          → (p x ≡ false) × Every (λ y. p y ≡ false) l
      go true t none later = let size : ◌≡◌ {A = ℕ} (suc (length (map v (chosen p l)))) 0 = ap length none in absurd (omega arith)
      go false t none later = (t, later none)

pub no_element : {A : Type 0} (l : List A) → Every (λ x. ⊥) l → l ≡ []
no_element [] h = refl
no_element (x ∷ l) h = absurd h.0

some_in : (p : ℕ → Bool) (l : List ℕ) → (all_of (λ d. not (p d)) l ≡ false) ↔ ((d : ℕ) × (is_in d l ≡ true) × (p d ≡ true))
some_in p l = (
  λ t. let (d, i, e) = one_fails (λ d. not (p d)) (λ d. is_in d l ≡ true) l (every_number _ l (λ d i. i)) t in (d, i, not-false (p d) e),
  λ h. go (all_of (λ d. not (p d)) l) refl h.0 h.1 h.2,
)
  where
    go : (b : Bool) → all_of (λ d. not (p d)) l ≡ b → (d : ℕ) → is_in d l ≡ true → p d ≡ true → b ≡ false
    go true t d i e = absurd (true≢false (sym e ∙ not-true (p d) ((all_in (λ d. not (p d)) l).0 t d i)))
    go false t d i e = refl

-- ---- the fields in cells

module _ (l : Layout) (o : Owner) where
  pub each_field : (P : FieldRecord → Type 0) → ((d : ℕ) → is_in d (cells_of l o) ≡ true → P (laid_at l d)) → Every P (fields_of l o)
  each_field P h = every_map (laid_at l) P (cells_of l o) (every_number (λ d. P (laid_at l d)) (cells_of l o) h)

  pub some_field : (p : FieldRecord → Bool)
      → (all_of (λ x. not (p x)) (fields_of l o) ≡ false) ↔ ((d : ℕ) × (is_in d (cells_of l o) ≡ true) × (p (laid_at l d) ≡ true))
  some_field p = rw (all_map (laid_at l) (λ x. not (p x)) (cells_of l o)) (some_in (λ d. p (laid_at l d)) (cells_of l o))
