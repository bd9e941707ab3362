-- The laws of `changed`, `chosen`, `is_in` and `table`, by induction on the list. Of `changed`: each element is as the test of its number says. Of
-- `chosen`: what holds of each element that passes the test holds of all that are chosen, and a number is chosen exactly if it was there and passes.
-- What holds of each number that is in a list holds of all its elements, and a test of all is one of each.
-- Assumes nothing.
use mathlib.Core.Path.{◌≡◌, refl, ap, sym, ◌∙◌}
use mathlib.Core.Bool.{Bool, true, false, cond, ◌&&◌, ◌||◌, and-false, and-eq-true_iff, true≢false}
use mathlib.Core.List.{List, [], ◌∷◌, map}
use mathlib.Core.Logic.{◌↔◌}
use Prim.Native.Nat.{ℕ, zero, suc, ◌+◌, ◌<◌, ◌≤◌}
use native.Mathlib.Decide.{ℕ_discrete}
use native.Mathlib.Nat.{add-zero}
use native.Mathlib.Omega.{arith}
use lib.Dec.{eqb}
use lib.ListN.{length, get_or}
use borrow.Author.Tests.{eqb-true, eq-eqb}
use Rattle.std.specs.Bool.{MatchBool}
use Rattle.std.specs.List.{AllWithin, HoldsAt}
use Rattle.whole.specs.Whole.{all_of}
use Rattle.start.specs.Start.{table}
use Rattle.own.specs.Own.{chosen, changed, is_in, Rising}

-- a choice by a test has a property that both its sides have
pub by_test : {A : Type 0} (P : A → Type 0) (t : Bool) {a b : A} → (t ≡ true → P a) → (t ≡ false → P b) → P (cond t a b)
by_test P true one other = one refl
by_test P false one other = other refl

-- two choices by one test are related as both their sides are
pub same_test : {A : Type 0} (R : A → A → Type 0) (t : Bool) {a b a' b' : A} → (t ≡ true → R a a') → (t ≡ false → R b b')
    → R (cond t a b) (cond t a' b')
same_test R true one other = one refl
same_test R false one other = other refl

-- ---- the elements after a change

module _ {A : Type 0} (p : ℕ → Bool) (g : ℕ → A → A) where
  pub changed_length : (i : ℕ) (l : List A) → length (changed p g i l) ≡ length l
  unfolding changed
  changed_length i [] = refl
  changed_length i (x ∷ l) = ap suc (changed_length (suc i) l)

  changed_from : (i : ℕ) (l : List A) (j : ℕ) (d : A) → j < length l
      → get_or (changed p g i l) j d ≡ cond (p (i + j)) (g (i + j) (get_or l j d)) (get_or l j d)
  unfolding changed
  changed_from i [] j d h = absurd (omega arith)
  changed_from i (x ∷ l) zero d h = rw add-zero
  changed_from i (x ∷ l) (suc j) d h =
      let number : suc i + j ≡ i + suc j = omega arith in
      rw number at (changed_from (suc i) l j d (omega arith))

  pub changed_at : (l : List A) (j : ℕ) (d : A) → j < length l
      → get_or (changed p g 0 l) j d ≡ cond (p j) (g j (get_or l j d)) (get_or l j d)
  changed_at l j d h = let number : 0 + j ≡ j = omega arith in rw number at (changed_from 0 l j d h)

-- ---- what holds of each element

abbrev pub Every : {A : Type 0} → (A → Type 0) → List A → Type 0
Every P [] = Unit {0}
Every P (x ∷ l) = P x × Every P l

pub every_more : {A : Type 0} (P Q : A → Type 0) → ((x : A) → P x → Q x) → (l : List A) → Every P l → Every Q l
every_more P Q f [] h = tt
every_more P Q f (x ∷ l) h = (f x h.0, every_more P Q f l h.1)

pub chosen_each : {A : Type 0} (p : A → Bool) (P : A → Type 0) (l : List A) → Every (λ x. p x ≡ true → P x) l → Every P (chosen p l)
unfolding chosen
chosen_each p P [] h = tt
chosen_each p P (x ∷ l) h =
    let later = chosen_each p P l h.1 in
    by_test (Every P) (p x) (λ t. (h.0 t, later)) (λ t. later)

pub every_map : {A B : Type 0} (f : A → B) (P : B → Type 0) (l : List A) → Every (λ x. P (f x)) l → Every P (map f l)
every_map f P [] h = tt
every_map f P (x ∷ l) h = (h.0, every_map f P l h.1)

-- a test of all is one of each
pub all_every : {A : Type 0} (p : A → Bool) (l : List A) → (all_of p l ≡ true) ↔ Every (λ x. p x ≡ true) l
unfolding all_of
all_every p [] = (λ t. tt, λ h. refl)
all_every p (x ∷ l) =
    let later = all_every p l in
    (λ t. let both = (and-eq-true_iff (p x) (all_of p l)).0 t in (both.0, later.0 both.1), λ h. rw h.0 (later.1 h.1))

-- no more are chosen than there are
pub chosen_few : {A : Type 0} (p : A → Bool) (l : List A) → length (chosen p l) ≤ length l
unfolding chosen
chosen_few p [] = omega arith
chosen_few {A} p (x ∷ l) =
    let later = chosen_few p l in
    by_test (λ (c : List A). length c ≤ suc (length l)) (p x) (λ t. omega arith) (λ t. omega arith)

-- ---- the numbers in a list

-- the first, or one of the others
pub in_cases : {P : Type 0} (d e : ℕ) (l : List ℕ) → is_in d (e ∷ l) ≡ true → (d ≡ e → P) → (is_in d l ≡ true → P) → P
unfolding is_in
in_cases {P} d e l t first later = go (eqb d e) refl t
  where
    go : (b : Bool) → eqb d e ≡ b → (b || is_in d l) ≡ true → P
    go true u v = first (eqb-true d e u)
    go false u v = later v

pub every_in : (P : ℕ → Type 0) (l : List ℕ) (d : ℕ) → Every P l → is_in d l ≡ true → P d
unfolding is_in
every_in P [] d h t = absurd (true≢false (sym t))
every_in P (e ∷ l) d h t = in_cases d e l t (λ u. rw u h.0) (every_in P l d h.1)

or_right : (a : Bool) {b : Bool} → b ≡ true → (a || b) ≡ true
or_right true t = refl
or_right false t = t

pub every_number : (P : ℕ → Type 0) (l : List ℕ) → ((d : ℕ) → is_in d l ≡ true → P d) → Every P l
unfolding is_in
every_number P [] h = tt
every_number P (e ∷ l) h = (h e (rw (eq-eqb e e refl) refl), every_number P l (λ d t. h d (or_right (eqb d e) t)))

pub all_in : (p : ℕ → Bool) (l : List ℕ) → (all_of p l ≡ true) ↔ ((d : ℕ) → is_in d l ≡ true → p d ≡ true)
all_in p l = (
  λ t d i. every_in (λ d. p d ≡ true) l d ((all_every p l).0 t) i,
  λ h. (all_every p l).1 (every_number (λ d. p d ≡ true) l h),
)

chosen_test : (p : ℕ → Bool) (d : ℕ) (l : List ℕ) → is_in d (chosen p l) ≡ (is_in d l && p d)
unfolding is_in chosen
chosen_test p d [] = refl
chosen_test p d (e ∷ l) = go (eqb d e) (p e) refl refl (chosen_test p d l)
  where
    go : (a b : Bool) → eqb d e ≡ a → p e ≡ b → is_in d (chosen p l) ≡ (is_in d l && p d)
        → is_in d (cond b (e ∷ chosen p l) (chosen p l)) ≡ ((a || is_in d l) && p d)
    go true true u v later = rw (u, eqb-true d e u, v) refl
    go true false u v later = let fails : p d ≡ false = ap p (eqb-true d e u) ∙ v in later ∙ rw fails (and-false (is_in d l))
    go false true u v later = rw u later
    go false false u v later = later

pub in_chosen : (p : ℕ → Bool) (d : ℕ) (l : List ℕ) → (is_in d (chosen p l) ≡ true) ↔ ((is_in d l ≡ true) × (p d ≡ true))
in_chosen p d l = rw (chosen_test p d l) (and-eq-true_iff (is_in d l) (p d))

-- ---- the numbers in a table

module _ (f : ℕ → ℕ) (d : ℕ) where
  found : (i k : ℕ) → is_in d (table f i k) ≡ true → (j : ℕ) × (i ≤ j) × (j < i + k) × (f j ≡ d)
  unfolding is_in table
  found i zero t = absurd (true≢false (sym t))
  found i (suc k) t =
      in_cases d (f i) (table f (suc i) k) t (λ u. (i, omega arith, omega arith, sym u))
      (λ v. let (j, from, to, e) = found (suc i) k v in (j, omega arith, omega arith, e))

  there : (i k j : ℕ) → i ≤ j → j < i + k → f j ≡ d → is_in d (table f i k) ≡ true
  unfolding is_in table
  there i zero j from to e = absurd (omega arith)
  there i (suc k) j from to e = go (ℕ_discrete i j) (λ h. there (suc i) k j h (omega arith) e)
    where
      go : Dec (i ≡ j) → (suc i ≤ j → is_in d (table f (suc i) k) ≡ true) → (eqb d (f i) || is_in d (table f (suc i) k)) ≡ true
      go (yes h) later = rw (eq-eqb d (f i) (sym e ∙ ap f (sym h))) refl
      go (no h) later = or_right (eqb d (f i)) (later (omega arith))

  pub in_table : (i k : ℕ) → (is_in d (table f i k) ≡ true) ↔ ((j : ℕ) × (i ≤ j) × (j < i + k) × (f j ≡ d))
  in_table i k = (found i k, λ h. there i k h.0 h.1 h.2 h.3)

-- what is chosen of a table rises where f does between places that pass
pub chosen_rise : (p : ℕ → Bool) (f : ℕ → ℕ) (i k : ℕ)
    → ((a b : ℕ) → i ≤ a → a < b → b < i + k → p (f a) ≡ true → p (f b) ≡ true → f a < f b) → Rising (chosen p (table f i k))
unfolding chosen table
chosen_rise p f i zero rise = tt
chosen_rise p f i (suc k) rise =
    let later = chosen_rise p f (suc i) k (λ a b from h to. rise a b (omega arith) h (omega arith)) in
    by_test Rising (p (f i)) (λ t. (λ e there. after t e ((in_chosen p e (table f (suc i) k)).0 there), later)) (λ t. later)
  where
    after : p (f i) ≡ true → (e : ℕ) → (is_in e (table f (suc i) k) ≡ true) × (p e ≡ true) → f i < e
    after t e (there, u) =
        let (b, from, to, same) = (in_table f e (suc i) k).0 there in
        rw same at (rise i b (omega arith) (omega arith) (omega arith) t (rw same u))

-- ---- what a call of `all` answered

module _ {A : Type 0} (p : A → Bool) where
  all_told : (l : List A) → AllWithin (λ x. p x ≡ true) l 0 (length l) → all_of p l ≡ true
  unfolding all_of
  all_told [] h = refl
  all_told (x ∷ l) h = rw (h 0 x (omega arith) (omega arith)) (all_told l (λ k d low to. h (suc k) d (omega arith) (omega arith)))

  one_fails : (l : List A) (k : ℕ) → k < length l → HoldsAt (λ x. p x ≡ false) l k → all_of p l ≡ false
  unfolding all_of
  one_fails [] k to h = absurd (omega arith)
  one_fails (x ∷ l) zero to h = rw (h x) refl
  one_fails (x ∷ l) (suc k) to h = rw (one_fails l k (omega arith) h, and-false) refl

  pub all_answer : (l : List A) (r : Bool)
      → MatchBool r (AllWithin (λ x. p x ≡ true) l 0 (length l)) ((k : ℕ) × (k < length l) × HoldsAt (λ x. p x ≡ false) l k) → r ≡ all_of p l
  all_answer l true h = sym (all_told l h)
  all_answer l false h = sym (one_fails l h.0 h.1 h.2)
