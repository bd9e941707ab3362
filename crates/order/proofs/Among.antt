-- Membership and order in a list from whose middle an element is taken.
-- Assumes nothing.
use mathlib.Core.Path.{◌≡◌, refl, ap, subst}
use mathlib.Core.List.{List, [], ◌∷◌, ◌++◌}
use mathlib.Core.Logic.{◌⊎◌, inl, inr, ⊎_elim}
use Rattle.order.specs.Order.{In, here, there, Before, first, later}

module _ {A : Type 0} where
  abbrev Some : List A → Type 0
  Some [] = ⊥
  Some (x ∷ l) = Unit {0}

  in_some : {a : A} {l : List A} → In a l → Some l
  in_some here = tt
  in_some (there i) = tt

  pub in_none : {a : A} → In a [] → ⊥
  in_none i = in_some i

  pub in_cases : {a b : A} {l : List A} → In a (b ∷ l) → (a ≡ b) ⊎ In a l
  in_cases here = inl refl
  in_cases (there i) = inr i

  pub in_eq : {a b : A} {l : List A} → a ≡ b → In a (b ∷ l)
  in_eq {a} {b} {l} e = subst (λ (c : A). In a (c ∷ l)) e here

  -- t is put into p ++ q
  pub in_add : {a : A} (t : A) (p q : List A) → In a (p ++ q) → In a (p ++ t ∷ q)
  in_add t [] q i = there i
  in_add t (x ∷ p) q i = ⊎_elim in_eq (λ j. there (in_add t p q j)) (in_cases i)

  in_mid : {t : A} (p q : List A) → In t (p ++ t ∷ q)
  in_mid [] q = here
  in_mid (x ∷ p) q = there (in_mid p q)

  -- and taken out again
  pub in_less : {a t : A} (p q : List A) → In a (p ++ t ∷ q) → (a ≡ t) ⊎ In a (p ++ q)
  in_less [] q i = in_cases i
  in_less (x ∷ p) q i = ⊎_elim (λ e. inr (in_eq e)) (λ j. ⊎_elim (λ e. inl e) (λ k. inr (there k)) (in_less p q j)) (in_cases i)

  pub in_left : {a : A} (p q : List A) → In a p → In a (p ++ q)
  in_left [] q i = absurd (in_none i)
  in_left (x ∷ p) q i = ⊎_elim in_eq (λ j. there (in_left p q j)) (in_cases i)

  pub before_in : {a b : A} {l : List A} → Before a b l → In b l
  before_in (first i) = there i
  before_in (later k) = there (before_in k)

  pub before_cases : {a b c : A} {l : List A} → Before a b (c ∷ l) → ((a ≡ c) × In b l) ⊎ Before a b l
  before_cases (first i) = inl (refl, i)
  before_cases (later k) = inr k

  before_eq : {a b c : A} {l : List A} → a ≡ c → In b l → Before a b (c ∷ l)
  before_eq {a} {b} {c} {l} e i = subst (λ (d : A). Before a b (d ∷ l)) e (first i)

  pub before_add : {a b : A} (t : A) (p q : List A) → Before a b (p ++ q) → Before a b (p ++ t ∷ q)
  before_add t [] q k = later k
  before_add t (x ∷ p) q k = ⊎_elim (λ w. before_eq w.0 (in_add t p q w.1)) (λ j. later (before_add t p q j)) (before_cases k)

  -- what stands in p stands before t
  pub before_mid : {a t : A} (p q : List A) → In a p → Before a t (p ++ t ∷ q)
  before_mid [] q i = absurd (in_none i)
  before_mid (x ∷ p) q i = ⊎_elim (λ e. before_eq e (in_mid p q)) (λ j. later (before_mid p q j)) (in_cases i)

  -- t once more, beside the t in the middle, stands before itself
  pub before_twice : {t : A} (p q : List A) → In t (p ++ q) → Before t t (p ++ t ∷ q)
  before_twice [] q i = first i
  before_twice (x ∷ p) q i = ⊎_elim (λ e. before_eq e (in_mid p q)) (λ j. later (before_twice p q j)) (in_cases i)

  pub split : {t : A} {l : List A} → In t l → (p : List A) × (q : List A) × (l ≡ p ++ t ∷ q)
  split (here {l = l}) = ([], l, refl)
  split (there {b = b} i) = let s = split i in (b ∷ s.0, s.1, ap (λ (k : List A). b ∷ k) s.2)
