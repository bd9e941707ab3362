-- On nodes, a reordering that keeps the order of dependent calls changes neither what a caller sees nor the node in the end: two calls that do not
-- depend on each other may change places, so the second list's first call is brought to the front of the first list, and so on with the rest.
-- Assumes nothing.
use mathlib.Core.Path.{◌≡◌, refl, ap, sym, subst, ◌∙◌}
use mathlib.Core.List.{List, [], ◌∷◌, ◌++◌}
use mathlib.Core.Logic.{⊎_elim}
use mathlib.Core.Bool.{false}
use Rattle.store.specs.Node.{Layout, Node}
use Rattle.calls.specs.Relations.{Call, Seen, next}
use Rattle.order.specs.Order.{dependent, Numbered, Result, In, here, there, first, later, Reordered, end, results}
use Rattle.order.proofs.Among.{in_none, in_cases, in_eq, in_add, in_less, in_left, before_add, before_mid, before_twice, split}
use Rattle.order.proofs.Footprints.{Commutes, commute}
use Rattle.order.proofs.Kept.{kept_layout}

-- ---- the second list's first call in the first list

module _ (layout : Layout) (p q r : List Numbered) (t : Numbered) (R : Reordered layout (p ++ t ∷ q) (t ∷ r)) where
  -- it stands once in each list
  once₁ : In t (p ++ q) → ⊥
  once₁ i = R.distinct₁ t t (before_twice p q i) refl

  once₂ : In t r → ⊥
  once₂ i = R.distinct₂ t t (first i) refl

  in₁ : (a : Numbered) → In a (p ++ q) → In a r
  in₁ a i = ⊎_elim (λ e. absurd (once₁ (subst (λ (b : Numbered). In b (p ++ q)) e i))) (λ j. j) (in_cases (R.all₁ a (in_add t p q i)))

  in₂ : (a : Numbered) → In a r → In a (p ++ q)
  in₂ a i = ⊎_elim (λ e. absurd (once₂ (subst (λ (b : Numbered). In b r) e i))) (λ j. j) (in_less p q (R.all₂ a (there i)))

  -- what the first list has before it does not depend on it
  passed : (x : Numbered) → In x p → dependent layout x.call t.call ≡ false
  passed x i = R.swapped x t (before_mid p q i) (first (in₁ x (in_left p q i)))

  rest : Reordered layout (p ++ q) r
  rest =
      record {
        distinct₁ = λ a b k. R.distinct₁ a b (before_add t p q k);
        distinct₂ = λ a b k. R.distinct₂ a b (later k);
        all₁ = in₁;
        all₂ = in₂;
        swapped = λ a b k j. R.swapped a b (before_add t p q k) (later j);
      }

-- ---- runs

-- the same node in the end, and each result of one order is one of the other
abbrev Agrees : Node → List Numbered → List Numbered → Type 0
Agrees n l₁ l₂ = (end n l₁ ≡ end n l₂) × ((r : Result) → In r (results n l₁) → In r (results n l₂))

module _ (layout : Layout) where
  -- of nodes of that layout
  commutes : (n : Node) → n.layout ≡ layout → (c d : Call) → dependent layout c d ≡ false → Commutes n c d
  commutes n e c d u = commute n c d (rw e u)

  -- a call that no call before it depends on is brought to the front
  front : (p q : List Numbered) (t : Numbered) (n : Node) → n.layout ≡ layout
      → ((x : Numbered) → In x p → dependent layout x.call t.call ≡ false) → Agrees n (p ++ t ∷ q) (t ∷ (p ++ q))
  front [] q t n e free = (refl, λ r i. i)
  front (x ∷ p) q t n e free =
      let w = commutes n e x.call t.call (free x here) in
      let behind = front p q t (next n x.call) (kept_layout n x.call ∙ e) (λ y i. free y (there i)) in (
        behind.0 ∙ ap (λ (s : Node). end s (p ++ q)) w.same_next,
        λ r i. ⊎_elim
            (λ z. there (in_eq (z ∙ ap (λ (o : Seen). record { number = x.number; seen = o }) (sym w.seen_first))))
            (λ j. ⊎_elim
            (λ z. in_eq (z ∙ ap (λ (o : Seen). record { number = t.number; seen = o }) w.seen_second))
            (λ k. there (there (subst (λ (s : Node). In r (results s (p ++ q))) w.same_next k)))
            (in_cases (behind.1 r j)))
            (in_cases i),
      )

  turn : (p q r : List Numbered) (t : Numbered) (n : Node) → n.layout ≡ layout → Reordered layout (p ++ t ∷ q) (t ∷ r)
      → Agrees (next n t.call) (p ++ q) r → Agrees n (p ++ t ∷ q) (t ∷ r)
  turn p q r t n e R a =
      let moved = front p q t n e (passed layout p q r t R) in
      (moved.0 ∙ a.0, λ o i. ⊎_elim in_eq (λ j. there (a.1 o j)) (in_cases (moved.1 o i)))

  pub agrees : (l₂ l₁ : List Numbered) (n : Node) → n.layout ≡ layout → Reordered layout l₁ l₂ → Agrees n l₁ l₂
  agrees [] [] n e R = (refl, λ r i. i)
  agrees [] (x ∷ l) n e R = absurd (in_none (R.all₁ x here))
  agrees (t ∷ r) l₁ n e R =
      let (p, q, same) = split (R.all₂ t here) in
      let R' : Reordered layout (p ++ t ∷ q) (t ∷ r) = rw same at R in
      rw same (turn p q r t n e R' (agrees r (p ++ q) (next n t.call) (kept_layout n t.call ∙ e) (rest layout p q r t R')))
