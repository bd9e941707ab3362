-- A loop that changes the elements of a list in place, turn by turn, over any element: after k turns the first k elements are those of the changed
-- list, and the others are as they were.
-- Assumes nothing.
use mathlib.Core.Path.{◌≡◌, ap, ap₂, sym, refl, ◌∙◌}
use mathlib.Core.Bool.{Bool, true, false}
use mathlib.Core.List.{List, [], ◌∷◌, ◌++◌, append_assoc}
use Prim.Native.Nat.{ℕ, zero, suc, ◌+◌, ◌<◌}
use native.Mathlib.Numerals.{add-one}
use native.Mathlib.Omega.{arith}
use lib.ListN.{length, get_or, set, take, drop, take-append-drop}
use lib.Seq.{drop-cons, take-suc, length-take-le, get_or_at, set_at, set-get_or}
use Rattle.own.specs.Own.{changed}
use Rattle.own.proofs.Lists.{by_test, changed_length, changed_at}

module _ {A : Type 0} (p : ℕ → Bool) (g : ℕ → A → A) where
  pub rest_stays : (i k : ℕ) (l : List A) → ((j : ℕ) → p j ≡ true → j < i + k) → drop k (changed p g i l) ≡ drop k l
  unfolding changed
  rest_stays i k [] before = refl
  rest_stays i zero (x ∷ l) before =
      ap₂ (λ (y : A) (r : List A). y ∷ r) (by_test (λ y. y ≡ x) (p i) (λ t. absurd (omega (arith, before i t))) (λ t. refl))
      (rest_stays (suc i) zero l (λ j u. omega (arith, before j u)))
  rest_stays i (suc k) (x ∷ l) before = rest_stays (suc i) k l (λ j u. omega (arith, before j u))

  module _ (l : List A) where
    abbrev pub changed_to : ℕ → List A
    changed_to k = take k (changed p g 0 l) ++ drop k l

    module _ (k : ℕ) (d : A) (h : k < length l) where
      front : length (take k (changed p g 0 l)) ≡ k
      front = length-take-le k (changed p g 0 l) (omega (arith, changed_length p g 0 l))

      -- element k is as it was
      pub not_yet : get_or (changed_to k) k d ≡ get_or l k d
      not_yet = rw (drop-cons l k d h) (get_or_at (take k (changed p g 0 l)) (get_or l k d) (drop (suc k) l) d k front)

      one_more : set (changed_to k) k (get_or (changed p g 0 l) k d) ≡ changed_to (k + 1)
      one_more =
          let new = changed p g 0 l in
          rw (add-one, drop-cons l k d h, take-suc new k d (omega (arith, changed_length p g 0 l)))
          (set_at (take k new) (get_or l k d) (drop (suc k) l) (get_or new k d) k front
          ∙ sym (append_assoc (take k new) (get_or new k d ∷ []) (drop (suc k) l)))

      -- where its number passes it is replaced, and where not it stays
      pub changed_turn : p k ≡ true → set (changed_to k) k (g k (get_or l k d)) ≡ changed_to (k + 1)
      changed_turn t = let new = changed_at p g l k d h in rw (rw t at new) at one_more

      pub changed_skip : p k ≡ false → changed_to k ≡ changed_to (k + 1)
      changed_skip t =
          let new = changed_at p g l k d h in
          sym (set-get_or (changed_to k) k d) ∙ ap (set (changed_to k) k) not_yet ∙ (rw (rw t at new) at one_more)

    -- where none from k on passes, all is changed
    pub changed_end : (k : ℕ) → ((j : ℕ) → p j ≡ true → j < k) → changed_to k ≡ changed p g 0 l
    changed_end k before = rw (← rest_stays 0 k l (λ j t. omega (arith, before j t))) (take-append-drop k (changed p g 0 l))
