-- Loops over the instances: what a turn takes off the front of a count and of a sum, and what a sum comes to at the end. What is left at turn j is
-- `drop j`. The library's count and first element are those of specs/Agreement. Assumes nothing.
use mathlib.Core.Path.{◌≡◌, refl, ap, sym, ◌∙◌}
use mathlib.Core.Bool.{Bool, true, false, cond}
use mathlib.Core.List.{List, [], ◌∷◌}
use Prim.Native.Nat.{ℕ, ◌+◌, ◌<◌, ◌≤◌}
use native.Mathlib.Nat.{zero-add}
use lib.IntN.{ℤ, pos, ◌+ℤ◌, +ℤ_assoc, +ℤ_idr}
use lib.ListN.{length, drop, get_or}
use Rattle.std.specs.Prelude.{slice_get}
use Rattle.std.specs.List.{count_by}
use Rattle.std.proofs.lemmas.List.Recursion.{is_count_by}
use Rattle.whole.specs.Whole.{eq_z}
use Rattle.whole.proofs.Loops.{next, none_left}
use Rattle.agreement.specs.Agreement.{pick_any, count_of, sum_of}

-- ---- a turn at j, while there are instances left; X is the whole answer

module _ (l : List ℤ) (j : ℕ) (h : j < length l) where
  pub count_turn : (v : ℤ) → count_of v (drop j l) ≡ cond (eq_z (get_or l j (pos 0)) v) 1 0 + count_of v (drop (j + 1) l)
  unfolding count_of
  count_turn v = ap (count_of v) (next l j (pos 0) h)

  pub sum_turn : (s : ℤ) {X : ℤ} → X ≡ s +ℤ sum_of (drop j l) → X ≡ (s +ℤ get_or l j (pos 0)) +ℤ sum_of (drop (j + 1) l)
  unfolding sum_of
  sum_turn s e = e ∙ ap (λ z. s +ℤ sum_of z) (next l j (pos 0) h) ∙ sym (+ℤ_assoc s (get_or l j (pos 0)) (sum_of (drop (j + 1) l)))

-- ---- the end

module _ (l : List ℤ) (j : ℕ) (h : length l ≤ j) where
  pub sum_end : (s : ℤ) {X : ℤ} → X ≡ s +ℤ sum_of (drop j l) → s ≡ X
  unfolding sum_of
  sum_end s e = sym (e ∙ ap (λ z. s +ℤ sum_of z) (none_left l j h) ∙ +ℤ_idr s)

-- ---- the library's count, and its first element

pub counted_by : (v : ℤ) (l : List ℤ) → count_by (λ u. eq_z u v) l ≡ count_of v l
unfolding count_of
counted_by v l = sym (is_count_by (count_of v) (λ u. eq_z u v) refl (λ u m. go (eq_z u v) (count_of v m)) l)
  where
    go : (t : Bool) (n : ℕ) → cond t 1 0 + n ≡ cond t (1 + n) n
    go true n = refl
    go false n = zero-add n

pub first : (l : List ℤ) → slice_get l 0 ≡ pick_any l
first [] = refl
first (v ∷ l) = refl
