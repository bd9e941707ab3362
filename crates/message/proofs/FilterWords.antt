-- Which words a filter uses: what is to be shown is looked at for each of the first ten filters by itself, and for all that come after them at once, as
-- none of these uses a word.
-- Assumes nothing.
use mathlib.Core.Path.{◌≡◌, refl, sym}
use mathlib.Core.Bool.{true, false, not, ◌||◌, true≢false, and-eq-true_iff}
use mathlib.Core.Logic.{⊎_elim}
use Prim.Native.Nat.{ℕ, zero, suc, ◌≤◌}
use native.Mathlib.Omega.{arith}
use lib.Dec.{leb}
use lib.IntN.{ℤ, pos}
use borrow.Author.Tests.{leb-true}
use Rattle.packing.specs.Values.{value_of, pattern_of}
use Rattle.filter.specs.Filter.{masked, compared, bound, rules, passes}
use Rattle.record.specs.Numbers.{within}
use Rattle.record.proofs.Tests.{or_holds}
use Rattle.ranges.specs.Ranges.{uses_x1, uses_x2}

-- the number ten further on
abbrev ten : ℕ → ℕ
ten k = suc (suc (suc (suc (suc (suc (suc (suc (suc (suc k)))))))))

module _ (P : ℕ → Type 0) where
  by_filter : P 0 → P 1 → P 2 → P 3 → P 4 → P 5 → P 6 → P 7 → P 8 → P 9 → ((k : ℕ) → P (ten k)) → (filter : ℕ) → P filter
  by_filter a b c d e f g h i j z zero = a
  by_filter a b c d e f g h i j z (suc zero) = b
  by_filter a b c d e f g h i j z (suc (suc zero)) = c
  by_filter a b c d e f g h i j z (suc (suc (suc zero))) = d
  by_filter a b c d e f g h i j z (suc (suc (suc (suc zero)))) = e
  by_filter a b c d e f g h i j z (suc (suc (suc (suc (suc zero))))) = f
  by_filter a b c d e f g h i j z (suc (suc (suc (suc (suc (suc zero)))))) = g
  by_filter a b c d e f g h i j z (suc (suc (suc (suc (suc (suc (suc zero))))))) = h
  by_filter a b c d e f g h i j z (suc (suc (suc (suc (suc (suc (suc (suc zero)))))))) = i
  by_filter a b c d e f g h i j z (suc (suc (suc (suc (suc (suc (suc (suc (suc zero))))))))) = j
  by_filter a b c d e f g h i j z (suc (suc (suc (suc (suc (suc (suc (suc (suc (suc k)))))))))) = z k

-- ---- a word that is not used

module _ {A : Type 0} where
  used : true ≡ false → A
  used t = absurd (true≢false t)

  not_used : false ≡ true → A
  not_used t = absurd (true≢false (sym t))

module _ (sign x1 x2 y : ℕ) (new old : ℤ) where
  pub x1_unused : (filter : ℕ) → uses_x1 filter ≡ false → passes filter sign x1 x2 new old ≡ passes filter sign y x2 new old
  unfolding passes rules
  x1_unused =
      by_filter (λ f. uses_x1 f ≡ false → passes f sign x1 x2 new old ≡ passes f sign y x2 new old)
      (λ t. refl) (λ t. refl) used used (λ t. refl) (λ t. refl) used used used used (λ k t. refl)

  pub x2_unused : (filter : ℕ) → uses_x2 filter ≡ false → passes filter sign x1 x2 new old ≡ passes filter sign x1 y new old
  unfolding passes rules
  x2_unused =
      by_filter (λ f. uses_x2 f ≡ false → passes f sign x1 x2 new old ≡ passes f sign x1 y new old)
      (λ t. refl) (λ t. refl) used used (λ t. refl) (λ t. refl) (λ t. refl) (λ t. refl) used used (λ k t. refl)

-- ---- a word that is used

-- no filter past the ninth
past : {A : Type 0} (k a b : ℕ) → ((within 2 3 (ten k) || within a b (ten k)) ≡ true) → b ≤ 9 → A
past k a b t l =
    absurd (⊎_elim (λ h. above 2 3 h (omega arith)) (λ h. above a b h l) ((or_holds (within 2 3 (ten k)) (within a b (ten k))).0 t))
  where
    above : (c d : ℕ) → within c d (ten k) ≡ true → d ≤ 9 → ⊥
    above c d h e = omega (arith, leb-true (ten k) d ((and-eq-true_iff (leb c (ten k)) (leb (ten k) d)).0 h).1)

pub x1_used : (filter : ℕ) → uses_x1 filter ≡ true → passes filter 0 5 5 (pos 5) (pos 7) ≡ not (passes filter 0 6 5 (pos 5) (pos 7))
unfolding pattern_of value_of masked compared bound rules passes
x1_used =
    by_filter (λ f. uses_x1 f ≡ true → passes f 0 5 5 (pos 5) (pos 7) ≡ not (passes f 0 6 5 (pos 5) (pos 7)))
    not_used not_used (λ t. refl) (λ t. refl) not_used not_used (λ t. refl) (λ t. refl) (λ t. refl) (λ t. refl) (λ k t. past k 6 9 t (omega arith))

pub x2_used : (filter : ℕ) → uses_x2 filter ≡ true → passes filter 0 5 5 (pos 5) (pos 7) ≡ not (passes filter 0 5 4 (pos 5) (pos 7))
unfolding pattern_of value_of masked compared bound rules passes
x2_used =
    by_filter (λ f. uses_x2 f ≡ true → passes f 0 5 5 (pos 5) (pos 7) ≡ not (passes f 0 5 4 (pos 5) (pos 7)))
    not_used not_used (λ t. refl) (λ t. refl) not_used not_used not_used not_used (λ t. refl) (λ t. refl) (λ k t. past k 8 9 t (omega arith))
