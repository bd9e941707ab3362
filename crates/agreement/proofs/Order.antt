-- Vote and average do not depend on the order of the instances. The number of instances, their sum, each value's count and a test of all do not,
-- and vote and average go by these alone.
-- Assumes nothing.
use mathlib.Core.Path.{◌≡◌, refl, ap, ap₂, sym, ◌∙◌}
use mathlib.Core.Bool.{Bool, true, false, cond, ◌&&◌, and-false}
use mathlib.Core.List.{List, Permᴰ}
use Prim.Native.Nat.{suc, ◌+◌}
use native.Mathlib.Omega.{arith}
use lib.IntN.{ℤ, ◌+ℤ◌}
use lib.ListN.{length}
use Rattle.std.specs.Prelude.{Option, Some, None}
use Rattle.whole.specs.Whole.{eq_z, all_of}
use Rattle.agreement.specs.Agreement.{count_of, sum_of, mean_of, message_value, message_values, average, vote}
use Rattle.agreement.proofs.Quotient.{exchange}
use Rattle.agreement.proofs.Vote.{Outcome, outcome, one_outcome}

-- the same instances in another order: the library's permutations
abbrev pub Perm : List ℤ → List ℤ → Type 0
Perm = Permᴰ

perm_length : {l m : List ℤ} → Perm l m → length l ≡ length m
perm_length Permᴰ.nil = refl
perm_length (Permᴰ.cons e p) = ap suc (perm_length p)
perm_length (Permᴰ.swap e f) = refl
perm_length (Permᴰ.trans p q) = perm_length p ∙ perm_length q

perm_sum : {l m : List ℤ} → Perm l m → sum_of l ≡ sum_of m
unfolding sum_of
perm_sum Permᴰ.nil = refl
perm_sum (Permᴰ.cons e p) = ap₂ ◌+ℤ◌ e (perm_sum p)
perm_sum (Permᴰ.swap {a} {b} {l = l} e f) = exchange a b (sum_of l) ∙ ap₂ (λ x y. x +ℤ (y +ℤ sum_of l)) f e
perm_sum (Permᴰ.trans p q) = perm_sum p ∙ perm_sum q

perm_count : {l m : List ℤ} → Perm l m → (u : ℤ) → count_of u l ≡ count_of u m
unfolding count_of
perm_count Permᴰ.nil u = refl
perm_count (Permᴰ.cons e p) u = ap₂ (λ x n. cond (eq_z x u) 1 0 + n) e (perm_count p u)
perm_count (Permᴰ.swap e f) u = rw (e, f) (omega arith)
perm_count (Permᴰ.trans p q) u = perm_count p u ∙ perm_count q u

perm_all : {l m : List ℤ} → Perm l m → (t : ℤ → Bool) → all_of t l ≡ all_of t m
unfolding all_of
perm_all Permᴰ.nil t = refl
perm_all (Permᴰ.cons e p) t = ap₂ (λ x b. t x && b) e (perm_all p t)
perm_all (Permᴰ.swap {a} {b} {l = l} e f) t = exchanged (t a) (t b) (all_of t l) ∙ ap₂ (λ x y. t x && (t y && all_of t l)) f e
  where
    exchanged : (a b c : Bool) → (a && (b && c)) ≡ (b && (a && c))
    exchanged true b c = refl
    exchanged false b c = sym (and-false b)
perm_all (Permᴰ.trans p q) t = perm_all p t ∙ perm_all q t

-- ---- the laws

pub perm_vote : {l m : List ℤ} → Perm l m → vote l ≡ vote m
perm_vote {l} {m} p = one_outcome m (vote l) (vote m) (moved (vote l) (outcome l)) (outcome m)
  where
    moved : (r : Option ℤ) → Outcome l r → Outcome m r
    moved (Some v) h = λ u n. omega (arith, h u n, perm_count p u, perm_count p v)
    moved None h = λ v k. h v (λ u n. omega (arith, k u n, perm_count p u, perm_count p v))

pub perm_average : {l m : List ℤ} → Perm l m → average l ≡ average m
unfolding average message_values mean_of
perm_average {l} {m} p = rw (perm_length p, perm_sum p, perm_all p message_value) refl
