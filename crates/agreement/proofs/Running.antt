-- The running sum of `float::add` over a message's instances comes to the mean of those that are left.
-- Assumes nothing.
use mathlib.Core.Path.{◌≡◌, refl, ap, sym, ◌∙◌}
use mathlib.Core.Bool.{Bool, true, false, cond}
use mathlib.Core.List.{List, [], ◌∷◌}
use Prim.Native.Nat.{ℕ, suc, ◌+◌, ◌^◌, ◌≤◌, ◌<◌}
use native.Mathlib.Nat.{add-zero}
use native.Mathlib.Omega.{arith}
use lib.IntN.{ℤ, pos, negsuc}
use lib.ListN.{length, drop, get_or}
use borrow.Author.Tests.{lt-leb, ne_eqb}
use Rattle.std.specs.Prelude.{Option, Some, None}
use Rattle.whole.proofs.Loops.{next, none_left}
use Rattle.packing.specs.Values.{pattern_of}
use Rattle.float.specs.Patterns.{aside}
use Rattle.float.specs.Rounding.{plus, over}
use Rattle.float.proofs.Itself.{minus_zero_plus}
use Rattle.float.specs.Running.{Running, none, more, finite_mean, finish}
use Rattle.agreement.specs.Floats.{left_of, sum_from, finite_value, float_mean}

-- ---- those that are left

pub left_none : left_of [] ≡ []
unfolding left_of
left_none = refl

module _ (v : ℤ) (l : List ℤ) where
  pub left_out : aside (pattern_of 32 v) ≡ true → left_of (v ∷ l) ≡ left_of l
  unfolding left_of
  left_out e = rw e refl

  pub left_in : aside (pattern_of 32 v) ≡ false → left_of (v ∷ l) ≡ v ∷ left_of l
  unfolding left_of
  left_in e = rw e refl

pub left_few : (l : List ℤ) → length (left_of l) ≤ length l
unfolding left_of
left_few [] = omega arith
left_few (v ∷ l) = go (aside (pattern_of 32 v)) (left_few l)
  where
    go : (b : Bool) → length (left_of l) ≤ length l → length (cond b (left_of l) (v ∷ left_of l)) ≤ suc (length l)
    go true h = omega arith
    go false h = omega arith

-- ---- the sum over a list

-- a value's pattern has 32 bits
pattern_small : (v : ℤ) → pattern_of 32 v < 2 ^ 32
unfolding pattern_of
pattern_small (pos n) = omega arith
pattern_small (negsuc n) = omega arith

unfoldable pub running_from : Running → List ℤ → Running
running_from r [] = r
running_from r (v ∷ l) = running_from (more r (pattern_of 32 v)) l

pub turn : (r : Running) (l : List ℤ) (j : ℕ) → j < length l
    → running_from r (drop j l) ≡ running_from (more r (pattern_of 32 (get_or l j (pos 0)))) (drop (j + 1) l)
unfolding running_from
turn r l j h = ap (running_from r) (next l j (pos 0) h)

pub end : (r : Running) (l : List ℤ) (j : ℕ) → length l ≤ j → running_from r (drop j l) ≡ r
unfolding running_from
end r l j h = ap (running_from r) (none_left l j h)

-- one pattern more
abbrev at : ℕ → ℕ → Running
at s c = record { sum = s; count = c }

more_aside : (r : Running) (x : ℕ) → aside x ≡ true → more r x ≡ r
unfolding more
more_aside r x e = rw e refl

more_next : (s c x : ℕ) → aside x ≡ false → c < 8 → more (at s c) x ≡ at (plus s x) (c + 1)
unfolding more
more_next s c x e h = rw (e, lt-leb 8 c h) refl

-- the first one starts the sum
more_first : (v : ℤ) → aside (pattern_of 32 v) ≡ false → more none (pattern_of 32 v) ≡ at (pattern_of 32 v) 1
unfolding none
more_first v e = more_next (2 ^ 31) 0 (pattern_of 32 v) e (omega arith) ∙ ap (λ s. at s 1) (minus_zero_plus (pattern_of 32 v) (pattern_small v) e)

-- a sum that has begun takes all those that are left
started : (s c : ℕ) (l : List ℤ) → c + length (left_of l) ≤ 8 → running_from (at s c) l ≡ at (sum_from s (left_of l)) (c + length (left_of l))
unfolding running_from sum_from left_of
started s c [] h = ap (at s) (sym (add-zero c))
started s c (v ∷ l) h = go (aside (pattern_of 32 v)) refl h (started s c l) (started (plus s (pattern_of 32 v)) (c + 1) l)
  where
    x : ℕ
    x = pattern_of 32 v

    go : (b : Bool) → aside x ≡ b → let all = cond b (left_of l) (v ∷ left_of l) in c + length all ≤ 8
        → (c + length (left_of l) ≤ 8 → running_from (at s c) l ≡ at (sum_from s (left_of l)) (c + length (left_of l)))
        → (c + 1 + length (left_of l) ≤ 8 → running_from (at (plus s x) (c + 1)) l ≡ at (sum_from (plus s x) (left_of l)) (c + 1 + length (left_of l)))
        → running_from (more (at s c) x) l ≡ at (sum_from s all) (c + length all)
    go true e k same more_of = ap (λ r. running_from r l) (more_aside (at s c) x e) ∙ same k
    go false e k same more_of =
        ap (λ r. running_from r l) (more_next s c x e (omega arith)) ∙ more_of (omega arith) ∙ ap (at (sum_from (plus s x) (left_of l))) (omega arith)

-- ---- its mean

-- what a float's mean is as an agreement
abbrev pub agreed_mean : Option ℕ → Option ℤ
agreed_mean (Some x) = Some (pos x)
agreed_mean None = None

finite_mean_lem : (x : ℕ) → agreed_mean (finite_mean x) ≡ finite_value x
unfolding finite_mean finite_value
finite_mean_lem x = go (aside x)
  where
    go : (b : Bool) → agreed_mean (cond b None (Some x)) ≡ cond b None (Some (pos x))
    go true = refl
    go false = refl

finished : (s n : ℕ) → agreed_mean (finish (at s (1 + n))) ≡ finite_value (over s (1 + n))
unfolding finish
finished s n = rw (ne_eqb (1 + n) 0 (λ z. omega arith)) (finite_mean_lem (over s (1 + n)))

no_mean : agreed_mean (finish none) ≡ None
unfolding finish none
no_mean = refl

mean_left : (l : List ℤ) → length (left_of l) ≤ 8 → agreed_mean (finish (running_from none l)) ≡ float_mean (left_of l)
unfolding running_from float_mean left_of
mean_left [] h = no_mean
mean_left (v ∷ l) h = go (aside (pattern_of 32 v)) refl h (mean_left l)
  where
    x : ℕ
    x = pattern_of 32 v

    go : (b : Bool) → aside x ≡ b → length (cond b (left_of l) (v ∷ left_of l)) ≤ 8
        → (length (left_of l) ≤ 8 → agreed_mean (finish (running_from none l)) ≡ float_mean (left_of l))
        → agreed_mean (finish (running_from (more none x) l)) ≡ float_mean (cond b (left_of l) (v ∷ left_of l))
    go true e k rest = ap (λ r. agreed_mean (finish (running_from r l))) (more_aside none x e) ∙ rest k
    go false e k rest =
        ap (λ r. agreed_mean (finish r)) (ap (λ r. running_from r l) (more_first v e) ∙ started x 1 l (omega arith))
        ∙ finished (sum_from x (left_of l)) (length (left_of l))
        ∙ ap (λ n. finite_value (over (sum_from x (left_of l)) n)) (omega arith)

pub running_mean : (l : List ℤ) → length l ≤ 8 → agreed_mean (finish (running_from none l)) ≡ float_mean (left_of l)
running_mean l h = mean_left l (omega (arith, left_few l))
