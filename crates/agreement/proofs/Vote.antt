-- The vote's two faces: the computation gives v exactly if v is carried by more instances than every other value, and gives nothing exactly if
-- no value is. An instance that passes the computed test is ahead of each other value: of one that is an instance by the test, and of one that
-- is none since that is carried by no instance. At most one value is ahead, so that any two outcomes of one vote are the same.
-- Assumes nothing.
use mathlib.Core.Path.{◌≡◌, refl, ap, sym, subst, ◌∙◌}
use mathlib.Core.Bool.{Bool, true, false, cond, ◌||◌, true≢false, or-true, and-eq-true_iff}
use mathlib.Core.List.{List, [], ◌∷◌}
use mathlib.Core.Logic.{◌↔◌, ◌⊎◌, inl, inr, ⊎_elim}
use Prim.Native.Nat.{◌+◌, ◌<◌}
use native.Mathlib.Omega.{arith}
use native.Mathlib.Decide.{dec_lt}
use lib.Dec.{ltb}
use lib.IntN.{ℤ, pos, negsuc, pos-ne-negsuc, ℤ_discrete}
use borrow.Author.Tests.{ltb-true, lt-ltb}
use Rattle.std.specs.Prelude.{Option, Some, None}
use Rattle.whole.specs.Whole.{eq_z, all_of}
use Rattle.whole.proofs.Integers.{eq_z_true, eq_z_same, eq_z_other}
use Rattle.agreement.specs.Agreement.{count_of, Ahead, ahead, one_that, vote}

-- ---- tests over the instances, which are the values that are carried at least once

carried : (u x : ℤ) (l : List ℤ) → 0 < count_of u (x ∷ l) → (x ≡ u) ⊎ (0 < count_of u l)
unfolding count_of
carried u x l h = go (eq_z x u) refl h
  where
    go : (t : Bool) → eq_z x u ≡ t → 0 < cond t 1 0 + count_of u l → (x ≡ u) ⊎ (0 < count_of u l)
    go true e k = inl (eq_z_true x u e)
    go false e k = inr (omega arith)

all_carried : (p : ℤ → Bool) (l : List ℤ) (u : ℤ) → all_of p l ≡ true → 0 < count_of u l → p u ≡ true
unfolding all_of count_of
all_carried p [] u t h = absurd (omega arith)
all_carried p (x ∷ l) u t h =
    let parts = (and-eq-true_iff (p x) (all_of p l)).0 t in
    ⊎_elim (λ e. rw e at parts.0) (λ k. all_carried p l u parts.1 k) (carried u x l h)

all_pass : (p : ℤ → Bool) (l : List ℤ) → ((u : ℤ) → p u ≡ true) → all_of p l ≡ true
unfolding all_of
all_pass p [] h = refl
all_pass p (x ∷ l) h = rw (h x) (all_pass p l h)

-- what a search comes to: an instance that passes, or that none does
abbrev Finding : (ℤ → Bool) → List ℤ → Option ℤ → Type 0
Finding p l (Some v) = (0 < count_of v l) × (p v ≡ true)
Finding p l None = (v : ℤ) → 0 < count_of v l → p v ≡ true → ⊥

finding : (p : ℤ → Bool) (l : List ℤ) → Finding p l (one_that p l)
unfolding one_that count_of
finding p [] = λ v h t. omega arith
finding p (x ∷ l) = go (p x) refl (one_that p l) (finding p l)
  where
    go : (t : Bool) → p x ≡ t → (r : Option ℤ) → Finding p l r → Finding p (x ∷ l) (cond t (Some x) r)
    go true e r f = (rw (eq_z_same x x refl) (omega arith), e)
    go false e (Some v) f = (omega arith, f.1)
    go false e None f = λ v h t. ⊎_elim (λ q. true≢false (sym t ∙ ap p (sym q) ∙ e)) (λ k. f v k t) (carried v x l h)

-- ---- who is ahead

pub ahead_carried : (l : List ℤ) (v : ℤ) → Ahead l v → 0 < count_of v l
ahead_carried l (pos n) h = omega (arith, h (negsuc 0) (λ e. pos-ne-negsuc n 0 (sym e)))
ahead_carried l (negsuc n) h = omega (arith, h (pos 0) (pos-ne-negsuc 0 n))

-- the test of u against v: u is v itself or is carried by fewer instances
abbrev behind : List ℤ → ℤ → ℤ → Bool
behind l v u = eq_z u v || ltb (count_of u l) (count_of v l)

-- an instance that passes the test is ahead
test_ahead : (l : List ℤ) (v : ℤ) → 0 < count_of v l → ahead l v ≡ true → Ahead l v
unfolding ahead
test_ahead l v h t u n = go (dec_lt 0 (count_of u l))
  where
    go : Dec (0 < count_of u l) → count_of u l < count_of v l
    go (yes k) = ltb-true (count_of u l) (count_of v l) (rw (eq_z_other u v n) at (all_carried (behind l v) l u t k))
    go (no k) = omega arith

-- who is ahead passes the test
ahead_test : (l : List ℤ) (v : ℤ) → Ahead l v → ahead l v ≡ true
unfolding ahead
ahead_test l v h = all_pass (behind l v) l (λ u. go u (ℤ_discrete u v))
  where
    go : (u : ℤ) → Dec (u ≡ v) → behind l v u ≡ true
    go u (yes e) = rw (eq_z_same u v e) refl
    go u (no n) = rw (lt-ltb (count_of u l) (count_of v l) (h u n)) (or-true (eq_z u v))

-- at most one value is ahead
pub one_ahead : (l : List ℤ) (v w : ℤ) → Ahead l v → Ahead l w → v ≡ w
one_ahead l v w h k = go (ℤ_discrete v w)
  where
    go : Dec (v ≡ w) → v ≡ w
    go (yes e) = e
    go (no n) = absurd (omega (arith, h w (λ e. n (sym e)), k v n))

-- ---- the vote

-- what the paper's rule says of an outcome
abbrev pub Outcome : List ℤ → Option ℤ → Type 0
Outcome l (Some v) = Ahead l v
Outcome l None = (v : ℤ) → Ahead l v → ⊥

pub outcome : (l : List ℤ) → Outcome l (vote l)
unfolding vote
outcome l = go (one_that (ahead l) l) (finding (ahead l) l)
  where
    go : (r : Option ℤ) → Finding (ahead l) l r → Outcome l r
    go (Some v) f = test_ahead l v f.0 f.1
    go None f = λ v h. f v (ahead_carried l v h) (ahead_test l v h)

pub one_outcome : (l : List ℤ) (r s : Option ℤ) → Outcome l r → Outcome l s → r ≡ s
one_outcome l (Some v) (Some w) h k = ap Some (one_ahead l v w h k)
one_outcome l (Some v) None h k = absurd (k v h)
one_outcome l None (Some w) h k = absurd (h w k)
one_outcome l None None h k = refl

pub vote_value : (l : List ℤ) (v : ℤ) → (vote l ≡ Some v) ↔ Ahead l v
vote_value l v = (λ e. subst (Outcome l) e (outcome l), λ h. one_outcome l (vote l) (Some v) (outcome l) h)

pub vote_none : (l : List ℤ) → (vote l ≡ None) ↔ ((v : ℤ) → Ahead l v → ⊥)
vote_none l = (λ e. subst (Outcome l) e (outcome l), λ h. one_outcome l (vote l) None (outcome l) h)
