-- The vote counts the instances' values in turn, each from where it stands. Where a value stands first, that is all of it; where it stands again,
-- fewer of it are left than `most`, the greatest number so far, and change nothing. A value that was not met is carried by no more instances than
-- are left, so that the count may end once they are fewer than `most`.
-- Assumes nothing.
use mathlib.Core.Path.{◌≡◌, refl, sym, ◌∙◌}
use mathlib.Core.Bool.{Bool, true, false, cond}
use mathlib.Core.List.{List, [], ◌∷◌}
use mathlib.Core.Logic.{◌⊎◌, inl, inr, ⊎_elim}
use Prim.Native.Nat.{ℕ, zero, suc, ◌+◌, ◌-◌, ◌<◌, ◌≤◌}
use native.Mathlib.Omega.{arith}
use native.Mathlib.Decide.{dec_lt}
use lib.IntN.{ℤ, pos, ℤ_discrete}
use lib.ListN.{length, drop, get_or, length-drop}
use Rattle.std.specs.Prelude.{Option, Some, None}
use Rattle.whole.specs.Whole.{eq_z}
use Rattle.whole.proofs.Integers.{eq_z_same, eq_z_other}
use Rattle.agreement.specs.Agreement.{count_of, Ahead, vote}
use Rattle.agreement.proofs.Turns.{count_turn}
use Rattle.agreement.proofs.Vote.{Outcome, outcome, one_outcome, ahead_carried}

-- ---- how many are left

count_left : (u : ℤ) (l : List ℤ) (i : ℕ) → count_of u (drop i l) ≤ count_of u l
unfolding count_of
count_left u l zero = omega arith
count_left u [] (suc i) = omega arith
count_left u (x ∷ l) (suc i) = omega (arith, count_left u l i)

count_length : (u : ℤ) (l : List ℤ) → count_of u l ≤ length l
unfolding count_of
count_length u [] = omega arith
count_length u (x ∷ l) = go (eq_z x u) (count_length u l)
  where
    go : (t : Bool) → count_of u l ≤ length l → cond t 1 0 + count_of u l ≤ suc (length l)
    go true h = omega arith
    go false h = omega arith

-- ---- the values of the first i instances

-- u is one of them: fewer of it are left than there are
abbrev Met : List ℤ → ℕ → ℤ → Type 0
Met l i u = count_of u (drop i l) < count_of u l

-- v is one of them, carried by `most`, and each other by fewer; or whoever is ahead of all is carried by more than `most`, and so is none of them
abbrev SoFar : List ℤ → ℕ → ℕ → Option ℤ → Type 0
SoFar l i most (Some v) = Met l i v × (count_of v l ≡ most) × ((u : ℤ) → Met l i u → (u ≡ v → ⊥) → count_of u l < most)
SoFar l i most None = (v : ℤ) → Ahead l v → most < count_of v l

-- none of them is carried by more than `most` instances, and r is what they come to so far
abbrev pub Counted : List ℤ → ℕ → ℕ → Option ℤ → Type 0
Counted l i most r = ((u : ℤ) → Met l i u → count_of u l ≤ most) × SoFar l i most r

pub none_counted : (l : List ℤ) → Counted l 0 0 None
none_counted l = (λ u m. omega arith, ahead_carried l)

-- where two values are carried by m instances, whoever is ahead is carried by more
two_as_many : (l : List ℤ) (a b : ℤ) (m : ℕ) → (a ≡ b → ⊥) → count_of a l ≡ m → count_of b l ≡ m → (v : ℤ) → Ahead l v → m < count_of v l
two_as_many l a b m n p q v ahead = go (ℤ_discrete a v)
  where
    go : Dec (a ≡ v) → m < count_of v l
    go (yes e) = omega (arith, ahead b (λ f. n (e ∙ sym f)))
    go (no k) = omega (arith, ahead a k)

-- ---- a turn: the value here of instance i, with so many of it left

module _ (l : List ℤ) (i most : ℕ) (r : Option ℤ) (h : i < length l) (so_far : Counted l i most r) where
  abbrev here : ℤ
  here = get_or l i (pos 0)

  abbrev left : ℕ
  left = count_of here (drop i l)

  met_here : Met l (i + 1) here
  met_here = omega (arith, rw (eq_z_same here here refl) at (count_turn l i h here), count_left here l i)

  -- what holds of this value, and of those met before, holds of those met now
  each : (P : ℤ → Type 0) → P here → ((u : ℤ) → Met l i u → P u) → (u : ℤ) → Met l (i + 1) u → P u
  each P p before u m = go (ℤ_discrete u here)
    where
      go : Dec (u ≡ here) → P u
      go (yes e) = rw e p
      go (no n) = before u (omega (arith, rw (eq_z_other here u (λ e. n (sym e))) at (count_turn l i h u)))

  -- if no fewer than `most` are left, the value was not met before, and they are all
  all_left : most ≤ left → count_of here l ≡ left
  all_left k = go (dec_lt left (count_of here l))
    where
      go : Dec (Met l i here) → count_of here l ≡ left
      go (yes m) = absurd (omega (arith, so_far.0 here m))
      go (no n) = omega (arith, count_left here l i)

  pub more : most < left → Counted l (i + 1) left (Some here)
  more k =
      let all = all_left (omega arith) in (
        each (λ u. count_of u l ≤ left) (omega arith) (λ u m. omega (arith, so_far.0 u m)),
        (met_here, all, each (λ u. (u ≡ here → ⊥) → count_of u l < left) (λ n. absurd (n refl)) (λ u m n. omega (arith, so_far.0 u m))),
      )

  tied : (s : Option ℤ) → SoFar l i most s → count_of here l ≡ most → left ≡ most → SoFar l (i + 1) most None
  tied (Some v) before all k = two_as_many l here v most (λ e. omega (arith, rw (← e) at before.0)) all before.1
  tied None before all k = before

  pub as_many : left ≡ most → Counted l (i + 1) most None
  as_many k =
      let all = all_left (omega arith) in
      (each (λ u. count_of u l ≤ most) (omega arith) so_far.0, tied r so_far.1 (omega arith) k)

  kept : (s : Option ℤ) → SoFar l i most s → left < most → SoFar l (i + 1) most s
  kept (Some v) before k = (
    omega (arith, before.0, count_turn l i h v),
    before.1,
    each (λ u. (u ≡ v → ⊥) → count_of u l < most) (go (dec_lt left (count_of here l))) before.2,
  )
    where
      go : Dec (Met l i here) → (here ≡ v → ⊥) → count_of here l < most
      go (yes m) = before.2 here m
      go (no m) = λ n. omega arith
  kept None before k = before

  pub fewer : left < most → Counted l (i + 1) most r
  fewer k = (each (λ u. count_of u l ≤ most) (go (dec_lt left (count_of here l))) so_far.0, kept r so_far.1 k)
    where
      go : Dec (Met l i here) → count_of here l ≤ most
      go (yes m) = so_far.0 here m
      go (no m) = omega arith

-- ---- the end: no instance is left, or fewer than `most`

module _ (l : List ℤ) (i most : ℕ) (few : (length l ≤ i) ⊎ (length l - i < most)) where
  not_met : (u : ℤ) → (Met l i u → ⊥) → (count_of u l ≡ 0) ⊎ (count_of u l < most)
  not_met u n =
      let all-of-them = rw length-drop at (count_length u (drop i l)) in
      ⊎_elim (λ k. inl (omega arith)) (λ k. inr (omega arith)) few

  decided : (r : Option ℤ) → Counted l i most r → Outcome l r
  decided (Some v) so_far = λ u n. go u n (dec_lt (count_of u (drop i l)) (count_of u l))
    where
      go : (u : ℤ) → (u ≡ v → ⊥) → Dec (Met l i u) → count_of u l < count_of v l
      go u n (yes m) = omega (arith, so_far.1.2 u m n)
      go u n (no m) = ⊎_elim (λ k. omega (arith, so_far.1)) (λ k. omega (arith, so_far.1)) (not_met u m)
  decided None so_far = λ v ahead. go v (so_far.1 v ahead) (dec_lt (count_of v (drop i l)) (count_of v l))
    where
      go : (v : ℤ) → most < count_of v l → Dec (Met l i v) → ⊥
      go v h (yes m) = omega (arith, so_far.0 v m)
      go v h (no m) = ⊎_elim (λ k. omega arith) (λ k. omega arith) (not_met v m)

  pub counted_vote : (r : Option ℤ) → Counted l i most r → r ≡ vote l
  counted_vote r so_far = one_outcome l r (vote l) (decided r so_far) (outcome l)
