-- The order of the kinds. In a file of frames, then messages, then fields, a record's position says its kind and how many of each kind stand before
-- it; and records whose kinds never fall stand in this order: the kinds are cut where they reach 2 and where they reach 3.
-- Assumes nothing.
use mathlib.Core.Path.{◌≡◌, refl, sym, ap, ◌∙◌}
use mathlib.Core.Bool.{cond}
use mathlib.Core.List.{List}
use mathlib.Core.Logic.{◌↔◌}
use Prim.Native.Nat.{ℕ, zero, suc, ◌+◌, ◌-◌, ◌*◌, ◌<◌, ◌≤◌}
use native.Mathlib.Nat.{zero-add}
use native.Mathlib.Omega.{arith}
use native.Mathlib.Decide.{dec_lt}
use lib.Dec.{eqb}
use Rattle.record.specs.Numbers.{tally}
use Rattle.record.specs.Records.{byte_at, is_frame, is_message, is_field}
use Rattle.record.proofs.Tests.{to_last}
use Rattle.layout.specs.Counts.{counts, counts_before}
use Rattle.layout.specs.declared.Counts.{Counts}
use Rattle.layout.proofs.Tallies.{tally_run, sums}

-- F frames, then M messages, then D fields
pub record Kinds (s : List ℕ) (F M D : ℕ) : Type 0 where
  pub frames : (f : ℕ) → f < F → byte_at s f 0 ≡ 1
  pub messages : (m : ℕ) → m < M → byte_at s (F + m) 0 ≡ 2
  pub fields : (d : ℕ) → d < D → byte_at s (F + M + d) 0 ≡ 3

-- record i is of a kind, and of none below that of the record before it
pub record Rises (s : List ℕ) (i : ℕ) : Type 0 where
  pub from : 1 ≤ byte_at s i 0
  pub to : byte_at s i 0 ≤ 3
  pub above : 1 ≤ i → byte_at s (i - 1) 0 ≤ byte_at s i 0

-- ---- from the order to each record

-- what holds of each frame, each message and each field holds of each record
pub everywhere :
    (F M D : ℕ) (P : ℕ → Type 0) → ((f : ℕ) → f < F → P f) → ((m : ℕ) → m < M → P (F + m)) → ((d : ℕ) → d < D → P (F + M + d))
    → (i : ℕ) → i < F + M + D → P i
everywhere F M D P frame message field i l = go (dec_lt i F) (dec_lt i (F + M))
  where
    go : Dec (i < F) → Dec (i < F + M) → P i
    go (yes a) b = frame i a
    go (no a) (yes b) = let e : i ≡ F + (i - F) = omega arith in rw e (message (i - F) (omega arith))
    go (no a) (no b) = let e : i ≡ F + M + (i - (F + M)) = omega arith in rw e (field (i - (F + M)) (omega arith))

module _ (s : List ℕ) (F M D : ℕ) (w : Kinds s F M D) where
  -- the kinds of the frames, the messages and the first d fields
  kinds_to : (x d : ℕ) → d ≤ D → 2 ≤ x → (1 ≤ d → 3 ≤ x) → (i : ℕ) → i < F + M + d → byte_at s i 0 ≤ x
  kinds_to x d few two three =
      everywhere F M d (λ k. byte_at s k 0 ≤ x) (λ f l. omega (arith, w.frames f l)) (λ m l. omega (arith, w.messages m l))
      (λ e l. omega (arith, w.fields e (omega arith), three (omega arith)))

  pub no_field_lem : (i : ℕ) → i < F + M → byte_at s i 0 ≤ 2
  no_field_lem i l = kinds_to 2 0 (omega arith) (omega arith) (omega arith) i (omega arith)

  pub rises : (i : ℕ) → i < F + M + D → Rises s i
  rises =
      everywhere F M D (Rises s) (λ f l. omega (arith, w.frames f l, w.frames (f - 1) (omega arith)))
      (λ m l. omega (arith, w.messages m l, no_field_lem (F + m - 1) (omega arith)))
      (λ d l. omega (arith, w.fields d l, kinds_to 3 D (omega arith) (omega arith) (omega arith) (F + M + d - 1) (omega arith)))

  -- what holds of each record of kind 3 before field d holds of each field before it
  pub fields_before :
      (P : ℕ → Type 0) (d : ℕ) → d ≤ D → ((k : ℕ) → k < F + M + d → byte_at s k 0 ≡ 3 → P k) ↔ ((e : ℕ) → e < d → P (F + M + e))
  fields_before P d few = (
    λ h e l. h (F + M + e) (omega arith) (w.fields e (omega arith)),
    λ h.
        everywhere F M d (λ k. byte_at s k 0 ≡ 3 → P k) (λ f l kind. absurd (omega (arith, w.frames f l)))
        (λ m l kind. absurd (omega (arith, w.messages m l)))
        (λ e l kind. h e l),
  )

-- ---- from the order to the counts

-- the counts with d records more, all of kind x
abbrev more : ℕ → ℕ → Counts → Counts
more x d c =
    counts (c.frames + d * cond (eqb x 1) 1 0) (c.messages + d * cond (eqb x 2) 1 0) (c.fields + d * cond (eqb x 3) 1 0)

counts_run : (s : List ℕ) (x a d : ℕ) → ((k : ℕ) → k < d → byte_at s (a + k) 0 ≡ x) → counts_before s (a + d) ≡ more x d (counts_before s a)
unfolding counts_before is_frame is_message is_field
counts_run s x a d h =
    rw (
      tally_run (is_frame s) (eqb x 1) a d (λ k l. rw (h k l)),
      tally_run (is_message s) (eqb x 2) a d (λ k l. rw (h k l)),
      tally_run (is_field s) (eqb x 3) a d (λ k l. rw (h k l)),
    )

counts_none : (s : List ℕ) → counts_before s 0 ≡ counts 0 0 0
unfolding counts_before tally
counts_none s = refl

module _ (s : List ℕ) (F M D : ℕ) (w : Kinds s F M D) where
  pub before_frame : (f : ℕ) → f ≤ F → counts_before s f ≡ counts f 0 0
  before_frame f h = simp (sums, counts_none) at (counts_run s 1 0 f (λ k l. rw zero-add (w.frames k (omega arith))))

  pub before_message : (m : ℕ) → m ≤ M → counts_before s (F + m) ≡ counts F m 0
  before_message m h = simp (sums, before_frame F (omega arith)) at (counts_run s 2 F m (λ k l. w.messages k (omega arith)))

  pub before_field : (d : ℕ) → d ≤ D → counts_before s (F + M + d) ≡ counts F M d
  before_field d h = simp (sums, before_message M (omega arith)) at (counts_run s 3 (F + M) d (λ k l. w.fields k (omega arith)))

-- ---- from kinds that never fall to the order

-- up to one of n records the kinds are below x, and from it on they are not
record Cut (s : List ℕ) (x n : ℕ) : Type 0 where
  pub at : ℕ
  pub at_most_lem : at ≤ n
  pub below : (i : ℕ) → i < at → byte_at s i 0 < x
  pub above : (i : ℕ) → i < n → at ≤ i → x ≤ byte_at s i 0

cut : (s : List ℕ) (x n : ℕ) → ((i : ℕ) → i < n → Rises s i) → Cut s x n
cut s x zero h = record { at = 0; at_most_lem = omega arith; below = omega arith; above = omega arith }
cut s x (suc n) h = go (cut s x n (λ i l. h i (omega arith))) (dec_lt (byte_at s n 0) x)
  where
    -- where the last kind is below x, so are all
    all_below : (c : Cut s x n) → byte_at s n 0 < x → Dec (c.at < n) → n ≤ c.at
    all_below c low (yes l) = omega (arith, c.above (n - 1) (omega arith) (omega arith), (h n (omega arith)).above (omega arith))
    all_below c low (no l) = omega arith

    go : Cut s x n → Dec (byte_at s n 0 < x) → Cut s x (suc n)
    go c (yes low) =
        record {
          at = suc n;
          at_most_lem = omega arith;
          below = to_last (λ i. byte_at s i 0 < x) n (λ i l. c.below i (omega (arith, all_below c low (dec_lt c.at n)))) low;
          above = omega arith;
        }
    go c (no high) =
        record {
          at = c.at;
          at_most_lem = omega arith;
          below = c.below;
          above = to_last (λ i. c.at ≤ i → x ≤ byte_at s i 0) n c.above (λ a. omega arith);
        }

-- n records are frames, then messages, then fields
pub record Parted (s : List ℕ) (n F M D : ℕ) : Type 0 where
  pub total : F + M + D ≡ n
  pub kinds : Kinds s F M D

-- as many of each as two cuts say
parted_by : (s : List ℕ) (n : ℕ) → ((i : ℕ) → i < n → Rises s i) → (f : Cut s 2 n) (g : Cut s 3 n) → Parted s n f.at (g.at - f.at) (n - g.at)
parted_by s n h f g =
    let o = in_order (dec_lt g.at f.at) in
    record {
      total = omega arith;
      kinds =
          record {
            frames = λ i l. omega (arith, f.below i l, h i (omega arith));
            messages = λ i l. omega (arith, f.above (f.at + i) (omega arith) (omega arith), g.below (f.at + i) (omega arith));
            fields = λ i l.
                let a = f.at + (g.at - f.at) + i in
                omega (arith, g.above a (omega arith) (omega arith), (h a (omega arith)).to);
          };
    }
  where
    in_order : Dec (g.at < f.at) → f.at ≤ g.at
    in_order (yes l) = omega (arith, f.below g.at l, g.above g.at (omega arith) (omega arith))
    in_order (no l) = omega arith

-- and so as many of each as are counted
pub parted : (s : List ℕ) (n F M D : ℕ) → ((i : ℕ) → i < n → Rises s i) → counts_before s n ≡ counts F M D → Parted s n F M D
parted s n F M D h counted =
    let f = cut s 2 n h in
    let g = cut s 3 n h in
    same f.at (g.at - f.at) (n - g.at) (parted_by s n h f g)
  where
    same : (A B C : ℕ) → Parted s n A B C → Parted s n F M D
    same A B C p =
        let e : counts A B C ≡ counts F M D = sym (rw p.total at (before_field s A B C p.kinds C (omega arith))) ∙ counted in
        rw (← ap (λ (c : Counts). c.frames) e, ← ap (λ (c : Counts). c.messages) e, ← ap (λ (c : Counts). c.fields) e) p
