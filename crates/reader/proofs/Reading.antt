-- A turn of the loop over the records. Record i passes its tests, and with it the counts are those before record i + 1; or it is refused, and
-- the file with it. A record that passes ORDER is of kind 1, 2 or 3, so exactly one of the counts rises.
-- Assumes nothing.
use mathlib.Core.Path.{◌≡◌, refl, sym, ◌∙◌}
use mathlib.Core.Bool.{Bool, true, false, cond}
use mathlib.Core.List.{List}
use mathlib.Core.Logic.{◌⊎◌, inl, inr}
use Prim.Native.Nat.{ℕ, ◌+◌, ◌<◌, ◌≤◌}
use native.Mathlib.Nat.{add-zero, eq-or-lt_of_le}
use native.Mathlib.Numerals.{add-one}
use native.Mathlib.Omega.{arith}
use lib.Dec.{leb}
use borrow.Author.Tests.{leb-true, eqb-true, eqb-false}
use Rattle.std.specs.Prelude.{Result, Ok, Err}
use Rattle.record.specs.Numbers.{within, tally, any_below}
use Rattle.record.specs.Records.{byte_at, is_frame, is_message, is_field, record_at}
use Rattle.record.specs.declared.Record.{Record}
use Rattle.record.proofs.Searches.{Found, found}
use Rattle.record.proofs.Tests.{and_holds}
use Rattle.layout.specs.Counts.{counts_before, counted_by}
use Rattle.layout.specs.Verdict.{order_fault, fails, read_at, refused_at, fails_at, refusal_at, judged}
use Rattle.layout.specs.declared.Counts.{Counts}
use Rattle.layout.specs.declared.Refusal.{Refusal}
use Rattle.layout.proofs.Tallies.{tally_within}

-- ---- what a reading says of the tests

record_passes : (b : Bool) (n : Refusal) (q r : Record) → cond b (Err n) (Ok q) ≡ Ok r → b ≡ false
record_passes true n q r e = cc
record_passes false n q r e = refl

refused_fails : (b : Bool) (n m : Refusal) (q : Record) → cond b (Err n) (Ok q) ≡ Err m → (b ≡ true) × (n ≡ m)
refused_fails true n m q e = (refl, cc)
refused_fails false n m q e = (cc, cc)

-- ---- the code's test of the kind

module _ (s : List ℕ) (i : ℕ) {b : Bool} (told : b ≡ is_field s i) where
  pub kind_three : b ≡ true → byte_at s i 0 ≡ 3
  unfolding is_field
  kind_three e = eqb-true (byte_at s i 0) 3 (sym told ∙ e)

  pub kind_other : b ≡ false → byte_at s i 0 ≡ 3 → ⊥
  unfolding is_field
  kind_other e = eqb-false (byte_at s i 0) 3 (sym told ∙ e)

-- ---- the three kinds

three_kinds : (k : ℕ) → within 1 3 k ≡ true → (k ≡ 1) ⊎ ((k ≡ 2) ⊎ (k ≡ 3))
three_kinds k e = first (eq-or-lt_of_le (leb-true 1 k both.0))
  where
    both : (leb 1 k ≡ true) × (leb k 3 ≡ true)
    both = (and_holds (leb 1 k) (leb k 3)).0 e

    second : (2 ≡ k) ⊎ (2 < k) → (k ≡ 2) ⊎ (k ≡ 3)
    second (inl two) = inl (sym two)
    second (inr more) = inr (omega (arith, leb-true k 3 both.1))

    first : (1 ≡ k) ⊎ (1 < k) → (k ≡ 1) ⊎ ((k ≡ 2) ⊎ (k ≡ 3))
    first (inl one) = inl (sym one)
    first (inr more) = inr (second (eq-or-lt_of_le more))

module _ (s : List ℕ) where
  -- ---- the counts

  pub counts_none : {c : Counts} → (c.frames ≡ 0) × ((c.messages ≡ 0) × (c.fields ≡ 0)) → c ≡ counts_before s 0
  unfolding counts_before tally
  counts_none {c} none =
      let each : record { frames = c.frames; messages = c.messages; fields = c.fields } ≡ counts_before s 0 = rw (none.0, none.1.0, none.1.1) refl in
      each

  pub record Few (i : ℕ) (c : Counts) : Type 0 where
    pub frames : c.frames ≤ i
    pub messages : c.messages ≤ i
    pub fields : c.fields ≤ i

  pub counts_few : (i : ℕ) {c : Counts} → c ≡ counts_before s i → Few i c
  unfolding counts_before
  counts_few i e = rw e (record { frames = tally_within _ i; messages = tally_within _ i; fields = tally_within _ i })

  module _ (i : ℕ) where
    counts_more :
        (byte_at s i 0 ≡ 1) ⊎ ((byte_at s i 0 ≡ 2) ⊎ (byte_at s i 0 ≡ 3))
        → counted_by (counts_before s i) (Ok (record_at s i)) ≡ counts_before s (i + 1)
    unfolding counts_before tally record_at is_frame is_message is_field
    counts_more (inl kind) = rw (add-one, kind) (simp add-zero)
    counts_more (inr (inl kind)) = rw (add-one, kind) (simp add-zero)
    counts_more (inr (inr kind)) = rw (add-one, kind) (simp add-zero)

    -- ORDER tests the kind
    kind_tested : (b : Bool) → within 1 3 (byte_at s i 0) ≡ b → fails_at s i ≡ false → b ≡ true
    unfolding fails_at fails order_fault
    kind_tested true e passes = refl
    kind_tested false e passes = sym (rw e at passes)

    -- ---- a turn

    pub record Passed (d : Counts) : Type 0 where
      pub passes : fails_at s i ≡ false
      pub counts : d ≡ counts_before s (i + 1)

    module _ {c : Counts} {x : Result Record Refusal} (before : c ≡ counts_before s i) (read : x ≡ read_at s i c) where
      pub passed : {r : Record} {d : Counts} → x ≡ Ok r → d ≡ counted_by c x → Passed d
      unfolding read_at fails_at
      passed {r} e counted =
          let passes : fails_at s i ≡ false = rw (← before) (record_passes (fails s i c) _ (record_at s i) r (sym read ∙ e)) in
          let kind = three_kinds (byte_at s i 0) (kind_tested _ refl passes) in
          record { passes = passes; counts = rw (counted, read, before, passes) (counts_more kind) }

      pub refused : {m : Refusal} (n : ℕ) → x ≡ Err m → any_below (fails_at s) i ≡ false → i < n → Err (refused_at m i) ≡ judged s n
      unfolding read_at fails_at refusal_at judged
      refused {m} n e none l =
          let failing = refused_fails (fails s i c) _ m (record_at s i) (sym read ∙ e) in
          let first : Found (fails_at s) i n = found (fails_at s) i n none (rw (← before) failing.0) l in
          rw (first.some, first.least, ← failing.1, before) refl
