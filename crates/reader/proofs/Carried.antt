-- What the reader carries is what the records before say. Where each of them passes its tests, kinds and pairs rise: so a field before record i makes
-- the last record a field, of no lower message; the fields of a message come together, those of the message at hand last of all; and a message
-- that is passed over never gets one.
-- Assumes nothing.
use mathlib.Core.Path.{◌≡◌, refl, sym, ◌∙◌, subst}
use mathlib.Core.Bool.{Bool, true, false, not, cond, ◌&&◌}
use mathlib.Core.List.{List}
use mathlib.Core.Logic.{inl, inr}
use Prim.Native.Nat.{ℕ, zero, suc, ◌+◌, ◌-◌, ◌<◌, ◌≤◌}
use native.Mathlib.Nat.{not-suc-le-zero}
use native.Mathlib.Numerals.{add-one}
use native.Mathlib.Omega.{arith}
use native.Mathlib.Decide.{ℕ_discrete}
use lib.Dec.{eqb, ltb}
use borrow.Author.Tests.{ltb-true, ltb-false, lt-ltb, eqb-true, eqb-false, eq-eqb, ne_eqb}
use Rattle.std.specs.Prelude.{Ok, Err}
use Rattle.record.specs.Numbers.{tally, any_below}
use Rattle.record.specs.Records.{byte_at, is_field, field_at}
use Rattle.record.specs.declared.Field.{Field}
use Rattle.record.proofs.Tests.{to_last, any_clear, meanings}
use Rattle.record.proofs.Searches.{any_holds, found}
use Rattle.layout.specs.Counts.{counts_before}
use Rattle.layout.specs.Verdict.{is_field_of, fields_among, unlike, no_field, complete, refused_at, fails_at}
use Rattle.layout.specs.WellLaid.{Below}
use Rattle.reader.specs.Carried.{at_hand, is_at_hand, earlier_by, Earlier, fields_after, Lacks, lacking_after}
use Rattle.layout.specs.declared.Counts.{Counts}
use Rattle.layout.specs.declared.Refusal.{Refusal}
use Rattle.layout.proofs.Tallies.{tally_none, tally_rises, tally_within}
use Rattle.layout.proofs.Faults.{Ordered, order_clear, Alike, group_clear}
use Rattle.layout.proofs.Demands.{passes}

-- ---- the last record

no_lower : (p r : Field) → Below p r → p.message ≤ r.message
no_lower p r (inl h) = omega arith
no_lower p r (inr h) = omega arith

module _ (s : List ℕ) where
  -- each of the first i records passes its tests
  abbrev pub AllPassed : ℕ → Type 0
  AllPassed i = (k : ℕ) → k < i → fails_at s k ≡ false

  pub ordered : (k : ℕ) → fails_at s k ≡ false → Ordered s k (counts_before s k)
  ordered k e = (order_clear s k (counts_before s k)).0 ((passes s k).0 e).order

  pub back : (i : ℕ) → suc i - 1 ≡ i
  back i = omega arith

  -- field k comes before record i
  pub record Last (i k : ℕ) : Type 0 where
    pub field : byte_at s (i - 1) 0 ≡ 3
    pub message : (field_at s k).message ≤ (field_at s (i - 1)).message

  next_last :
      (i : ℕ) {c : Counts} → Ordered s i c → ((k : ℕ) → k < i → byte_at s k 0 ≡ 3 → Last i k)
      → (k : ℕ) → k < suc i → byte_at s k 0 ≡ 3 → Last (suc i) k
  next_last i o earlier =
      to_last (λ k. byte_at s k 0 ≡ 3 → Last (suc i) k) i (λ k l field. next k l (earlier k l field))
      (λ field. record { field = rw (back i) field; message = rw (back i) (omega arith) })
    where
      next : (k : ℕ) → k < i → Last i k → Last (suc i) k
      next k l w =
          let kind : byte_at s i 0 ≡ 3 = omega (arith, w.field, o.rises.above (omega arith), o.rises.to) in
          let above : (field_at s k).message ≤ (field_at s i).message = omega (arith, w.message, no_lower (field_at s (i - 1)) (field_at s i) (o.field (omega arith) w.field kind)) in
          record { field = rw (back i) kind; message = rw (back i) above }

  pub last : (i : ℕ) → AllPassed i → (k : ℕ) → k < i → byte_at s k 0 ≡ 3 → Last i k
  last zero pass = λ k l. absurd (not-suc-le-zero l)
  last (suc i) pass = next_last i (ordered i (pass i (omega arith))) (last i (λ k l. pass k (omega arith)))

  -- and is like the last one, if of its message
  alike :
      (i : ℕ) → AllPassed i → 1 ≤ i → byte_at s (i - 1) 0 ≡ 3
      → (k : ℕ) → k < i → byte_at s k 0 ≡ 3 → Alike (field_at s k) (field_at s (i - 1))
  alike zero pass some field = absurd (not-suc-le-zero some)
  alike (suc i) pass some field =
      let kind : byte_at s i 0 ≡ 3 = rw (back i) at field in
      rw (back i)
      (to_last (λ k. byte_at s k 0 ≡ 3 → Alike (field_at s k) (field_at s i)) i
      ((group_clear s i (counts_before s i) kind).0 ((passes s i).0 (pass i (omega arith))).group).2
      (λ field same. refl))

  -- ---- the fields of record i's message, where it is a field

  -- the last record is one of the message at hand
  some_at_hand : (i : ℕ) → 1 ≤ i → byte_at s (i - 1) 0 ≡ 3 → 1 ≤ at_hand s i
  unfolding at_hand tally is_field_of is_field
  some_at_hand zero some field = some
  some_at_hand (suc i) some field = rw (back i, rw (back i) at field, eq-eqb (field_at s i).message (field_at s i).message refl) (omega arith)

  at_hand_lem :
      (i : ℕ) → is_at_hand s i ≡ true → (1 ≤ i) × ((byte_at s (i - 1) 0 ≡ 3) × ((field_at s (i - 1)).message ≡ (field_at s i).message))
  unfolding is_at_hand is_field
  at_hand_lem i e = simp meanings at e

  module _ (i : ℕ) {c : Counts} (pass : AllPassed i) (o : Ordered s i c) (kind : byte_at s i 0 ≡ 3) where
    -- where it is not at hand no record before is a field of it
    none_before : is_at_hand s i ≡ false → (k : ℕ) → k < i → is_field_of s (field_at s i).message k ≡ false
    unfolding is_at_hand is_field is_field_of
    none_before other k l =
        simp meanings
        (λ field same.
        let w = last i pass k l field in
        (simp meanings at other) (omega arith) w.field
        (omega (arith, w.message, same, no_lower (field_at s (i - 1)) (field_at s i) (o.field (omega arith) w.field kind))))

    number_right : (b : Bool) → is_at_hand s i ≡ b → fields_among s (field_at s i).message i ≡ cond b (at_hand s i) 0
    unfolding at_hand
    number_right true e = rw (at_hand_lem i e).1.1 refl
    number_right false e = tally_none (is_field_of s (field_at s i).message) i (none_before e)

    status_right :
        (b : Bool) → is_at_hand s i ≡ b
        → any_below (unlike s (field_at s i)) i ≡ (ltb 0 (cond b (at_hand s i) 0) && not (eqb (field_at s (i - 1)).status (field_at s i).status))
    unfolding unlike is_field_of is_field
    status_right false e = (any_clear (unlike s (field_at s i)) i).1 (λ k l. rw (none_before e k l) refl)
    status_right true e = go (ℕ_discrete (field_at s (i - 1)).status (field_at s i).status)
      where
        hand : (1 ≤ i) × ((byte_at s (i - 1) 0 ≡ 3) × ((field_at s (i - 1)).message ≡ (field_at s i).message))
        hand = at_hand_lem i e

        some : ltb 0 (at_hand s i) ≡ true
        some = lt-ltb 0 (at_hand s i) (some_at_hand i hand.0 hand.1.0)

        unlike_clear : (k : ℕ) → (byte_at s k 0 ≡ 3 → Alike (field_at s k) (field_at s i)) → unlike s (field_at s i) k ≡ false
        unlike_clear k h = simp meanings (λ q. h q.0 q.1)

        unlike_holds : ((field_at s (i - 1)).status ≡ (field_at s i).status → ⊥) → unlike s (field_at s i) (i - 1) ≡ true
        unlike_holds other = simp meanings (hand.1, other)

        go :
            Dec ((field_at s (i - 1)).status ≡ (field_at s i).status)
            → any_below (unlike s (field_at s i)) i ≡ (ltb 0 (at_hand s i) && not (eqb (field_at s (i - 1)).status (field_at s i).status))
        go (yes q) =
            rw (some, eq-eqb _ _ q)
            ((any_clear (unlike s (field_at s i)) i).1
            (λ k l. unlike_clear k (λ field same. alike i pass hand.0 hand.1.0 k l field (same ∙ sym hand.1.1) ∙ q)))
        go (no n) = rw (some, ne_eqb _ _ n) ((any_holds (unlike s (field_at s i)) i).1 (i - 1, omega (arith, hand.0), unlike_holds n))

  pub earlier : (i : ℕ) {c : Counts} {number : ℕ} → AllPassed i → Ordered s i c → number ≡ at_hand s i → Earlier s i (earlier_by s i number)
  unfolding earlier_by
  earlier i pass o e =
      record { number = λ kind. rw e (number_right i pass o kind _ refl); status = λ kind. rw e (status_right i pass o kind _ refl) }

  pub at_hand_few : (i : ℕ) → at_hand s i ≤ i
  unfolding at_hand
  at_hand_few i = tally_within (is_field_of s (field_at s (i - 1)).message) i

  -- ---- with record i, which passes too

  module _ (i : ℕ) (pass : AllPassed (suc i)) where
    before : AllPassed i
    before k l = pass k (omega arith)

    -- a field up to record i is of no message above it, and record i is one
    none_above : (m : ℕ) → (byte_at s i 0 ≡ 3 → (field_at s i).message < m) → fields_among s m (suc i) ≡ 0
    unfolding is_field_of is_field
    none_above m above =
        tally_none (is_field_of s m) (suc i)
        (λ k l.
        simp meanings
        (λ field same. let w = last (suc i) pass k l field in omega (arith, rw (back i) at w.message, above (rw (back i) at w.field))))

    pub number_next : {number : ℕ} → number ≡ at_hand s i → fields_after s i number ≡ at_hand s (suc i)
    unfolding fields_after at_hand tally is_field_of is_field
    number_next {number} e =
        subst (λ (k : ℕ). fields_after s i number ≡ fields_among s (field_at s k).message (suc i)) (sym (back i)) (go (ℕ_discrete (byte_at s i 0) 3))
      where
        go : Dec (byte_at s i 0 ≡ 3) → cond (eqb (byte_at s i 0) 3) (earlier_by s i number + 1) 0 ≡ fields_among s (field_at s i).message (suc i)
        go (yes kind) =
            rw (kind, eq-eqb (field_at s i).message (field_at s i).message refl, (earlier i before (ordered i (pass i (omega arith))) e).number kind) refl
        go (no other) =
            let none : cond (eqb (byte_at s i 0) 3) (earlier_by s i number + 1) 0 ≡ 0 = rw (ne_eqb (byte_at s i 0) 3 other) refl in
            none ∙ sym (none_above (field_at s i).message (λ kind. absurd (other kind)))

    -- what has a field keeps it
    kept : (k : ℕ) → no_field s i k ≡ false → no_field s (suc i) k ≡ false
    unfolding no_field
    kept k some =
        ne_eqb (fields_among s k (suc i)) 0
        (λ none. eqb-false (fields_among s k i) 0 some (omega (arith, tally_rises (is_field_of s k) i (suc i) (omega arith))))

    some_here : (m : ℕ) → is_field_of s m i ≡ true → no_field s (suc i) m ≡ false
    unfolding no_field tally
    some_here m e = ne_eqb (fields_among s m (suc i)) 0 (rw e (λ none. omega arith))

    none_higher : (m : ℕ) → is_field_of s m i ≡ true → no_field s (suc i) (m + 1) ≡ true
    unfolding no_field is_field_of is_field
    none_higher m e = eq-eqb (fields_among s (m + 1) (suc i)) 0 (none_above (m + 1) (λ kind. omega (arith, (simp meanings at e).1)))

    none_here : (m : ℕ) → no_field s i m ≡ true → is_field_of s m i ≡ false → no_field s (suc i) m ≡ true
    unfolding no_field tally
    none_here m none e = eq-eqb (fields_among s m (suc i)) 0 (rw e (omega (arith, eqb-true (fields_among s m i) 0 none)))

    pub lacking_next : {m : ℕ} → Lacks s i m → Lacks s (suc i) (lacking_after s i m)
    unfolding lacking_after is_field_of
    lacking_next {m} w = go (is_field_of s m i) refl
      where
        go : (b : Bool) → is_field_of s m i ≡ b → Lacks s (suc i) (cond b (m + 1) m)
        go true e =
            record {
              some_field = rw add-one (to_last (λ k. no_field s (suc i) k ≡ false) m (λ k l. kept k (w.some_field k l)) (some_here m e));
              no_field_lem = none_higher m e;
            }
        go false e = record { some_field = λ k l. kept k (w.some_field k l); no_field_lem = none_here m w.no_field_lem e }

  -- ---- NOFIELD

  pub lacks_none : Lacks s 0 0
  unfolding no_field tally
  lacks_none = record { some_field = λ k l. absurd (not-suc-le-zero l); no_field_lem = refl }

  pub completed :
      (n : ℕ) (c : Counts) {m : ℕ} → Lacks s n m
      → cond (ltb m c.messages) (Err (refused_at Refusal.NoField (c.frames + m))) (Ok c) ≡ complete s n c
  unfolding complete
  completed n c {m} w = go (ltb m c.messages) refl
    where
      none_yet : any_below (no_field s n) m ≡ false
      none_yet = (any_clear (no_field s n) m).1 w.some_field

      go :
          (b : Bool) → ltb m c.messages ≡ b
          → cond b (Err (refused_at Refusal.NoField (c.frames + m))) (Ok c) ≡ complete s n c
      go true e = let lowest = found (no_field s n) m c.messages none_yet w.no_field_lem (ltb-true m c.messages e) in rw (lowest.some, lowest.least) refl
      go false e =
          let none = (any_clear (no_field s n) c.messages).1 (λ k l. w.some_field k (omega (arith, ltb-false m c.messages e))) in
          rw none refl
