-- The walk through what is found at a record's bytes, in their order: a byte that is right is passed, and the first that is wrong ends it. Walked so,
-- the list of what is found at the bytes that are named, and then the bytes that are not, give the lowest wrong byte of the record.
-- Assumes nothing.
use mathlib.Core.Path.{◌≡◌, refl, sym, ap, fun_ext, ◌∙◌}
use mathlib.Core.Bool.{Bool, false}
use mathlib.Core.List.{List, [], ◌∷◌}
use Prim.Native.Nat.{ℕ, suc, ◌+◌, ◌-◌, ◌<◌, ◌≤◌}
use native.Mathlib.Nat.{add-zero, zero-add}
use native.Mathlib.Decide.{ℕ_discrete, dec_lt}
use native.Mathlib.Omega.{arith}
use lib.ListN.{length, get_or}
use lib.Seq.{get_or-set_other}
use borrow.Author.Tests.{le-leb, lt-leb, ne_eqb}
use Rattle.record.specs.Records.{byte_at, frame_at, message_at, field_at}
use Rattle.ranges.specs.Ranges.{
  Finding,
  wrong_if,
  frame_findings,
  message_findings,
  field_findings,
  frame_finding,
  message_finding,
  field_finding,
  finding_of,
  nonzero_at,
  finding_at,
  reserved_from,
  or_else,
  first_wrong,
  lowest_fault,
  range_fault,
}
use Rattle.record.specs.declared.Message.{Message}
use Rattle.ranges.specs.declared.Fault.{Fault}
use Rattle.std.specs.Prelude.{Ok, Err}
use Rattle.record.proofs.Tests.{to_last}
use Rattle.ranges.proofs.Lowest.{if_clear, lowest_at}

-- ---- a list of what is found

-- of the bytes that are not named, byte 7 alone stands in the list of what is found in a message
pub byte_seven :
    (g : Message) (other : ℕ → Bool) (k : ℕ)
    → get_or (message_findings g (other k)) k (wrong_if (other k) Fault.Reserved) ≡ get_or (message_findings g (other 7)) k (wrong_if (other k) Fault.Reserved)
byte_seven g other k = go (ℕ_discrete k 7)
  where
    go :
        Dec (k ≡ 7)
        → get_or (message_findings g (other k)) k (wrong_if (other k) Fault.Reserved)
        ≡ get_or (message_findings g (other 7)) k (wrong_if (other k) Fault.Reserved)
    go (yes e) = rw e (ap (λ j. wrong_if (other j) Fault.Reserved) e)
    go (no n) =
        get_or-set_other (message_findings g (other 7)) 7 k (wrong_if (other k) Fault.Reserved) (wrong_if (other k) Fault.Reserved) n

-- ---- record i

module _ (s : List ℕ) (i : ℕ) where
  abbrev reserved : ℕ → Finding
  reserved k = wrong_if (nonzero_at s i k) Fault.Reserved

  pub before_right : (a k : ℕ) → k < a → reserved_from s i a k ≡ Ok tt
  unfolding reserved_from
  before_right a k l = rw (lt-leb a k l) (if_clear false Fault.Reserved refl)

  pub from_on : (a k : ℕ) → a ≤ k → reserved_from s i a k ≡ reserved k
  unfolding reserved_from
  from_on a k l = rw (le-leb a k l) refl

  -- where p finds nothing before byte a, then what l says, and after its end the bytes that are not named
  walked :
      (p : ℕ → Finding) (a : ℕ) (l : List Finding) → ((k : ℕ) → k < a → p k ≡ Ok tt)
      → ((k : ℕ) → p (a + k) ≡ get_or l k (reserved (a + k))) → a + length l ≤ 24
      → or_else (first_wrong a l) (lowest_fault (reserved_from s i (a + length l))) ≡ lowest_fault p
  unfolding first_wrong
  walked p a [] before there few = ap lowest_fault (fun_ext (λ k. same k (dec_lt k a)))
    where
      same : (k : ℕ) → Dec (k < a) → reserved_from s i (a + 0) k ≡ p k
      same k (yes l) = before_right (a + 0) k (omega arith) ∙ sym (before k l)
      same k (no n) =
          let e : a + (k - a) ≡ k = omega arith in
          from_on (a + 0) k (omega arith) ∙ sym (rw e at (there (k - a)))
  walked p a (Ok u ∷ l) before there few =
      let next : (k : ℕ) → a + suc k ≡ suc a + k = λ k. omega arith in
      rw (next (length l))
      (walked p (suc a) l (to_last (λ k. p k ≡ Ok tt) a before (rw add-zero at (there 0))) (λ k. rw (next k) at (there (suc k))) (omega arith))
  walked p a (Err fault ∷ l) before there few =
      sym ((lowest_at p fault a).1 (record { byte = omega arith; wrong = rw add-zero at (there 0); lowest = before }))

  -- the record, where l lists what is found at the bytes that are named
  record_walked :
      (l : List Finding) → length l ≤ 24 → ((k : ℕ) → finding_at s i k ≡ get_or l k (reserved k))
      → or_else (first_wrong 0 l) (lowest_fault (reserved_from s i (length l))) ≡ range_fault s i
  unfolding range_fault
  record_walked l few there =
      rw (← zero-add (length l))
      (walked (finding_at s i) 0 l (λ k b. absurd (omega arith)) (λ k. rw zero-add (there k)) (omega arith))

  pub frame_walked : byte_at s i 0 ≡ 1 → or_else (first_wrong 0 (frame_findings (frame_at s i))) (lowest_fault (reserved_from s i 6)) ≡ range_fault s i
  unfolding finding_at finding_of frame_finding
  frame_walked kind = record_walked (frame_findings (frame_at s i)) (omega arith) (λ k. rw kind refl)

  pub message_walked :
      byte_at s i 0 ≡ 2
      → or_else (first_wrong 0 (message_findings (message_at s i) (nonzero_at s i 7))) (lowest_fault (reserved_from s i 20)) ≡ range_fault s i
  unfolding finding_at finding_of message_finding
  message_walked kind =
      record_walked (message_findings (message_at s i) (nonzero_at s i 7)) (omega arith) (λ k. rw kind (byte_seven (message_at s i) (nonzero_at s i) k))

  pub field_walked :
      (byte_at s i 0 ≡ 1 → ⊥) → (byte_at s i 0 ≡ 2 → ⊥)
      → or_else (first_wrong 0 (field_findings (field_at s i))) (lowest_fault (reserved_from s i 6)) ≡ range_fault s i
  unfolding finding_at finding_of field_finding
  field_walked no_frame_lem no_message_lem =
      record_walked (field_findings (field_at s i)) (omega arith) (λ k. rw (ne_eqb _ 1 no_frame_lem, ne_eqb _ 2 no_message_lem) refl)
