-- The lowest wrong byte of a record: what a turn of the search through its bytes adds, and what the answer says, both ways. A byte that is right is
-- read off the list of what is found at the record's bytes.
-- Assumes nothing.
use mathlib.Core.Path.{◌≡◌, refl, sym, ap, ◌∙◌}
use mathlib.Core.Bool.{Bool, true, false, cond, true≢false, false≢true}
use mathlib.Core.List.{List, [], ◌∷◌}
use mathlib.Core.Logic.Iff
use mathlib.Core.Logic.{◌↔◌}
use Prim.Native.Nat.{ℕ, zero, suc, ◌+◌, ◌<◌, ◌≤◌}
use native.Mathlib.Nat.{add-zero}
use native.Mathlib.Omega.{arith}
use lib.Dec.{eqb}
use lib.ListN.{length, get_or, get_or-eq_default}
use Rattle.record.specs.Numbers.{any_below, least_below}
use Rattle.record.specs.Records.{byte_at}
use Rattle.ranges.specs.Ranges.{
  Finding,
  RecordFinding,
  wrong_byte,
  wrong_if,
  frame_finding,
  message_finding,
  field_finding,
  finding_of,
  finding_at,
  is_wrong,
  wrong_at,
  fault_at,
  lowest_fault,
  range_fault,
  is_fault,
  LowestWrong,
  AllRight,
}
use Rattle.ranges.specs.declared.Fault.{Fault}
use Rattle.ranges.specs.declared.RangeFault.{RangeFault}
use Rattle.std.specs.Prelude.{Ok, Err}
use Rattle.record.proofs.Searches.{Least, least_below_lem, none_more, found}
use Rattle.record.proofs.Tests.{any_clear}

-- ---- one byte

pub wrong_if_right : (wrong : Bool) (fault : Fault) → (wrong_if wrong fault ≡ Ok tt) ↔ (wrong ≡ false)
unfolding wrong_if
wrong_if_right true fault = (λ e. absurd (true≢false (ap is_wrong e)), λ e. absurd (true≢false e))
wrong_if_right false fault = (λ e. refl, λ e. refl)

-- what a test that is clear finds, and one that holds
pub if_clear : (wrong : Bool) (fault : Fault) → wrong ≡ false → wrong_if wrong fault ≡ Ok tt
if_clear wrong fault = (wrong_if_right wrong fault).1

pub if_holds : (wrong : Bool) (fault : Fault) → wrong ≡ true → wrong_if wrong fault ≡ Err fault
unfolding wrong_if
if_holds wrong fault e = rw e refl

-- and no fault at a byte says that it is right
pub no_fault_right : (k : ℕ) (f : Finding) → fault_at k f ≡ Ok tt → f ≡ Ok tt
no_fault_right k (Ok u) e = refl
no_fault_right k (Err fault) e = absurd (true≢false (ap is_fault e))

wrong_clear : (f : Finding) → (is_wrong f ≡ false) ↔ (f ≡ Ok tt)
wrong_clear (Ok u) = (λ e. refl, λ e. refl)
wrong_clear (Err fault) = (λ e. absurd (true≢false e), λ e. absurd (true≢false (ap is_wrong e)))

-- ---- a list of what is found at the first bytes, and what is found at each byte past its end

-- each byte from a on that the list holds
abbrev pub Listed : (ℕ → Finding → Type 0) → ℕ → List Finding → Type 0
Listed P a [] = Unit {0}
Listed P a (f ∷ l) = P a f × Listed P (suc a) l

listed_from :
    (P : ℕ → Finding → Type 0) (a : ℕ) (l : List Finding) → Listed P a l → (k : ℕ) (d : Finding) → (length l ≤ k → P (a + k) d) → P (a + k) (get_or l k d)
listed_from P a [] all k d past = past (omega arith)
listed_from P a (f ∷ l) all zero d past = rw add-zero all.0
listed_from P a (f ∷ l) all (suc k) d past =
    let e : a + suc k ≡ suc a + k = omega arith in
    rw e (listed_from P (suc a) l all.1 k d (λ b. rw (← e) (past (omega arith))))

pub listed : (P : ℕ → Finding → Type 0) (l : List Finding) → Listed P 0 l → (k : ℕ) (d : Finding) → (length l ≤ k → P k d) → P k (get_or l k d)
listed P l all k d past =
    let e : 0 + k ≡ k = omega arith in
    rw e at (listed_from P 0 l all k d (λ b. rw e (past b)))

-- each is right
abbrev pub Right : ℕ → List Finding → Type 0
Right a l = Listed (λ k f. f ≡ Ok tt) a l

all_right : (a : ℕ) (l : List Finding) (other : ℕ → Finding) → ((k : ℕ) → k < length l → get_or l k (other k) ≡ Ok tt) → Right a l
all_right a [] other h = tt
all_right a (f ∷ l) other h = (h 0 (omega arith), all_right (suc a) l (λ k. other (suc k)) (λ k b. h (suc k) (omega arith)))

pub list_right :
    (l : List Finding) (other : ℕ → Finding) (n : ℕ) → length l ≤ n
    → ((k : ℕ) → k < n → get_or l k (other k) ≡ Ok tt) ↔ (Right 0 l × ((k : ℕ) → length l ≤ k → k < n → other k ≡ Ok tt))
list_right l other n few = (
  λ h. (all_right 0 l other (λ k b. h k (omega arith)), λ k past b. rw (get_or-eq_default l (other k)) at (h k b)),
  λ h k b. listed (λ k f. f ≡ Ok tt) l h.0 k (other k) (λ past. h.1 k past b),
)

-- ---- the search, where p says what is found at each byte

module _ (p : ℕ → Finding) where
  -- no byte below k is wrong
  abbrev NoneBelow : ℕ → Type 0
  NoneBelow k = any_below (wrong_at p) k ≡ false

  pub right_more : (k : ℕ) → NoneBelow k → p k ≡ Ok tt → NoneBelow (k + 1)
  unfolding wrong_at
  right_more k before here = none_more (wrong_at p) k before (rw here refl)

  pub wrong_lowest : (k : ℕ) {fault : Fault} {b : ℕ} → NoneBelow k → p k ≡ Err fault → k < 24 → b ≡ k → Err (wrong_byte fault b) ≡ lowest_fault p
  unfolding wrong_at lowest_fault
  wrong_lowest k before here l same =
      let first = found (wrong_at p) k 24 before (rw here refl) l in
      rw (first.some, first.least, here, same) refl

  -- the same, where the byte is told by the fault at it
  pub fault_lowest : (k : ℕ) {e : RangeFault} → NoneBelow k → fault_at k (p k) ≡ Err e → k < 24 → Err e ≡ lowest_fault p
  unfolding wrong_at lowest_fault
  fault_lowest k before here l =
      let first = found (wrong_at p) k 24 before (at_fault (p k) here) l in
      rw (first.some, first.least) (sym here)
    where
      at_fault : (f : Finding) {e : RangeFault} → fault_at k f ≡ Err e → is_wrong f ≡ true
      at_fault (Ok u) e = absurd (false≢true (ap is_fault e))
      at_fault (Err fault) e = refl

  pub none_wrong : NoneBelow 24 → Ok tt ≡ lowest_fault p
  unfolding lowest_fault
  none_wrong none = rw none refl

  -- ---- the answer

  pub none_below : (n : ℕ) → (NoneBelow n) ↔ ((k : ℕ) → k < n → p k ≡ Ok tt)
  unfolding wrong_at
  none_below n = (
    λ none k l. (wrong_clear (p k)).0 ((any_clear (wrong_at p) n).0 none k l),
    λ right. (any_clear (wrong_at p) n).1 (λ k l. (wrong_clear (p k)).1 (right k l)),
  )

  -- no byte is wrong, or one is the lowest
  data Answer : Type 0 where
    none : AllRight p → lowest_fault p ≡ Ok tt → Answer
    some : (fault : Fault) (k : ℕ) → LowestWrong p fault k → lowest_fault p ≡ Err (wrong_byte fault k) → Answer

  answer : Answer
  unfolding wrong_at
  answer = go (any_below (wrong_at p) 24) refl
    where
      at : (k : ℕ) → Least (wrong_at p) 24 k → (f : Finding) → p k ≡ f → is_wrong f ≡ true → Answer
      at k w (Ok u) e wrong = absurd (false≢true wrong)
      at k w (Err fault) e wrong =
          let before = (any_clear (wrong_at p) k).1 w.none_before in
          let lowest : LowestWrong p fault k = record { byte = w.below; wrong = e; lowest = (none_below k).0 before } in
          Answer.some fault k lowest (sym (wrong_lowest k before e w.below refl))

      go : (b : Bool) → any_below (wrong_at p) 24 ≡ b → Answer
      go true any = let w = least_below_lem (wrong_at p) 24 any in at (least_below (wrong_at p) 24) w _ refl w.holds
      go false clear = Answer.none ((none_below 24).0 clear) (sym (none_wrong clear))

  lowest_none : (lowest_fault p ≡ Ok tt) ↔ AllRight p
  lowest_none = (right answer, λ all. sym (none_wrong ((none_below 24).1 all)))
    where
      right : Answer → lowest_fault p ≡ Ok tt → AllRight p
      right (Answer.none all e) clear = all
      right (Answer.some fault k w e) clear = absurd (true≢false (sym (ap is_fault e) ∙ ap is_fault clear))

  pub lowest_at : (fault : Fault) (k : ℕ) → (lowest_fault p ≡ Err (wrong_byte fault k)) ↔ LowestWrong p fault k
  lowest_at fault k = (lowest answer, λ w. sym (wrong_lowest k ((none_below k).1 w.lowest) w.wrong w.byte refl))
    where
      lowest : Answer → lowest_fault p ≡ Err (wrong_byte fault k) → LowestWrong p fault k
      lowest (Answer.none all e) at = absurd (let z : ◌≡◌ {A = ℕ} 0 1 = cc in omega arith)
      lowest (Answer.some other j w e) at =
          let same : wrong_byte other j ≡ wrong_byte fault k = cc in
          rw (ap (λ (b : RangeFault). b.fault) same, ap (λ (b : RangeFault). b.byte) same) at w

fault_clear : (f : RecordFinding) → (is_fault f ≡ false) ↔ (f ≡ Ok tt)
fault_clear (Ok u) = (λ e. refl, λ e. refl)
fault_clear (Err found) = (λ e. absurd (true≢false e), λ e. absurd (true≢false (ap is_fault e)))

-- ---- a record

module _ (s : List ℕ) (i : ℕ) where
  -- what the answer says, as a test and as a value
  pub range_none : (range_fault s i ≡ Ok tt) ↔ AllRight (finding_at s i)
  unfolding range_fault
  range_none = lowest_none (finding_at s i)

  pub range_right : (is_fault (range_fault s i) ≡ false) ↔ AllRight (finding_at s i)
  range_right = Iff.trans (fault_clear (range_fault s i)) range_none

  pub range_lowest : (fault : Fault) (k : ℕ) → (range_fault s i ≡ Err (wrong_byte fault k)) ↔ LowestWrong (finding_at s i) fault k
  unfolding range_fault
  range_lowest = lowest_at (finding_at s i)

  -- nothing is said of byte 0, the kind
  kind_right : finding_at s i 0 ≡ Ok tt
  unfolding finding_at finding_of frame_finding message_finding field_finding
  kind_right = go (eqb (byte_at s i 0) 1) (eqb (byte_at s i 0) 2)
    where
      go : {f : Finding} (a b : Bool) → cond a f (cond b f f) ≡ f
      go true b = refl
      go false true = refl
      go false false = refl

  pub after_kind : (fault : Fault) (k : ℕ) → LowestWrong (finding_at s i) fault k → 1 ≤ k
  after_kind fault zero w = absurd (true≢false (ap is_wrong (sym w.wrong ∙ kind_right)))
  after_kind fault (suc k) w = omega arith
