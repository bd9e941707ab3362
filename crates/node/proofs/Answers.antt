-- What answer 0 tells: the tests come one after the other, each with an answer of its own, so that answer 0 says that each was passed.
-- Assumes nothing.
use mathlib.Core.Path.{◌≡◌, refl, ap, sym, ◌∙◌}
use mathlib.Core.Bool.{Bool, true, false, not, cond, not-not}
use Prim.Native.Nat.{ℕ, suc, ◌<◌, min}
use native.Mathlib.Omega.{arith}
use lib.Dec.{ltb, eqb}
use lib.IntN.{ℤ}
use borrow.Author.Tests.{ltb-true, eqb-true, not-false}
use Rattle.std.specs.declared.result.Result.{Result}
use Rattle.std.specs.Prelude.{Ok, Err, IsErrAnd}
use Rattle.store.specs.declared.Frame.{Frame}
use Rattle.store.specs.declared.Message.{Message}
use Rattle.store.specs.Node.{Layout, Node, frame_count, message_count, is_sent, has_status_bit, is_sent_frame, frame_at, message_at}
use Rattle.message.specs.Messages.{can_hold}
use Rattle.node.specs.declared.CallRefusal.{CallRefusal}
use Rattle.node.specs.declared.Way.{Way}
use Rattle.node.specs.Answers.{number_of, answer_of, goes, message_of, frame_of}
use Rattle.node.specs.Calls.{send_answer, invalidate_answer, assemble_answer, flag_answer, deliver_answer}

-- one test, and the tests after it
passed : (t : Bool) (k r : ℕ) → cond t (suc k) r ≡ 0 → (t ≡ false) × (r ≡ 0)
passed true k r e = absurd (omega arith)
passed false k r e = (refl, e)

-- the first: the message or frame is one of the layout
known : (i number k r : ℕ) → cond (not (ltb i (min number 32))) (suc k) r ≡ 0 → (i < min number 32) × (r ≡ 0)
known i number k r e =
    let first = passed (not (ltb i (min number 32))) k r e in
    (ltb-true i (min number 32) (not-false _ first.0), first.1)

module _ (l : Layout) where
  pub send_tests : (m : ℕ) (v : ℤ) → send_answer l m v ≡ 0
      → (m < l.message_number) × (can_hold (message_at l m) v ≡ true)
  unfolding send_answer
  send_tests m v e =
      let number = known m l.message_number _ _ e in
      let access = passed (not (is_sent (message_at l m))) _ _ number.1 in
      let value = passed (not (can_hold (message_at l m) v)) _ _ access.1 in
      (omega arith, not-false _ value.0)

  pub send_access : (m : ℕ) (v : ℤ) → send_answer l m v ≡ 0 → is_sent (message_at l m) ≡ true
  unfolding send_answer
  send_access m v e = not-false _ (passed (not (is_sent (message_at l m))) _ _ (known m l.message_number _ _ e).1).0

  pub invalidate_tests : (m : ℕ) → invalidate_answer l m ≡ 0 → m < l.message_number
  unfolding invalidate_answer
  invalidate_tests m e = omega (arith, known m l.message_number _ _ e)

  pub invalidate_access : (m : ℕ) → invalidate_answer l m ≡ 0 → is_sent (message_at l m) ≡ true
  unfolding invalidate_answer
  invalidate_access m e = not-false _ (passed (not (is_sent (message_at l m))) _ _ (known m l.message_number _ _ e).1).0

  pub invalidate_status : (m : ℕ) → invalidate_answer l m ≡ 0 → has_status_bit (message_at l m) ≡ true
  unfolding invalidate_answer
  invalidate_status m e =
      let access = passed (not (is_sent (message_at l m))) _ _ (known m l.message_number _ _ e).1 in
      not-false _ (passed (not (has_status_bit (message_at l m))) _ _ access.1).0

  pub deliver_tests : (f size : ℕ) → deliver_answer l f size ≡ 0 → (f < frame_count l) × (size ≡ (frame_at l f).length)
  unfolding deliver_answer
  deliver_tests f size e =
      let number = known f l.frame_number _ _ e in
      let access = passed (is_sent_frame (frame_at l f)) _ _ number.1 in
      let value = passed (not (eqb size (frame_at l f).length)) _ _ access.1 in
      (number.0, eqb-true size (frame_at l f).length (not-false _ value.0))

  pub deliver_access : (f size : ℕ) → deliver_answer l f size ≡ 0 → is_sent_frame (frame_at l f) ≡ false
  unfolding deliver_answer
  deliver_access f size e = (passed (is_sent_frame (frame_at l f)) _ _ (known f l.frame_number _ _ e).1).0

module _ (n : Node) where
  pub assemble_tests : (f size : ℕ) → assemble_answer n f size ≡ 0 → size ≡ (frame_at n.layout f).length
  unfolding assemble_answer
  assemble_tests f size e =
      let number = known f n.layout.frame_number _ _ e in
      let access = passed (not (is_sent_frame (frame_at n.layout f))) _ _ number.1 in
      let value = passed (not (eqb size (frame_at n.layout f).length)) _ _ access.1 in
      eqb-true size (frame_at n.layout f).length (not-false _ value.0)

-- ---- what the first two tests tell: of a refusal the number, whatever comes after them, and of a message or frame that it is one of the layout and goes that way

-- a refusal has a number
pub some_number : (refused : CallRefusal) → number_of refused ≡ 0 → ⊥
some_number CallRefusal.Id e = absurd (omega arith)
some_number CallRefusal.Access e = absurd (omega arith)
some_number CallRefusal.Value e = absurd (omega arith)
some_number CallRefusal.NoFunc e = absurd (omega arith)
some_number CallRefusal.Suppressed e = absurd (omega arith)

module _ {A : Type 0} where
  two_refuse : (s t : Bool) (x : A) {refused : CallRefusal} → cond s (Err CallRefusal.Id) (cond t (Err CallRefusal.Access) (Ok x)) ≡ Err refused → (k : ℕ)
      → cond s 16 (cond t 17 k) ≡ number_of refused
  two_refuse true t x e k = ap answer_of e
  two_refuse false true x e k = ap answer_of e
  two_refuse false false x e k = cc

  two_pass : (s t : Bool) (x : A) {y : A} → cond s (Err CallRefusal.Id) (cond t (Err CallRefusal.Access) (Ok x)) ≡ Ok y → (s ≡ false) × (t ≡ false) × (y ≡ x)
  two_pass true t x e = cc
  two_pass false true x e = cc
  two_pass false false x e = (refl, refl, cc)

-- `?` hands a refusal on as it is
pub handed_on : {A : Type 0} (r : Result A CallRefusal) (refused : CallRefusal) → IsErrAnd r (λ e. e ≡ refused) → answer_of r ≡ number_of refused
handed_on (Ok x) refused h = absurd h
handed_on (Err e) refused h = ap number_of h

module _ (l : Layout) (i : ℕ) (way : Way) where
  pub message_refused : {r : Result (ℕ × Message) CallRefusal} {refused : CallRefusal} → r ≡ message_of l i way → r ≡ Err refused → (k : ℕ)
      → cond (not (ltb i (message_count l))) 16 (cond (not (goes way (is_sent (message_at l i)))) 17 k) ≡ number_of refused
  message_refused told e = two_refuse _ _ _ (sym told ∙ e)

  pub message_passed : {r : Result (ℕ × Message) CallRefusal} {y : ℕ × Message} → r ≡ message_of l i way → r ≡ Ok y
      → (i < 32) × (not (ltb i (message_count l)) ≡ false) × (not (goes way (is_sent (message_at l i))) ≡ false) × (y.0 ≡ i) × (y.1 ≡ message_at l i)
  message_passed told e =
      let (known, way', is) = two_pass _ _ _ (sym told ∙ e) in
      (omega (arith, ltb-true i (message_count l) (not-false _ known)), known, way', ap (λ y. y.0) is, ap (λ y. y.1) is)

  pub frame_refused : {r : Result (ℕ × Frame) CallRefusal} {refused : CallRefusal} → r ≡ frame_of l i way → r ≡ Err refused → (k : ℕ)
      → cond (not (ltb i (frame_count l))) 16 (cond (not (goes way (is_sent_frame (frame_at l i)))) 17 k) ≡ number_of refused
  frame_refused told e = two_refuse _ _ _ (sym told ∙ e)

  pub frame_passed : {r : Result (ℕ × Frame) CallRefusal} {y : ℕ × Frame} → r ≡ frame_of l i way → r ≡ Ok y
      → (i < 32) × (not (ltb i (frame_count l)) ≡ false) × (not (goes way (is_sent_frame (frame_at l i))) ≡ false) × (y.0 ≡ i) × (y.1 ≡ frame_at l i)
  frame_passed told e =
      let (known, way', is) = two_pass _ _ _ (sym told ∙ e) in
      (omega (arith, ltb-true i (frame_count l) (not-false _ known)), known, way', ap (λ y. y.0) is, ap (λ y. y.1) is)

-- what comes in is not sent
module _ (l : Layout) (i : ℕ) {refused : CallRefusal} (k : ℕ) where
  pub received_message_refused : {r : Result (ℕ × Message) CallRefusal} → r ≡ message_of l i Way.Received → r ≡ Err refused
      → cond (not (ltb i (message_count l))) 16 (cond (is_sent (message_at l i)) 17 k) ≡ number_of refused
  received_message_refused told e = let h = message_refused l i Way.Received told e k in rw not-not at h

  pub received_frame_refused : {r : Result (ℕ × Frame) CallRefusal} → r ≡ frame_of l i Way.Received → r ≡ Err refused
      → cond (not (ltb i (frame_count l))) 16 (cond (is_sent_frame (frame_at l i)) 17 k) ≡ number_of refused
  received_frame_refused told e = let h = frame_refused l i Way.Received told e k in rw not-not at h

-- of the flag: what is no sent message of the layout answers 16
pub not_sent : (l : Layout) (m : ℕ) {r : Result (ℕ × Message) CallRefusal} {refused : CallRefusal} → r ≡ message_of l m Way.Sent → r ≡ Err refused
    → flag_answer l m ≡ 16
unfolding flag_answer
not_sent l m {r} {refused} told e = go (ltb m (message_count l)) (is_sent (message_at l m)) (sym told ∙ e)
  where
    go : (s t : Bool)
        → cond {A = Result (ℕ × Message) CallRefusal} (not s) (Err CallRefusal.Id) (cond (not t) (Err CallRefusal.Access) (Ok (m, message_at l m))) ≡ Err refused
        → ◌≡◌ {A = ℕ} (cond (not s) 16 (cond (not t) 16 0)) 16
    go false t n = refl
    go true false n = refl
    go true true n = cc
