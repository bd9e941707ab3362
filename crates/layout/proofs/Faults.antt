-- Each test of a record in the paper's words: what it says that the test is clear, in both directions. The tests are read by the rules of
-- record/proofs/Tests.antt, and the parts of what they say are put into the records of specs/WellLaid.antt by search.
-- Assumes nothing.
use mathlib.Core.Path.{◌≡◌, refl, ap}
use mathlib.Core.Bool.{Bool, true, false, cond, ◌&&◌, ◌||◌, true≢false}
use mathlib.Core.List.{List}
use mathlib.Core.Logic.Iff
use mathlib.Core.Logic.{◌↔◌, ⊎_map}
use Prim.Native.Nat.{ℕ, ◌+◌, ◌-◌, ◌*◌, ◌<◌, ◌≤◌}
use native.Mathlib.Omega.{arith}
use native.Mathlib.Decide.{ℕ_discrete}
use lib.Dec.{eqb, ltb}
use lib.ListN.{length, get_or}
use borrow.Author.Tests.{ne_eqb}
use Rattle.record.specs.Records.{byte_at, is_frame, is_message, is_field, frame_at, message_at, field_at, pair_below}
use Rattle.std.specs.Prelude.{Ok, Err}
use Rattle.ranges.specs.Ranges.{
  Finding,
  wrong_if,
  is_mask,
  is_float,
  word_fits,
  word_finding,
  frame_findings,
  message_findings,
  field_findings,
  frame_finding,
  message_finding,
  field_finding,
  finding_of,
  nonzero_at,
  finding_at,
  is_wrong,
  AllRight,
}
use Rattle.record.specs.Runs.{clash}
use Rattle.record.specs.declared.Frame.{Frame}
use Rattle.record.specs.declared.Message.{Message}
use Rattle.record.specs.declared.Field.{Field}
use Rattle.ranges.specs.declared.Fault.{Fault}
use Rattle.ranges.proofs.Lowest.{wrong_if_right, Right, list_right}
use Rattle.ranges.proofs.Walk.{byte_seven}
use Rattle.record.proofs.Tests.{or_holds, meanings}
use Rattle.layout.specs.Counts.{frame_numbered, message_numbered}
use Rattle.layout.specs.Verdict.{order_fault, ref_fault, is_field_of, fields_among, unlike, group_fault, clash_at, place_fault}
use Rattle.layout.specs.WellLaid.{ZeroFrom, FrameRecord, Word, MessageRecord, UsesForMessage, UsesForStatus, Uses, Below}
use Rattle.layout.specs.declared.Counts.{Counts}
use Rattle.layout.proofs.Runs.{inside_clear, once_clear, clash_clear}
use Rattle.layout.proofs.Sorted.{Rises}

-- ---- 2 ORDER

below_holds : (p r : Field) → (pair_below p r ≡ true) ↔ Below p r
unfolding pair_below ⊎_map
below_holds p r =
    let either = or_holds (ltb p.message r.message) (eqb p.message r.message && ltb p.frame r.frame) in (
      λ e. ⊎_map (λ a. simp meanings at a) (λ b. simp meanings at b) (either.0 e),
      λ h. either.1 (⊎_map (λ a. simp meanings a) (λ b. simp meanings b) h),
    )

-- record i, where c counts those before it
pub record Ordered (s : List ℕ) (i : ℕ) (c : Counts) : Type 0 where
  pub rises : Rises s i
  pub frame : byte_at s i 0 ≡ 1 → (frame_at s i).number ≡ c.frames
  pub message : byte_at s i 0 ≡ 2 → (message_at s i).number ≡ c.messages
  pub field : 1 ≤ i → byte_at s (i - 1) 0 ≡ 3 → byte_at s i 0 ≡ 3 → Below (field_at s (i - 1)) (field_at s i)

pub order_clear : (s : List ℕ) (i : ℕ) (c : Counts) → (order_fault s i c ≡ false) ↔ Ordered s i c
unfolding order_fault is_frame is_message is_field frame_at message_at
order_clear s i c = simp (meanings, below_holds) (λ h. search arith, λ o. search arith)

-- ---- 3 RANGE, 8 RESERVED, 9 UNUSED and 10 WIDTH

-- a byte of which nothing is said
nothing_said : (A : Type 0) → ((◌≡◌ {A = Finding} (Ok tt) (Ok tt)) × A) ↔ A
nothing_said A = (λ h. h.1, λ a. (refl, a))

-- a fault where the test holds, or what comes next
first_right :
    (wrong : Bool) (fault : Fault) (next : Finding)
    → (cond wrong (Err fault) next ≡ Ok tt) ↔ ((wrong ≡ false) × (next ≡ Ok tt))
first_right true fault next = (λ e. absurd (true≢false (ap is_wrong e)), λ h. absurd (true≢false h.0))
first_right false fault next = (λ e. (refl, e), λ h. h.1)

word_right : (g : Message) (used : Bool) (x : ℕ) → (word_finding g used x ≡ Ok tt) ↔ Word g used x
unfolding word_finding word_fits
word_right g used x = simp (first_right, wrong_if_right, meanings) (λ h. search, λ w. search)

-- what is demanded of a message's filter
record Filter (g : Message) : Type 0 where
  pub filter : g.filter ≤ 13
  pub float_filter : g.sign ≡ 2 → is_mask g.filter ≡ false

filter_right : (g : Message) → (wrong_if (ltb 13 g.filter || (is_float g && is_mask g.filter)) Fault.Range ≡ Ok tt) ↔ Filter g
filter_right g =
    simp (wrong_if_right, meanings) (
      λ h. record { filter = h.0; float_filter = λ e. simp meanings (h.1 e) },
      λ w. (w.filter, λ e. simp meanings at (w.float_filter e)),
    )

module _ (s : List ℕ) (i : ℕ) where
  -- where l lists what is found at a record's bytes
  bytes_right :
      (l : List Finding) → length l ≤ 24 → ((k : ℕ) → finding_at s i k ≡ get_or l k (wrong_if (nonzero_at s i k) Fault.Reserved))
      → AllRight (finding_at s i) ↔ (Right 0 l × ZeroFrom (length l) s i)
  bytes_right l few listed =
      simp (listed, list_right l (λ k. wrong_if (nonzero_at s i k) Fault.Reserved) 24 few, wrong_if_right, meanings) Iff.rfl

  pub frame_right : (f : ℕ) → byte_at s i 0 ≡ 1 → (((frame_at s i).number ≡ f) × AllRight (finding_at s i)) ↔ FrameRecord s i f
  unfolding finding_at finding_of frame_finding
  frame_right f kind =
      let listed = bytes_right (frame_findings (frame_at s i)) (omega arith) (λ k. rw kind refl) in
      simp (listed, nothing_said, wrong_if_right, meanings) (λ h. search arith, λ w. search arith)

  pub message_right : (m : ℕ) → byte_at s i 0 ≡ 2 → (((message_at s i).number ≡ m) × AllRight (finding_at s i)) ↔ MessageRecord s i m
  unfolding finding_at finding_of message_finding
  message_right m kind =
      let listed = bytes_right (message_findings (message_at s i) (nonzero_at s i 7)) (omega arith) (λ k. rw kind (byte_seven (message_at s i) (nonzero_at s i) k)) in
      simp (listed, nothing_said, word_right, filter_right, wrong_if_right, meanings) (λ h. search arith depth 20, λ w. search arith depth 20)

  pub field_right :
      byte_at s i 0 ≡ 3
      → AllRight (finding_at s i) ↔ (((field_at s i).status ≤ 1) × ((field_at s i).status ≡ 0 → (field_at s i).place ≡ 0) × ZeroFrom 6 s i)
  unfolding finding_at finding_of field_finding
  field_right kind =
      let listed = bytes_right (field_findings (field_at s i)) (omega arith) (λ k. rw kind refl) in
      simp (listed, nothing_said, wrong_if_right, meanings) (λ h. search arith, λ w. search arith)

-- ---- 4 REF, 5 GROUP and 6 PLACE

-- two fields of one message both have a status bit, or neither has
abbrev pub Alike : Field → Field → Type 0
Alike q r = q.message ≡ r.message → q.status ≡ r.status

-- two fields of one frame share no bit; the messages stand after F frames
abbrev pub BitsApart : List ℕ → ℕ → Field → Field → Type 0
BitsApart s F q r =
    q.frame ≡ r.frame → (b : ℕ) → Uses (message_at s (F + r.message)) r b → Uses (message_at s (F + q.message)) q b → ⊥

filter_or_status : (filter status : ℕ) → ((filter ≡ 0 → ⊥) → status ≡ 0 → ⊥) ↔ (status ≡ 0 → filter ≡ 0)
filter_or_status filter status = (λ h e. go (λ n. h n e) (ℕ_discrete filter 0), λ h n e. n (h e))
  where
    go : ((filter ≡ 0 → ⊥) → ⊥) → Dec (filter ≡ 0) → filter ≡ 0
    go h (yes e) = e
    go h (no n) = absurd (h n)

module _ (s : List ℕ) (i : ℕ) (c : Counts) where
  -- a record that is no field passes these tests
  pub no_field_clear : byte_at s i 0 ≤ 2 → (ref_fault s i c ≡ false) × (group_fault s i c ≡ false) × (place_fault s i c ≡ false)
  unfolding ref_fault group_fault place_fault is_field
  no_field_clear low = let e = ne_eqb (byte_at s i 0) 3 (omega arith) in (rw e, rw e, rw e)

  -- the field, its message and its frame
  abbrev own : Field
  own = field_at s i

  abbrev message : Message
  message = message_numbered s c own.message

  abbrev frame : Frame
  frame = frame_numbered s own.frame

  module _ (kind : byte_at s i 0 ≡ 3) where
    pub ref_clear :
        (ref_fault s i c ≡ false) ↔ ((own.message < c.messages) × (own.frame < c.frames) × (message.direction ≡ frame.direction))
    unfolding ref_fault is_field
    ref_clear = rw kind (simp meanings (λ h. search, λ h. search))

    pub group_clear :
        (group_fault s i c ≡ false)
        ↔ ((fields_among s own.message i < 8)
        × (c.fields < 128)
        × ((k : ℕ) → k < i → byte_at s k 0 ≡ 3 → Alike (field_at s k) own)
        × (message.direction ≡ 1 → own.status ≡ 0 → message.filter ≡ 0))
    unfolding group_fault is_field is_field_of unlike
    group_clear =
        rw kind
        (simp (meanings, filter_or_status) (
          λ (((eight, few), alike), heard). (eight, few, λ k l f m. alike k l (f, m), heard),
          λ (eight, few, alike, heard). (((eight, few), λ k l q. alike k l q.0 q.1), heard),
        ))

    pub place_clear :
        own.status ≤ 1 → ((k : ℕ) → k < i → byte_at s k 0 ≡ 3 → (field_at s k).status ≤ 1)
        → (place_fault s i c ≡ false)
        ↔ (((b : ℕ) → Uses message own b → b < frame.length * 8)
        × ((b : ℕ) → UsesForMessage message own b → UsesForStatus own b → ⊥)
        × ((k : ℕ) → k < i → byte_at s k 0 ≡ 3 → BitsApart s c.frames (field_at s k) own))
    unfolding place_fault is_field clash_at
    place_clear one ones =
        rw kind
        (simp (meanings, inside_clear message own one, once_clear message own one) (
          λ ((inside, once), apart). (inside, once, λ k l f e. (clashes k l f).0 (apart k l f e)),
          λ (inside, once, apart). ((inside, once), λ k l f e. (clashes k l f).1 (apart k l f e)),
        ))
      where
        clashes :
            (k : ℕ) → k < i → byte_at s k 0 ≡ 3
            → (clash message own (message_numbered s c (field_at s k).message) (field_at s k) ≡ false)
            ↔ ((b : ℕ) → Uses message own b → Uses (message_numbered s c (field_at s k).message) (field_at s k) b → ⊥)
        clashes k l f = clash_clear message own one (message_numbered s c (field_at s k).message) (field_at s k) (ones k l f)
