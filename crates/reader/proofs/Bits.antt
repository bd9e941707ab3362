-- The table of used bits. A field that passes REF has a frame and a message that pass their own tests, so its frame has a row and its bits fit; whether an
-- earlier field uses one of them is asked of the table run by run; and with its runs with_run the table is that of one record more.
-- Assumes nothing.
use mathlib.Core.Path.{◌≡◌, refl, sym, ◌∙◌}
use mathlib.Core.Bool.{Bool, true, false, cond, ◌&&◌, ◌||◌}
use mathlib.Core.List.{List}
use Prim.Native.Nat.{ℕ, suc, ◌+◌, ◌<◌, ◌≤◌}
use native.Mathlib.Nat.{add-zero}
use native.Mathlib.Numerals.{add-one}
use native.Mathlib.Decide.{ℕ_discrete}
use native.Mathlib.Omega.{arith}
use lib.Dec.{eqb}
use lib.ListN.{length, replicate}
use borrow.Author.Tests.{eqb-true, ne_eqb}
use Rattle.record.specs.Numbers.{tally, any_below}
use Rattle.record.specs.Records.{byte_at, is_frame, is_field, frame_at, message_at, field_at}
use Rattle.record.specs.Runs.{message_run, status_run, past_end, meet, clash}
use Rattle.record.specs.declared.Message.{Message}
use Rattle.record.specs.declared.Field.{Field}
use Rattle.record.specs.declared.Run.{Run}
use Rattle.record.proofs.Tests.{to_last, or_clear, any_clear, meanings}
use Rattle.record.proofs.Searches.{any_same, any_or, none_more}
use Rattle.used.specs.Used.{table_size, any_used, with_run}
use Rattle.used.specs.Claims.{MayAdd}
use Rattle.used.proofs.Rows.{added_bits}
use Rattle.used.proofs.Laws.{none_any, added_any}
use Rattle.ranges.specs.Ranges.{finding_at, AllRight}
use Rattle.layout.specs.Counts.{counts_before, message_numbered}
use Rattle.layout.specs.Verdict.{ref_fault, place_fault, clash_at, fails_at}
use Rattle.layout.specs.WellLaid.{FrameRecord, MessageRecord}
use Rattle.reader.specs.Carried.{at_hand, fields_after, Lacks, lacking_after, uses_of, TableOf, HasRow, Fits, Carried}
use Rattle.layout.specs.declared.Counts.{Counts}
use Rattle.layout.proofs.Sorted.{Parted, parted}
use Rattle.layout.proofs.Faults.{field_right, ref_clear}
use Rattle.layout.proofs.Accepted.{frame_passes, message_passes}
use Rattle.layout.proofs.Demands.{passes}
use Rattle.reader.proofs.Carried.{AllPassed, ordered, back, last, number_next, lacking_next}
use Rattle.reader.proofs.Reading.{counts_none}

module _ (s : List ℕ) where
  -- ---- the field has a row

  pub has_row :
      (i : ℕ) {c : Counts} → AllPassed s i → c ≡ counts_before s i → AllRight (finding_at s i) → ref_fault s i c ≡ false → HasRow s c.frames i
  has_row i {c} pass counted right ref =
      record {
        frame = λ kind. (frame kind).number_below;
        length = λ kind. (frame kind).length_to;
        width_from = λ kind. (message kind).width_from;
        width_to = λ kind. (message kind).width_to;
        status = λ kind. ((field_right s i kind).0 right).0;
        no_status = λ kind. ((field_right s i kind).0 right).1;
      }
    where
      p : Parted s i c.frames c.messages c.fields
      p = parted s i c.frames c.messages c.fields (λ k l. (ordered s k (pass k l)).rises) (sym counted)

      frame : (kind : byte_at s i 0 ≡ 3) → FrameRecord s (field_at s i).frame (field_at s i).frame
      frame kind =
          let l = ((ref_clear s i c kind).0 ref).1 in
          (frame_passes s c.frames c.messages c.fields p.kinds (field_at s i).frame l).0 (pass (field_at s i).frame (omega (arith, p.total)))

      message : (kind : byte_at s i 0 ≡ 3) → MessageRecord s (c.frames + (field_at s i).message) (field_at s i).message
      message kind =
          let l = ((ref_clear s i c kind).0 ref).0 in
          (message_passes s c.frames c.messages c.fields p.kinds (field_at s i).message l).0
          (pass (c.frames + (field_at s i).message) (omega (arith, p.total)))

  -- its bits lie in the frame, if it passes PLACE
  pub fits : (i : ℕ) (c : Counts) → HasRow s c.frames i → place_fault s i c ≡ false → Fits s c.frames i
  unfolding place_fault is_field
  fits i c row place =
      record {
        row = row;
        message = λ kind. (simp or_clear at (rw kind at place)).0.0.0;
        status = λ kind. (simp or_clear at (rw kind at place)).0.0.1;
      }

  -- so in the row
  module _ (i F : ℕ) (kind : byte_at s i 0 ≡ 3) (row : HasRow s F i) where
    abbrev own : Field
    own = field_at s i

    abbrev its : Message
    its = message_at s (F + own.message)

    abbrev Clear : Run → Type 0
    Clear a = past_end (frame_at s own.frame).length a ≡ false

    pub message_in_row : Clear (message_run its own) → own.start + its.width ≤ 256
    unfolding past_end
    message_in_row clear = omega (arith, (simp meanings at clear) (row.width_from kind), row.length kind)

    pub status_in_row : Clear (status_run own) → own.place + own.status ≤ 256
    unfolding past_end
    status_in_row clear = go (ℕ_discrete own.status 0)
      where
        go : Dec (own.status ≡ 0) → own.place + own.status ≤ 256
        go (yes none) = omega (arith, row.no_status kind none)
        go (no some) = omega (arith, (simp meanings at clear) (omega arith), row.length kind)

  -- ---- whether an earlier field uses a bit

  apart_from : (f e a b c d : Bool) → (f && (e && (((a || b) || c) || d))) ≡ ((f && (e && (a || b))) || (f && (e && (c || d))))
  apart_from false e a b c d = refl
  apart_from true false a b c d = refl
  apart_from true true true b c d = refl
  apart_from true true false true c d = refl
  apart_from true true false false c d = refl

  -- record k is a field of r's frame, and a test of it holds
  abbrev InFrame : Field → ℕ → Bool → Bool
  InFrame r k t = is_field s k && (eqb (field_at s k).frame r.frame && t)

  -- either of two fields' runs meets one of the other's
  clash_run :
      (k : ℕ) (r : Field) (g e : Message) (q : Field)
      → InFrame r k (clash g r e q)
      ≡ (InFrame r k (meet (message_run g r) (message_run e q) || meet (message_run g r) (status_run q))
      || InFrame r k (meet (status_run r) (message_run e q) || meet (status_run r) (status_run q)))
  unfolding clash
  clash_run k r g e q =
      apart_from (is_field s k) (eqb (field_at s k).frame r.frame) (meet (message_run g r) (message_run e q)) (meet (message_run g r) (status_run q))
      (meet (status_run r) (message_run e q))
      (meet (status_run r) (status_run q))

  pub clashes :
      (i : ℕ) (c : Counts) {t : List ℕ} → let r = field_at s i in let g = message_numbered s c r.message in
      TableOf s c.frames i t → r.frame < 32 → r.start + g.width ≤ 256 → r.place + r.status ≤ 256
      → (any_used t r.frame (message_run g r) || any_used t r.frame (status_run r)) ≡ any_below (clash_at s c g r) i
  unfolding clash_at uses_of
  clashes i c w l in-message in-status =
      let r = field_at s i in
      let g = message_numbered s c r.message in
      rw (w.used r.frame (message_run g r) l in-message, w.used r.frame (status_run r) l in-status)
      (sym (any_or (uses_of s c.frames r.frame (message_run g r)) (uses_of s c.frames r.frame (status_run r)) i)
      ∙ any_same _ _ i (λ k b. sym (clash_run k r g (message_numbered s c (field_at s k).message) (field_at s k))))

  -- ---- the table with one record more

  -- at first
  pub none_added : (F : ℕ) → TableOf s F 0 (replicate table_size 0)
  unfolding any_below
  none_added F = record { size = refl; used = λ f a l h. none_any f a }

  eqb_turn : (a b : ℕ) → eqb a b ≡ eqb b a
  eqb_turn a b = go (ℕ_discrete a b)
    where
      go : Dec (a ≡ b) → eqb a b ≡ eqb b a
      go (yes e) = rw e refl
      go (no n) = ne_eqb a b n ∙ sym (ne_eqb b a (λ e. n (sym e)))

  both : (t e a b : Bool) → ((t || (e && a)) || (e && b)) ≡ (t || (e && (a || b)))
  both true e a b = refl
  both false true a b = refl
  both false false a b = refl

  -- the runs of a field that fits may be with_run
  pub may_message :
      (i F : ℕ) (t : List ℕ) → byte_at s i 0 ≡ 3 → Fits s F i → length t ≡ table_size
      → MayAdd t (field_at s i).frame (message_run (message_at s (F + (field_at s i).message)) (field_at s i))
  may_message i F t kind fit size =
      let row = fit.row in
      record { frame = row.frame kind; few = row.width_to kind; inside = message_in_row i F kind row (fit.message kind); size = size }

  pub may_status :
      (i F : ℕ) (t : List ℕ) → byte_at s i 0 ≡ 3 → Fits s F i → length t ≡ table_size → MayAdd t (field_at s i).frame (status_run (field_at s i))
  may_status i F t kind fit size =
      let row = fit.row in
      record { frame = row.frame kind; few = omega (arith, row.status kind); inside = status_in_row i F kind row (fit.status kind); size = size }

  pub field_added :
      (i F : ℕ) {t : List ℕ} → byte_at s i 0 ≡ 3 → Fits s F i → TableOf s F i t
      → let r = field_at s i in
      TableOf s F (i + 1) (with_run (with_run t r.frame (message_run (message_at s (F + r.message)) r)) r.frame (status_run r))
  unfolding any_below uses_of is_field
  field_added i F {t} kind fit w =
      let r = field_at s i in
      let a = message_run (message_at s (F + r.message)) r in
      let first = may_message i F t kind fit w.size in
      let size = (added_bits t r.frame a first).size ∙ w.size in
      let second = may_status i F (with_run t r.frame a) kind fit size in
      record {
        size = (added_bits (with_run t r.frame a) r.frame (status_run r) second).size ∙ size;
        used = λ f x l h.
            rw (
              add-one,
              kind,
              added_any (with_run t r.frame a) r.frame (status_run r) second f x l h,
              added_any t r.frame a first f x l h,
              w.used f x l h,
              eqb_turn f r.frame,
            )
            (both (any_below (uses_of s F f x) i) (eqb r.frame f) _ _);
      }

  -- a record that is no field uses no bit
  pub not_added : (i F : ℕ) {t : List ℕ} → (byte_at s i 0 ≡ 3 → ⊥) → TableOf s F i t → TableOf s F (i + 1) t
  unfolding any_below uses_of is_field
  not_added i F other w =
      record { size = w.size; used = λ f a l h. rw (add-one, ne_eqb (byte_at s i 0) 3 other, w.used f a l h) (or_none (any_below (uses_of s F f a) i)) }
    where
      or_none : (b : Bool) → b ≡ (b || false)
      or_none true = refl
      or_none false = refl

  -- and with a frame more there is no field yet
  no_field_yet : (i F : ℕ) → AllPassed s (suc i) → is_frame s i ≡ true → (f : ℕ) (a : Run) → any_below (uses_of s F f a) (suc i) ≡ false
  unfolding uses_of is_field is_frame
  no_field_yet i F pass e f a =
      (any_clear (uses_of s F f a) (suc i)).1
      (λ k l. rw (ne_eqb (byte_at s k 0) 3 (λ field. omega (arith, rw (back s i) at (last s (suc i) pass k l field).field, eqb-true (byte_at s i 0) 1 e))) refl)

  pub frames_counted :
      (i : ℕ) {t : List ℕ} → AllPassed s (suc i) → TableOf s (counts_before s i).frames (suc i) t
      → TableOf s (counts_before s (suc i)).frames (suc i) t
  unfolding counts_before tally
  frames_counted i {t} pass w = go (is_frame s i) refl
    where
      go : (b : Bool) → is_frame s i ≡ b → TableOf s (tally (is_frame s) i + cond b 1 0) (suc i) t
      go true e = record { size = w.size; used = λ f a l h. w.used f a l h ∙ no_field_yet i _ pass e f a ∙ sym (no_field_yet i _ pass e f a) }
      go false e = rw add-zero w

  -- ---- what is carried

  pub carried_none :
      {c : Counts} {t : List ℕ} → (c.frames ≡ 0) × ((c.messages ≡ 0) × (c.fields ≡ 0)) → t ≡ replicate table_size 0 → Carried s 0 c 0 t
  unfolding any_below tally at_hand
  carried_none {c} none e = record { passes = refl; counts = counts_none s none; hand = refl; table = rw e (none_added c.frames) }

  module _ (i : ℕ) {c : Counts} {number : ℕ} {t : List ℕ} (w : Carried s i c number t) (here : fails_at s i ≡ false) where
    pub all_passed : AllPassed s (suc i)
    all_passed = to_last (λ k. fails_at s k ≡ false) i ((any_clear (fails_at s) i).0 w.passes) here

    pub fitting : Fits s c.frames i
    fitting =
        let p = (passes s i).0 here in
        let row = has_row i (λ k l. all_passed k (omega arith)) w.counts p.bytes (rw w.counts p.ref) in
        fits i c row (rw w.counts p.place)

    pub carried_next :
        {d : Counts} {u : List ℕ} → d ≡ counts_before s (i + 1) → TableOf s c.frames (i + 1) u → Carried s (i + 1) d (fields_after s i number) u
    carried_next {d} {u} counted with_run =
        record {
          passes = none_more (fails_at s) i w.passes here;
          counts = counted;
          hand = rw add-one (number_next s i all_passed w.hand);
          table = rw (counted, add-one) (frames_counted i all_passed (rw (w.counts, add-one) at with_run));
        }

    pub lacks_next : {m : ℕ} → Lacks s i m → Lacks s (i + 1) (lacking_after s i m)
    lacks_next l = rw add-one (lacking_next s i all_passed l)
