-- Exactly the files that are well laid out are accepted. In a file whose kinds are in order the counts before each record are known, so a record
-- passes its tests exactly if it is as the paper demands; and kinds that pass the ORDER test are in order.
-- Assumes nothing.
use mathlib.Core.Path.{◌≡◌, refl}
use mathlib.Core.Bool.{Bool, true, false, cond, true≢false}
use mathlib.Core.List.{List}
use mathlib.Core.Logic.Iff
use mathlib.Core.Logic.{◌↔◌, inl, inr}
use Prim.Native.Nat.{ℕ, zero, suc, ◌+◌, ◌-◌, ◌*◌, ◌/◌, ◌<◌, ◌≤◌}
use native.Mathlib.Nat.{not-suc-le-zero}
use native.Mathlib.Omega.{arith}
use lib.ListN.{length}
use Rattle.record.specs.Records.{byte_at, is_field, frame_at, message_at, field_at}
use Rattle.ranges.specs.Ranges.{finding_at, AllRight}
use Rattle.record.specs.declared.Field.{Field}
use Rattle.ranges.proofs.Lowest.{range_right}
use Rattle.record.proofs.Tests.{to_last, bounded, meanings}
use Rattle.layout.specs.Verdict.{size_fault, is_field_of, fields_among, fails, no_field, complete, Verdict, refused_at, fails_at, refusal_at, judged, verdict}
use Rattle.layout.specs.Counts.{counts}
use Rattle.layout.specs.WellLaid.{FrameRecord, MessageRecord, FieldRecord, Below, the_field, its_message, its_frame, WellLaid}
use Rattle.layout.specs.declared.Counts.{Counts}
use Rattle.layout.specs.declared.Refusal.{Refusal}
use Rattle.std.specs.Prelude.{Ok, Err}
use Rattle.layout.proofs.Tallies.{tally_none, tally_most}
use Rattle.layout.proofs.Sorted.{
  Kinds,
  Rises,
  everywhere,
  no_field_lem,
  rises,
  fields_before,
  before_frame,
  before_message,
  before_field,
  parted,
}
use Rattle.layout.proofs.Node.{few_frames, few_messages}
use Rattle.layout.proofs.Faults.{
  Ordered,
  order_clear,
  frame_right,
  message_right,
  field_right,
  Alike,
  BitsApart,
  no_field_clear,
  ref_clear,
  group_clear,
  place_clear,
}

-- ---- a record passes its tests

-- one that is no field
plain_passes :
    (s : List ℕ) (i : ℕ) → byte_at s i 0 ≤ 2 → Rises s i → (c : Counts)
    → (fails s i c ≡ false)
    ↔ ((byte_at s i 0 ≡ 1 → (frame_at s i).number ≡ c.frames)
    × (byte_at s i 0 ≡ 2 → (message_at s i).number ≡ c.messages)
    × AllRight (finding_at s i))
unfolding fails
plain_passes s i low rise c =
    let (ref, group, place) = no_field_clear s i c low in
    simp (meanings, order_clear, range_right) (
      λ h. search,
      λ (frame, message, range).
          let order : Ordered s i c = record { rises = rise; frame = frame; message = message; field = λ a b k. absurd (omega arith) } in
          ((((order, range), ref), group), place),
    )

-- what is demanded of field d and of those before it
record NextField (s : List ℕ) (F M d : ℕ) : Type 0 where
  pub its_record : FieldRecord s F M (F + M + d) (its_message s F M (the_field s F M d)) (its_frame s F M (the_field s F M d))
  pub above : (e : ℕ) → suc e ≡ d → Below (the_field s F M e) (the_field s F M d)
  pub not_ninth : fields_among s (the_field s F M d).message (F + M + d) < 8
  pub few : d < 128
  pub alike : (e : ℕ) → e < d → Alike (the_field s F M e) (the_field s F M d)
  pub apart : (e : ℕ) → e < d → BitsApart s F (the_field s F M e) (the_field s F M d)

below_trans : (p q r : Field) → Below p q → Below q r → Below p r
below_trans p q r (inl a) (inl b) = inl (omega arith)
below_trans p q r (inl a) (inr b) = inl (omega arith)
below_trans p q r (inr a) (inl b) = inl (omega arith)
below_trans p q r (inr a) (inr b) = inr (omega arith)

-- of a record that passes, its kind and its bytes
passing : (s : List ℕ) (i : ℕ) → fails_at s i ≡ false → Rises s i × AllRight (finding_at s i)
unfolding fails_at fails
passing s i e = let ((((order, range), _), _), _) = simp (meanings, order_clear, range_right) at e in (order.rises, range)

module _ (s : List ℕ) (F M D : ℕ) (w : Kinds s F M D) where
  field_ordered :
      (d : ℕ) → d < D → Ordered s (F + M + d) (counts F M d) ↔ ((e : ℕ) → suc e ≡ d → Below (the_field s F M e) (the_field s F M d))
  field_ordered d l =
      let kind = w.fields d l in (
        λ o e q.
            let last : F + M + d - 1 ≡ F + M + e = omega arith in
            rw last at (o.field (omega arith) (rw last (w.fields e (omega arith))) kind),
        λ h.
            record {
              rises = rises s F M D w (F + M + d) (omega arith);
              frame = omega arith;
              message = omega arith;
              field = λ a before k.
                  (fields_before s F M D w (λ k. suc k ≡ F + M + d → Below (field_at s k) (the_field s F M d)) d (omega arith)).1
                  (λ e b q. h e (omega arith)) (F + M + d - 1) (omega arith) before (omega arith);
            },
      )

  pub frame_passes : (f : ℕ) → f < F → (fails_at s f ≡ false) ↔ FrameRecord s f f
  unfolding fails_at
  frame_passes f l =
      let kind = w.frames f l in
      rw (before_frame s F M D w f (omega arith))
      (simp (plain_passes s f (omega arith) (rises s F M D w f (omega arith))) (
        λ (frame, message, range). (frame_right s f f kind).0 (frame kind, range),
        λ r. (λ k. r.number, omega arith, ((frame_right s f f kind).1 r).1),
      ))

  pub message_passes : (m : ℕ) → m < M → (fails_at s (F + m) ≡ false) ↔ MessageRecord s (F + m) m
  unfolding fails_at
  message_passes m l =
      let kind = w.messages m l in
      rw (before_message s F M D w m (omega arith))
      (simp (plain_passes s (F + m) (omega arith) (rises s F M D w (F + m) (omega arith))) (
        λ (frame, message, range). (message_right s (F + m) m kind).0 (message kind, range),
        λ r. (omega arith, λ k. r.number, ((message_right s (F + m) m kind).1 r).1),
      ))

  field_passes :
      ((e : ℕ) → e < D → (the_field s F M e).status ≤ 1) → (d : ℕ) → d < D → (fails_at s (F + M + d) ≡ false) ↔ NextField s F M d
  unfolding fails_at fails
  field_passes ones d l =
      let kind = w.fields d l in
      let i = F + M + d in
      let c = counts F M d in
      rw (before_field s F M D w d (omega arith))
      (simp (
        meanings,
        order_clear,
        field_ordered d l,
        Iff.trans (range_right s i) (field_right s i kind),
        ref_clear s i c kind,
        group_clear s i c kind,
        place_clear s i c kind (ones d l) ((earlier (λ k. (field_at s k).status ≤ 1)).1 (λ e b. ones e (omega arith))),
        earlier (λ k. Alike (field_at s k) (field_at s i)),
        earlier (λ k. BitsApart s F (field_at s k) (field_at s i)),
      )
      (λ h. search depth 20, λ n. search depth 20))
    where
      earlier : (P : ℕ → Type 0) → ((k : ℕ) → k < F + M + d → byte_at s k 0 ≡ 3 → P k) ↔ ((e : ℕ) → e < d → P (F + M + e))
      earlier P = fields_before s F M D w P d (omega arith)

  -- ---- all records pass

  -- the frames and the messages are no fields
  pub none_before : (m : ℕ) → fields_among s m (F + M) ≡ 0
  unfolding is_field_of is_field
  none_before m = tally_none (is_field_of s m) (F + M) (λ k l. simp meanings (λ f. absurd (omega (arith, no_field_lem s F M D w k l))))

  -- none of its fields is a message's ninth, exactly if it has no more than eight
  eight : (m : ℕ) → ((d : ℕ) → d < D → (the_field s F M d).message ≡ m → fields_among s m (F + M + d) < 8) ↔ (fields_among s m (F + M + D) ≤ 8)
  unfolding is_field_of is_field
  eight m =
      Iff.trans (simp meanings (λ h d l q. h d l q.1, λ h d l q. h d l (w.fields d l, q)))
      (tally_most (is_field_of s m) 8 (F + M) D (omega (arith, none_before m)))

  rising : ((d : ℕ) → d < D → NextField s F M d) → (d e : ℕ) → d < e → e < D → Below (the_field s F M d) (the_field s F M e)
  rising next d zero l b = absurd (not-suc-le-zero l)
  rising next d (suc e) l b =
      let last = (next (suc e) b).above e refl in
      to_last (λ k. Below (the_field s F M k) (the_field s F M (suc e))) e
      (λ k g. below_trans (the_field s F M k) (the_field s F M e) (the_field s F M (suc e)) (rising next k e g (omega arith)) last) last d l

  well_laid :
      length s ≡ (F + M + D) * 24 → ((i : ℕ) → i < F + M + D → fails_at s i ≡ false) → ((m : ℕ) → m < M → fields_among s m (F + M + D) ≡ 0 → ⊥)
      → WellLaid s F M D
  well_laid size passes full =
      record {
        size = size;
        fields_few = bounded D 128 (λ d l. (next d l).few);
        frames = λ f l. (frame_passes f l).0 (passes f (omega arith));
        messages = λ m l. (message_passes m l).0 (passes (F + m) (omega arith));
        fields = λ d l. (next d l).its_record;
        rising = rising next;
        alike = λ d e l b. (next e b).alike d l;
        apart = λ d e l b q x u v. (next e b).apart d l q x v u;
        some_field = λ m l. omega (arith, full m l);
        eight_fields = λ m l. (eight m).0 (λ d b q. rw q at (next d b).not_ninth);
      }
    where
      ones : (e : ℕ) → e < D → (the_field s F M e).status ≤ 1
      ones e l = ((field_right s (F + M + e) (w.fields e l)).0 (passing s (F + M + e) (passes (F + M + e) (omega arith))).1).0

      next : (d : ℕ) → d < D → NextField s F M d
      next d l = (field_passes ones d l).0 (passes (F + M + d) (omega arith))

module _ (s : List ℕ) (F M D : ℕ) (w : WellLaid s F M D) where
  pub kinds : Kinds s F M D
  kinds = record { frames = λ f l. (w.frames f l).kind; messages = λ m l. (w.messages m l).kind; fields = λ d l. (w.fields d l).kind }

  next_field : (d : ℕ) → d < D → NextField s F M d
  next_field d l =
      record {
        its_record = w.fields d l;
        above = λ e q. w.rising e d (omega arith) l;
        not_ninth = (eight s F M D kinds (the_field s F M d).message).1 (w.eight_fields _ (w.fields d l).message) d l refl;
        few = omega (arith, w.fields_few);
        alike = λ e b. w.alike e d b l;
        apart = λ e b q x u v. w.apart e d b l q x v u;
      }

  all_pass : (i : ℕ) → i < F + M + D → fails_at s i ≡ false
  all_pass =
      everywhere F M D (λ i. fails_at s i ≡ false) (λ f l. (frame_passes s F M D kinds f l).1 (w.frames f l))
      (λ m l. (message_passes s F M D kinds m l).1 (w.messages m l))
      (λ d l. (field_passes s F M D kinds (λ e b. (w.fields e b).status) d l).1 (next_field d l))

-- ---- the verdict

not_refused :
    (b : Bool) (n : Refusal) (r F M D : ℕ) (v : Verdict)
    → (cond b (Err (refused_at n r)) v ≡ Ok (counts F M D)) ↔ ((b ≡ false) × (v ≡ Ok (counts F M D)))
not_refused true n r F M D v = (λ e. absurd (let z : ◌≡◌ {A = ℕ} 0 1 = cc in omega arith), λ h. absurd (true≢false h.0))
not_refused false n r F M D v = (λ e. (refl, e), λ h. h.1)

same_counts :
    (c : Counts) (F M D : ℕ) → (◌≡◌ {A = Verdict} (Ok c) (Ok (counts F M D))) ↔ (c ≡ counts F M D)
same_counts c F M D = (λ e. cc, λ e. rw e)

pub accepted : (s : List ℕ) (F M D : ℕ) → (verdict s ≡ Ok (counts F M D)) ↔ WellLaid s F M D
unfolding verdict judged refusal_at complete size_fault no_field
accepted s F M D =
    simp (not_refused, same_counts, meanings) (
      λ (size, (passes, (full, counted))).
          let p = parted s (length s / 24) F M D (λ i l. (passing s i (passes i l)).0) counted in
          well_laid s F M D p.kinds (omega arith) (rw (← p.total) at passes) (rw (counted, ← p.total) at full),
      λ w.
          let n : length s / 24 ≡ F + M + D = omega arith in
          let small : length s ≤ 4608 = omega (arith, few_frames s F M D w, few_messages s F M D w) in
          let counted = before_field s F M D (kinds s F M D w) D (omega arith) in
          rw (n, counted) (omega arith, (all_pass s F M D w, (λ m l z. omega (arith, w.some_field m l), refl))),
    )
