-- What a node may go by, of a file that is well laid out: that there are few frames, messages and fields, that a message's fields stand one after the
-- other in the order of their frames, and that the places of a field's bits lie in its frame and are no other's. A run's places are made one by one
-- of its bits, and two bits of a frame have two places.
-- Assumes nothing.
use mathlib.Core.Path.{◌≡◌, sym}
use mathlib.Core.Bool.{Bool, true, false}
use mathlib.Core.List.{List, [], ◌∷◌}
use mathlib.Core.Logic.{inl, inr, ⊎_elim}
use Prim.Native.Nat.{ℕ, zero, suc, ◌+◌, ◌-◌, ◌*◌, ◌<◌, ◌≤◌}
use native.Mathlib.Nat.{eq-or-lt_of_le}
use native.Mathlib.Omega.{arith}
use native.Mathlib.Decide.{dec_lt}
use lib.Dec.{eqb}
use borrow.Author.Tests.{le-leb}
use Rattle.packing.specs.Places.{place_of, frame_bit, bit_places, places, in_frame, places_in, Outside, Disjoint}
use Rattle.packing.proofs.Places.{place_own}
use Rattle.record.specs.Runs.{message_run, status_run}
use Rattle.record.specs.declared.Frame.{Frame}
use Rattle.record.specs.declared.Message.{Message}
use Rattle.record.specs.declared.Field.{Field}
use Rattle.record.specs.declared.Run.{Run}
use Rattle.record.proofs.Tests.{bounded}
use Rattle.layout.specs.WellLaid.{UsesForStatus, Uses, Below, the_field, its_message, its_frame, WellLaid}
use Rattle.layout.proofs.Runs.{On, on_status}

-- ---- the places of a run

frame_bit_lem : (big : Bool) (a : Run) (j : ℕ) → j < a.width → On a (frame_bit big a.start a.width j)
unfolding frame_bit
frame_bit_lem false a j l = omega arith
frame_bit_lem true a j l = omega arith

abbrev pub run_places : Bool → Run → List ℕ
run_places big a = places big a.start a.width

-- what holds of no places, and with the place of one more bit of the run, holds of the run's places
module _ (big : Bool) (a : Run) (Q : List ℕ → Type 0) (none : Q []) (more : (x : ℕ) (ps : List ℕ) → On a x → Q ps → Q (place_of big x ∷ ps)) where
  some_places : (j n : ℕ) → j + n ≤ a.width → Q (bit_places big a.start a.width j n)
  unfolding bit_places
  some_places j zero l = none
  some_places j (suc n) l = more _ _ (frame_bit_lem big a j (omega arith)) (some_places (j + 1) n (omega arith))

  run_places_lem : Q (run_places big a)
  unfolding places
  run_places_lem = some_places 0 a.width (omega arith)

run_disjoint : (big : Bool) (a b : Run) → ((x : ℕ) → On a x → On b x → ⊥) → Disjoint (run_places big a) (run_places big b)
run_disjoint big a b h = run_places_lem big a (λ ps. Disjoint ps (run_places big b)) tt (λ x ps on rest. (apart x on, rest))
  where
    apart : (x : ℕ) → On a x → Outside (place_of big x) (run_places big b)
    apart x on = run_places_lem big b (Outside (place_of big x)) tt (λ y ps on-b rest. (λ e. h x on (rw (place_own big x y e) on-b), rest))

-- packing finds a run's places in a frame that holds it
run_placed :
    (big : Bool) (n : ℕ) (a : Run) → 1 ≤ a.width → a.width ≤ 32 → ((b : ℕ) → On a b → b < n * 8)
    → places_in n big a.start a.width ≡ run_places big a
unfolding places_in in_frame
run_placed big n a some few h =
    rw (
      le-leb a.width 32 few,
      le-leb (a.start + a.width) (n * 8) (omega (arith, h (a.start + a.width - 1) (omega arith))),
    )

-- ---- the places of fields

-- of message g's field r, in a frame of big or little order
abbrev pub record_places : Bool → Message → Field → List ℕ
record_places big g r = run_places big (message_run g r)

abbrev pub record_status : Bool → Field → List ℕ
record_status big r = run_places big (status_run r)

-- two fields of one frame, r of message g and q of message e, have no place in common
pub record Separate (big : Bool) (g : Message) (r : Field) (e : Message) (q : Field) : Type 0 where
  pub message_message : Disjoint (record_places big g r) (record_places big e q)
  pub message_status : Disjoint (record_places big g r) (record_status big q)
  pub status_message : Disjoint (record_status big r) (record_places big e q)
  pub status_status : Disjoint (record_status big r) (record_status big q)

separate :
    (big : Bool) (g : Message) (r : Field) (e : Message) (q : Field) → r.status ≤ 1 → q.status ≤ 1
    → ((b : ℕ) → Uses g r b → Uses e q b → ⊥) → Separate big g r e q
separate big g r e q own-one its-one apart =
    record {
      message_message = run_disjoint big (message_run g r) (message_run e q) (λ b u v. apart b (inl u) (inl v));
      message_status = run_disjoint big (message_run g r) (status_run q) (λ b u v. apart b (inl u) (inr (its b v)));
      status_message = run_disjoint big (status_run r) (message_run e q) (λ b u v. apart b (inr (own b u)) (inl v));
      status_status = run_disjoint big (status_run r) (status_run q) (λ b u v. apart b (inr (own b u)) (inr (its b v)));
    }
  where
    own : (b : ℕ) → On (status_run r) b → UsesForStatus r b
    own b = (on_status r own-one b).0

    its : (b : ℕ) → On (status_run q) b → UsesForStatus q b
    its b = (on_status q its-one b).0

-- ---- a file that is well laid out

rise : (p r : Field) → Below p r → (p.message ≤ r.message) × (p.message ≡ r.message → p.frame < r.frame)
rise p r (inl h) = omega arith
rise p r (inr h) = omega arith

module _ (s : List ℕ) (F M : ℕ) where
  abbrev field : ℕ → Field
  field d = the_field s F M d

  -- its message, its frame, and whether that has big order
  abbrev message_of : ℕ → Message
  message_of d = its_message s F M (field d)

  abbrev frame_of : ℕ → Frame
  frame_of d = its_frame s F M (field d)

  abbrev is_big : ℕ → Bool
  is_big d = eqb (frame_of d).order 1

  module _ (D : ℕ) (w : WellLaid s F M D) where
    -- that there are no more than 128 fields, of messages and in frames that are there, WellLaid says itself
    pub few_frames : F ≤ 32
    few_frames = bounded F 32 (λ f l. (w.frames f l).number_below)

    pub few_messages : M ≤ 32
    few_messages = bounded M 32 (λ m l. (w.messages m l).number_below)

    -- the fields of a message stand one after the other
    messages_rise : (d e : ℕ) → d ≤ e → e < D → (field d).message ≤ (field e).message
    messages_rise d e h l =
        ⊎_elim (λ (q : d ≡ e). rw q (omega arith)) (λ (g : d < e). (rise (field d) (field e) (w.rising d e g l)).0) (eq-or-lt_of_le h)

    pub together : (m d e f : ℕ) → d ≤ e → e ≤ f → f < D → (field d).message ≡ m → (field f).message ≡ m → (field e).message ≡ m
    together m d e f h g l first last = omega (arith, messages_rise d e h (omega arith), messages_rise e f g l)

    -- in the order of their frames
    pub frames_rise : (d e : ℕ) → d < e → e < D → (field d).message ≡ (field e).message → (field d).frame < (field e).frame
    frames_rise d e h l = (rise (field d) (field e) (w.rising d e h l)).1

    module _ (d : ℕ) (l : d < D) where
      for_status : (b : ℕ) → On (status_run (field d)) b → UsesForStatus (field d) b
      for_status b = (on_status (field d) (w.fields d l).status b).0

      message_bits : (b : ℕ) → On (message_run (message_of d) (field d)) b → b < (frame_of d).length * 8
      message_bits b u = (w.fields d l).inside b (inl u)

      status_bits : (b : ℕ) → On (status_run (field d)) b → b < (frame_of d).length * 8
      status_bits b u = (w.fields d l).inside b (inr (for_status b u))

      pub message_placed :
          places_in (frame_of d).length (is_big d) (field d).start (message_of d).width ≡ record_places (is_big d) (message_of d) (field d)
      message_placed =
          let g = w.messages (field d).message (w.fields d l).message in
          run_placed (is_big d) (frame_of d).length (message_run (message_of d) (field d)) g.width_from g.width_to message_bits

      pub status_placed :
          (field d).status ≡ 1 → places_in (frame_of d).length (is_big d) (field d).place (field d).status ≡ record_status (is_big d) (field d)
      status_placed present = run_placed (is_big d) (frame_of d).length (status_run (field d)) (omega arith) (omega arith) status_bits

      pub own_disjoint : Disjoint (record_places (is_big d) (message_of d) (field d)) (record_status (is_big d) (field d))
      own_disjoint =
          run_disjoint (is_big d) (message_run (message_of d) (field d)) (status_run (field d)) (λ b u v. (w.fields d l).once b u (for_status b v))

      pub fields_separate :
          (e : ℕ) → e < D → (d ≡ e → ⊥) → (field d).frame ≡ (field e).frame → Separate (is_big d) (message_of d) (field d) (message_of e) (field e)
      fields_separate e b other same =
          separate (is_big d) (message_of d) (field d) (message_of e) (field e) (w.fields d l).status (w.fields e b).status (go (dec_lt d e))
        where
          go : Dec (d < e) → (x : ℕ) → Uses (message_of d) (field d) x → Uses (message_of e) (field e) x → ⊥
          go (yes h) x u v = w.apart d e h b same x u v
          go (no h) x u v = w.apart e d (omega arith) l (sym same) x v u
