-- What assembling and receiving mean on a sound node. Assembling writes one field of the frame after the other. A field that is written later is the
-- same one again, or shares no bit with it, so that what a field wrote stands there in the end: its message's held value and its validity. A bit that
-- no field of the frame uses stays. And a received message answers one of the four statuses.
-- Assumes nothing.
use mathlib.Core.Path.{◌≡◌, refl, sym, ap, ◌∙◌}
use mathlib.Core.Bool.{Bool, true, false, cond, true≢false}
use mathlib.Core.List.{List, [], ◌∷◌, map}
use Prim.Native.Nat.{ℕ, ◌%◌, ◌^◌, ◌<◌, ◌≤◌}
use native.Mathlib.Decide.{ℕ_discrete, dec_lt}
use native.Mathlib.Omega.{arith}
use lib.Dec.{eqb}
use lib.ListN.{length}
use borrow.Author.Tests.{lt-ltb, eqb-true}
use Rattle.packing.specs.Places.{bit_at, in_frame, places_in, packed, unpacked, Outside, Disjoint}
use Rattle.packing.specs.Values.{value_of}
use Rattle.packing.proofs.Frame.{packed_length, unpacked_other, round_trip, agree}
use Rattle.packing.proofs.Places.{places_in_places, places_in_inside, places_in_distinct, places_length, in_frame_bounds}
use Rattle.packing.proofs.Values.{pattern_lowest, pattern_value, value_pattern}
use Rattle.record.specs.declared.Field.{Field as FieldRecord}
use Rattle.store.specs.declared.Message.{Message}
use Rattle.store.specs.declared.MessageState.{MessageState}
use Rattle.store.specs.Node.{Layout, Node, message_count, is_signed, is_sent, is_valid, is_big, held_value, frame_at, message_at, laid_at}
use Rattle.message.specs.Fields.{status_places, writes}
use Rattle.message.proofs.Held.{held_in_range}
use Rattle.own.specs.declared.Owner.{Owner}
use Rattle.own.specs.Own.{is_in, cells_of, fields_of}
use Rattle.node.specs.Calls.{assemble_answer, written, assembled, receive_answer}
use Rattle.own.specs.SoundLayout.{message_places, its_status_places, SoundField, Apart}
use Rattle.node.specs.Sound.{IsStatus, SoundMessageState, Sound}
use Rattle.node.specs.Claims.{InFrame, field_message, field_state}
use Rattle.own.proofs.Lists.{by_test, Every, every_number, in_cases}
use Rattle.own.proofs.Owners.{cell_names, fields_named}
use Rattle.node.proofs.Answers.{assemble_tests}

-- ---- assembling

-- what a field writes, by the places that it has in its frame
module _ (n : Node) (x : FieldRecord) where
  abbrev put : List ℕ → List ℕ
  put b =
      packed (its_status_places n.layout x) (cond (is_valid (field_state n x)) 1 0) (packed (message_places n.layout x) (field_state n x).held b)

-- what is written at the places of w bits that lie in the frame is read there
written_there : (bytes : ℕ) (big : Bool) (start w v : ℕ) (c : List ℕ) → length c ≡ bytes → in_frame bytes start w ≡ true
    → unpacked (places_in bytes big start w) (packed (places_in bytes big start w) v c) ≡ v % 2 ^ w
written_there bytes big start w v c size lies =
    let bits : length (places_in bytes big start w) ≡ w = ap length (places_in_places bytes big start w lies) ∙ places_length big start w in
    round_trip (places_in bytes big start w) v c (rw size (places_in_inside bytes big start w)) (places_in_distinct bytes big start w) ∙ rw bits refl

-- so the held pattern's lowest bits stand there, and the validity where it has a status bit
module _ (n : Node) {d : ℕ} {x : FieldRecord} (field : SoundField n.layout d x) (c : List ℕ)
    (size : length c ≡ (frame_at n.layout x.frame).length) where
  put_held : unpacked (message_places n.layout x) (put n x c) ≡ (field_state n x).held % 2 ^ (field_message n x).width
  put_held =
      unpacked_other (message_places n.layout x) (its_status_places n.layout x) _ _ field.once
      ∙ written_there (frame_at n.layout x.frame).length (is_big (frame_at n.layout x.frame)) x.start (field_message n x).width
      (field_state n x).held c size field.lies

  put_status : x.status ≡ 1 → unpacked (its_status_places n.layout x) (put n x c) ≡ cond (is_valid (field_state n x)) 1 0
  unfolding status_places
  put_status t =
      let bytes = (frame_at n.layout x.frame).length in
      let big = is_big (frame_at n.layout x.frame) in
      let places : its_status_places n.layout x ≡ places_in bytes big x.place 1 = rw t refl in
      rw places
      (written_there bytes big x.place 1 (cond (is_valid (field_state n x)) 1 0) _ (packed_length (message_places n.layout x) _ c ∙ size)
      (field.status_lies t) ∙ one_bit (is_valid (field_state n x)))
    where
      one_bit : (t : Bool) → cond t 1 0 % 2 ^ 1 ≡ cond t 1 0
      one_bit true = refl
      one_bit false = refl

-- a pattern's lowest bits have the value that the message holds
held_value_lem : (g : Message) (t : MessageState) → SoundMessageState g t → g.width ≤ 32
    → value_of (is_signed g) g.width (t.held % 2 ^ g.width) ≡ held_value g t
held_value_lem g t s w =
    let v = held_value g t in
    let low = pattern_lowest 32 g.width v w in
    rw (rw (pattern_value (is_signed g) 32 t.held s.held_word) at low) (value_pattern (is_signed g) g.width v (held_in_range g v s.held))

-- the cells of frame f's fields
abbrev frame_cells : Node → ℕ → List ℕ
frame_cells n f = cells_of n.layout (Owner.Frame f)

-- a field uses none of the places
abbrev Unused : Node → List ℕ → FieldRecord → Type 0
Unused n ps x = Disjoint ps (message_places n.layout x) × Disjoint ps (its_status_places n.layout x)

module _ (n : Node) (f : ℕ) where
  abbrev Sized : List ℕ → Type 0
  Sized b = length b ≡ (frame_at n.layout f).length

  abbrev after : FieldRecord → List ℕ → List ℕ
  after x b = writes (frame_at n.layout f) (field_message n x) (field_state n x) x b

  writes_put : (x : FieldRecord) (b : List ℕ) → Sized b → x.frame ≡ f → after x b ≡ put n x b
  unfolding writes
  writes_put x b size e = rw (e, size) refl

  writes_length : (x : FieldRecord) (b : List ℕ) → length (after x b) ≡ length b
  unfolding writes
  writes_length x b = simp packed_length

  written_length : (l : List FieldRecord) (b : List ℕ) → length (written n (frame_at n.layout f) l b) ≡ length b
  unfolding written
  written_length [] b = refl
  written_length (x ∷ l) b = written_length l _ ∙ writes_length x b

  -- pattern v at some places: cells of the frame that leave it there, and one that puts it there
  module _ (ps : List ℕ) (v : ℕ) where
    abbrev Keeps : ℕ → Type 0
    Keeps d = (b : List ℕ) → Sized b → unpacked ps b ≡ v → unpacked ps (after (laid_at n.layout d) b) ≡ v

    written_keeps : (k : List ℕ) (b : List ℕ) → Sized b → Every Keeps k → unpacked ps b ≡ v
        → unpacked ps (written n (frame_at n.layout f) (map (laid_at n.layout) k) b) ≡ v
    unfolding written
    written_keeps [] b size each e = e
    written_keeps (d ∷ k) b size each e =
        written_keeps k _ (writes_length (laid_at n.layout d) b ∙ size) each.1 (each.0 b size e)

    written_makes : (d : ℕ) → ((b : List ℕ) → Sized b → unpacked ps (after (laid_at n.layout d) b) ≡ v) → (k : List ℕ) (b : List ℕ) → Sized b
        → Every Keeps k → is_in d k ≡ true → unpacked ps (written n (frame_at n.layout f) (map (laid_at n.layout) k) b) ≡ v
    unfolding written is_in
    written_makes d makes [] b size each t = absurd (true≢false (sym t))
    written_makes d makes (e ∷ k) b size each t =
        let next : Sized (after (laid_at n.layout e) b) = writes_length (laid_at n.layout e) b ∙ size in
        in_cases d e k t (λ u. written_keeps k _ next each.1 (rw u at (makes b size))) (written_makes d makes k _ next each.1)

pub assembled_length : (n : Node) (f : ℕ) (b : List ℕ) → assemble_answer n f (length b) ≡ 0 → length (assembled n f b) ≡ (frame_at n.layout f).length
unfolding assembled
assembled_length n f b ok = rw ok (written_length n f (fields_of n.layout (Owner.Frame f)) b ∙ assemble_tests n f (length b) ok)

module _ (n : Node) (f : ℕ) where
  in_frame_lem : (d : ℕ) → InFrame n f d → (laid_at n.layout d).frame ≡ f
  in_frame_lem d t = eqb-true (laid_at n.layout d).frame f (cell_names n.layout (Owner.Frame f) d t)

  -- a cell of the frame that uses none of the places leaves what stands there
  unused_keeps : (ps : List ℕ) (v : ℕ) (d : ℕ) → InFrame n f d → Unused n ps (laid_at n.layout d) → Keeps n f ps v d
  unused_keeps ps v d t unused b size e =
      let x = laid_at n.layout d in
      rw (writes_put n f x b size (in_frame_lem d t))
      (unpacked_other ps (its_status_places n.layout x) _ _ unused.1 ∙ unpacked_other ps (message_places n.layout x) _ b unused.0 ∙ e)

  -- a bit that no field of the frame uses stays
  pub other_bit : (b : List ℕ) (q : ℕ)
      → ((d : ℕ) → InFrame n f d
      → Outside q (message_places n.layout (laid_at n.layout d)) × Outside q (its_status_places n.layout (laid_at n.layout d)))
      → bit_at (assembled n f b) q ≡ bit_at b q
  unfolding assembled
  other_bit b q h =
      by_test (λ (c : List ℕ). bit_at c q ≡ bit_at b q) (eqb (assemble_answer n f (length b)) 0)
      (λ t. let size = assemble_tests n f (length b) (eqb-true _ 0 t) in
      let v = unpacked (q ∷ []) b in
      let each = every_number (Keeps n f (q ∷ []) v) (frame_cells n f) (λ d m. unused_keeps (q ∷ []) v d m (((h d m).0, tt), ((h d m).1, tt))) in
      ((agree (q ∷ []) _ b).1 (written_keeps n f (q ∷ []) v (frame_cells n f) b size each refl)).0)
      (λ t. refl)

-- ---- two fields of a frame are apart, in either order

first_off : (ps : List ℕ) (q : ℕ) (qs : List ℕ) → Disjoint ps (q ∷ qs) → Outside q ps × Disjoint ps qs
first_off [] q qs h = (tt, tt)
first_off (p ∷ ps) q qs h = let (none, rest) = first_off ps q qs h.1 in ((λ e. h.0.0 (sym e), none), (h.0.1, rest))

turned : (ps qs : List ℕ) → Disjoint ps qs → Disjoint qs ps
turned ps [] h = tt
turned ps (q ∷ qs) h = let (none, rest) = first_off ps q qs h in (none, turned ps qs rest)

apart_turned : (l : Layout) (x y : FieldRecord) → Apart l x y → Apart l y x
apart_turned l x y a =
    record {
      bits_bits = turned (message_places l x) (message_places l y) a.bits_bits;
      bits_status = turned (its_status_places l x) (message_places l y) a.status_bits;
      status_bits = turned (message_places l x) (its_status_places l y) a.bits_status;
      status_status = turned (its_status_places l x) (its_status_places l y) a.status_status;
    }

-- ---- field d of frame f of a sound node, which was assembled into buffer b

module _ {n : Node} (s : Sound n) (f : ℕ) (b : List ℕ) (ok : assemble_answer n f (length b) ≡ 0) (d : ℕ)
    (mine : InFrame n f d) where
  abbrev laid : FieldRecord
  laid = laid_at n.layout d

  field : SoundField n.layout d laid
  field = s.layout.fields d ((fields_named s.layout (Owner.Frame f) d).0 mine).0

  -- what it writes at places that no other field of the frame uses stands there
  stands : (ps : List ℕ) (v : ℕ) → ((c : List ℕ) → length c ≡ (frame_at n.layout laid.frame).length → unpacked ps (put n laid c) ≡ v)
      → ((e : ℕ) → (e ≡ d → ⊥) → InFrame n f e → Unused n ps (laid_at n.layout e))
      → unpacked ps (assembled n f b) ≡ v
  unfolding assembled
  stands ps v puts unused =
      let each = every_number (Keeps n f ps v) (frame_cells n f) (λ e t. keeps e t (ℕ_discrete e d)) in
      rw ok (written_makes n f ps v d makes (frame_cells n f) b (assemble_tests n f (length b) ok) each mine)
    where
      makes : (c : List ℕ) → Sized n f c → unpacked ps (after n f laid c) ≡ v
      makes c size = let there = in_frame_lem n f d mine in rw (writes_put n f laid c size there) (puts c (rw there size))

      keeps : (e : ℕ) → InFrame n f e → Dec (e ≡ d) → Keeps n f ps v e
      keeps e t (yes h) = λ c size u. rw h (makes c size)
      keeps e t (no h) = unused_keeps n f ps v e t (unused e h t)

  others_apart : (e : ℕ) → (e ≡ d → ⊥) → InFrame n f e → Apart n.layout laid (laid_at n.layout e)
  others_apart e h t = go (dec_lt d e)
    where
      same : laid.frame ≡ (laid_at n.layout e).frame
      same = in_frame_lem n f d mine ∙ sym (in_frame_lem n f e t)

      go : Dec (d < e) → Apart n.layout laid (laid_at n.layout e)
      go (yes l) = s.layout.apart d e l ((fields_named s.layout (Owner.Frame f) e).0 t).0 same
      go (no l) =
          apart_turned n.layout _ _
          (s.layout.apart e d (omega arith) ((fields_named s.layout (Owner.Frame f) d).0 mine).0 (sym same))

  -- its message's held value
  pub held_stands : value_of (is_signed (field_message n laid)) (field_message n laid).width (unpacked (message_places n.layout laid) (assembled n f b))
      ≡ held_value (field_message n laid) (field_state n laid)
  held_stands =
      rw (stands (message_places n.layout laid) _ (put_held n field) (λ e h t. let a = others_apart e h t in (a.bits_bits, a.bits_status)))
      (held_value_lem (field_message n laid) (field_state n laid) (s.state.messages laid.message field.message)
      (in_frame_bounds _ _ _ field.lies).0)

  -- and its validity, where it has a status bit
  pub status_stands : laid.status ≡ 1 → unpacked (its_status_places n.layout laid) (assembled n f b) ≡ cond (is_valid (field_state n laid)) 1 0
  status_stands t =
      stands (its_status_places n.layout laid) _ (λ c size. put_status n field c size t)
      (λ e h u. let a = others_apart e h u in (a.status_bits, a.status_status))

-- ---- receiving

pub received_status : {n : Node} → Sound n → (m : ℕ) → m < n.layout.message_number → is_sent (message_at n.layout m) ≡ false
    → IsStatus (receive_answer n m)
unfolding receive_answer
received_status {n} s m l r = rw (lt-ltb m (message_count n.layout) (omega arith), r) (s.state.messages m l).status
