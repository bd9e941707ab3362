-- Which frames are suppressed: event frames in which a field lies, and only fields of invalid messages. A test of all fields of a frame is one of each
-- cell that lies in it. And what an assembly of such a frame answers.
-- Assumes nothing.
use mathlib.Core.Path.{◌≡◌, refl}
use mathlib.Core.Bool.{true, false, not, cond, and-eq-true_iff, false≢true}
use mathlib.Core.List.{List, [], ◌∷◌, map}
use mathlib.Core.Logic.{◌↔◌}
use Prim.Native.Nat.{ℕ, ◌<◌}
use borrow.Author.Tests.{eq-eqb, lt-ltb, not-true}
use Rattle.whole.specs.Whole.{all_of}
use Rattle.record.specs.declared.Field.{Field as FieldRecord}
use Rattle.store.specs.Node.{Node, frame_count, is_sent_frame, is_event, is_valid, frame_at, laid_at}
use Rattle.own.specs.declared.Owner.{Owner}
use Rattle.own.specs.Own.{is_in, cells_of, fields_of}
use Rattle.own.proofs.Lists.{all_in}
use Rattle.own.proofs.Tables.{all_map}
use Rattle.node.specs.Calls.{is_empty, invalid_in, all_invalid, suppressed, assemble_answer}
use Rattle.node.specs.Claims.{InFrame, field_state}

has_one : (at : ℕ → FieldRecord) (l : List ℕ) → (not (is_empty (map at l)) ≡ true) ↔ ((d : ℕ) × (is_in d l ≡ true))
unfolding is_in
has_one at [] = (λ t. absurd (false≢true t), λ h. h.1)
has_one at (d ∷ l) = (λ t. (d, rw (eq-eqb d d refl) refl), λ h. refl)

module _ (n : Node) (f : ℕ) where
  abbrev cells : List ℕ
  cells = cells_of n.layout (Owner.Frame f)

  abbrev fields : List FieldRecord
  fields = fields_of n.layout (Owner.Frame f)

  each_invalid : (all_of (invalid_in n.state) fields ≡ true) ↔ ((d : ℕ) → InFrame n f d → invalid_in n.state (laid_at n.layout d) ≡ true)
  each_invalid = rw (all_map (laid_at n.layout) (invalid_in n.state) cells) (all_in (λ d. invalid_in n.state (laid_at n.layout d)) cells)

  pub suppressed_if : (suppressed n f ≡ true) ↔ ((is_event (frame_at n.layout f) ≡ true)
      × ((d : ℕ) × InFrame n f d) × ((d : ℕ) → InFrame n f d → is_valid (field_state n (laid_at n.layout d)) ≡ false))
  unfolding suppressed
  suppressed_if =
      let event = and-eq-true_iff (is_event (frame_at n.layout f)) (all_invalid n.state fields) in
      let both = and-eq-true_iff (not (is_empty fields)) (all_of (invalid_in n.state) fields) in
      let one = has_one (laid_at n.layout) cells in (
        λ t.
            let (is-event, rest) = event.0 t in
            let (some, all) = both.0 rest in
            (is-event, one.0 some, λ d i. not-true _ (each_invalid.0 all d i)),
        λ h. event.1 (h.0, both.1 (one.1 h.1, each_invalid.1 (λ d i. rw (h.2 d i) refl))),
      )

  pub suppressed_answer : (size : ℕ) → f < frame_count n.layout → is_sent_frame (frame_at n.layout f) ≡ true
      → size ≡ (frame_at n.layout f).length → assemble_answer n f size ≡ cond (suppressed n f) 23 0
  unfolding assemble_answer
  suppressed_answer size known sent e = rw (lt-ltb f (frame_count n.layout) known, sent, eq-eqb size (frame_at n.layout f).length e) refl
