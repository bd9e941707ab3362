-- A record's bytes by themselves are read as those of record 0.
-- Assumes nothing.
use mathlib.Core.Path.{◌≡◌, refl, ◌∙◌}
use mathlib.Core.List.{List}
use Prim.Native.Nat.{ℕ, ◌+◌, ◌*◌, ◌<◌}
use native.Mathlib.Omega.{arith}
use lib.ListN.{drop}
use lib.Seq.{get_or-take, get_or-drop}
use Rattle.record.specs.Records.{byte_at, record_bytes, word_at, is_frame, is_message, frame_at, message_at, field_at, record_at}
use Rattle.record.specs.declared.Field.{Field}
use Rattle.record.specs.declared.Record.{Record}

module _ (s : List ℕ) (i : ℕ) where
  pub own_byte : (k : ℕ) → k < 24 → byte_at (record_bytes s i) 0 k ≡ byte_at s i k
  unfolding byte_at record_bytes
  own_byte k l = let e : 0 * 24 + k ≡ k = omega arith in rw e (get_or-take 24 (drop (i * 24) s) k 0 l ∙ get_or-drop (i * 24) s k 0)

  own_word : (k : ℕ) → k + 3 < 24 → word_at (record_bytes s i) 0 k ≡ word_at s i k
  unfolding word_at
  own_word k l =
      rw (own_byte k (omega arith), own_byte (k + 1) (omega arith), own_byte (k + 2) (omega arith), own_byte (k + 3) (omega arith)) refl

  pub own_frame : frame_at (record_bytes s i) 0 ≡ frame_at s i
  unfolding frame_at
  own_frame =
      rw (own_byte 1 (omega arith), own_byte 2 (omega arith), own_byte 3 (omega arith), own_byte 4 (omega arith), own_byte 5 (omega arith)) refl

  pub own_message : message_at (record_bytes s i) 0 ≡ message_at s i
  unfolding message_at
  own_message =
      rw (
        own_byte 1 (omega arith),
        own_byte 2 (omega arith),
        own_byte 3 (omega arith),
        own_byte 4 (omega arith),
        own_byte 5 (omega arith),
        own_byte 6 (omega arith),
        own_word 8 (omega arith),
        own_word 12 (omega arith),
        own_word 16 (omega arith),
      )
      refl

  pub own_field : field_at (record_bytes s i) 0 ≡ field_at s i
  unfolding field_at
  own_field =
      rw (own_byte 1 (omega arith), own_byte 2 (omega arith), own_byte 3 (omega arith), own_byte 4 (omega arith), own_byte 5 (omega arith)) refl

  pub own_record : record_at (record_bytes s i) 0 ≡ record_at s i
  unfolding record_at is_frame is_message
  own_record = rw (own_byte 0 (omega arith), own_frame, own_message, own_field) refl

-- what is read of them is what the file says
module _ (s : List ℕ) (i : ℕ) {t : List ℕ} (own : t ≡ record_bytes s i) where
  pub byte_read : {x : ℕ} (k : ℕ) → k < 24 → x ≡ byte_at t 0 k → x ≡ byte_at s i k
  byte_read k l read = read ∙ rw own (own_byte s i k l)

  pub field_read : {x : Field} → x ≡ field_at t 0 → x ≡ field_at s i
  field_read read = read ∙ rw own (own_field s i)

  pub record_read : {x : Record} → x ≡ record_at t 0 → x ≡ record_at s i
  record_read read = read ∙ rw own (own_record s i)
