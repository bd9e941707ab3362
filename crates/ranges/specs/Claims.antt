-- What is found at a byte of a record, in the paper's words: each of the four ways in which it can be wrong. Each line is a theorem; proofs/Ways.antt
-- has the proofs.
-- Assumes nothing.
use Rattle.std.specs.Prelude.{◌≡◌, Bool, true, false, cond, ◌||◌, List, ◌↔◌, ℕ, ◌<◌, leb, Ok, Err}
use Rattle.record.specs.Numbers.{within}
use Rattle.record.specs.Records.{byte_at, is_message, message_at}
use Rattle.ranges.specs.Ranges.{uses_x1, uses_x2, word_fits, finding_at}
use Rattle.record.specs.declared.Message.{Message}
use Rattle.ranges.specs.declared.Fault.{Fault}

-- the paper's table names byte k: 0 to 6 and 8 to 19 of a message, 0 to 5 of any other record
abbrev pub named : Bool → ℕ → Bool
named message k = cond message (leb k 6 || within 8 19 k) (leb k 5)

-- x is the word of message g that begins at byte k, and `used` says whether it is used: x1, x2, and the initial value, which always is
pub data WordAt (g : Message) (k : ℕ) (used : Bool) (x : ℕ) : Type 0 where
  x1 : k ≡ 8 → used ≡ uses_x1 g.filter → x ≡ g.x1 → WordAt g k used x
  x2 : k ≡ 12 → used ≡ uses_x2 g.filter → x ≡ g.x2 → WordAt g k used x
  initial : k ≡ 16 → used ≡ true → x ≡ g.initial → WordAt g k used x

-- byte k of record i is the first of a word of a message that is not used and not zero
pub record UnusedWord (s : List ℕ) (i k : ℕ) : Type 0 where
  pub message : is_message s i ≡ true
  pub used : Bool
  pub value : ℕ
  pub word : WordAt (message_at s i) k used value
  pub not_used : used ≡ false
  pub not_zero : value ≡ 0 → ⊥

-- it is the first of a word of a message that does not fit: not extended from the width, or a float's that is not finite; one that is not used is zero
pub record UnfitWord (s : List ℕ) (i k : ℕ) : Type 0 where
  pub message : is_message s i ≡ true
  pub used : Bool
  pub value : ℕ
  pub word : WordAt (message_at s i) k used value
  pub unfit : word_fits (message_at s i) value ≡ false
  pub not_unused : used ≡ false → value ≡ 0

pub record Claims : Type 0 where
  -- RESERVED: a byte that is not named, and not zero
  pub reserved : (s : List ℕ) (i k : ℕ)
      → (finding_at s i k ≡ Err Fault.Reserved) ↔ ((named (is_message s i) k ≡ false) × (byte_at s i k ≡ 0 → ⊥))
  -- UNUSED: a word that the filter does not use, and not zero
  pub unused : (s : List ℕ) (i k : ℕ) → (finding_at s i k ≡ Err Fault.Unused) ↔ UnusedWord s i k
  -- WIDTH: a word that does not fit, and is not UNUSED
  pub width : (s : List ℕ) (i k : ℕ) → (finding_at s i k ≡ Err Fault.Width) ↔ UnfitWord s i k
  -- RANGE for the rest: a byte that is named, belongs to no word and is not right; the words begin at byte 8, and other records name none from there on
  pub range : (s : List ℕ) (i k : ℕ)
      → (finding_at s i k ≡ Err Fault.Range) ↔ ((named (is_message s i) k ≡ true) × (k < 8) × (finding_at s i k ≡ Ok tt → ⊥))
