-- What is wrong at each byte of a record, 0 to 23, and the lowest byte that is; what is wrong with a word stands at its first byte.
-- Assumes nothing.
use Rattle.std.specs.Prelude.{◌≡◌, Bool, true, false, not, cond, ◌&&◌, ◌||◌, List, [], ◌∷◌, ℕ, suc, ◌<◌, eqb, ltb, leb, get_or, Result, Ok, Err}
use Rattle.packing.specs.Values.{extended}
use Rattle.float.specs.Patterns.{aside}
use Rattle.record.specs.Numbers.{within, any_below, least_below}
use Rattle.record.specs.Records.{byte_at, frame_at, message_at, field_at}
use Rattle.record.specs.declared.Frame.{Frame}
use Rattle.record.specs.declared.Message.{Message}
use Rattle.record.specs.declared.Field.{Field}
use Rattle.ranges.specs.declared.Fault.{Fault}
use Rattle.ranges.specs.declared.RangeFault.{RangeFault}

-- what is found at a byte: that it is right, or how it is wrong
abbrev pub Finding : Type 0
Finding = Result (Unit {0}) Fault

-- what is found in a record: that all is right, or its lowest wrong byte
abbrev pub RecordFinding : Type 0
RecordFinding = Result (Unit {0}) RangeFault

-- this byte, wrong in this way
abbrev pub wrong_byte : Fault → ℕ → RangeFault
wrong_byte fault k = record { fault = fault; byte = k }

-- a byte that is wrong in this way where the test holds
unfoldable pub wrong_if : Bool → Fault → Finding
wrong_if wrong fault = cond wrong (Err fault) (Ok tt)

-- x1 serves filters 2, 3, 6, 7, 8, 9, and x2 serves 2, 3, 8, 9
abbrev pub uses_x1 : ℕ → Bool
uses_x1 filter = within 2 3 filter || within 6 9 filter

abbrev pub uses_x2 : ℕ → Bool
uses_x2 filter = within 2 3 filter || within 8 9 filter

-- filters 2, 3, 6, 7 are the masks
abbrev pub is_mask : ℕ → Bool
is_mask filter = within 2 3 filter || within 6 7 filter

-- sign 2 is that of a float
abbrev pub is_float : Message → Bool
is_float g = eqb g.sign 2

-- a word of a message fits: it is extended from the width, and that of a float is finite
unfoldable pub word_fits : Message → ℕ → Bool
word_fits g x = extended (eqb g.sign 1) g.width x && not (is_float g && aside x)

-- a word of a message: UNUSED where it is not used and not zero, and after that WIDTH where it does not fit
unfoldable pub word_finding : Message → Bool → ℕ → Finding
word_finding g used x = cond (not used && not (eqb x 0)) (Err Fault.Unused) (wrong_if (not (word_fits g x)) Fault.Width)

-- a frame's bytes 0 to 5: kind, number, length, order, direction, trigger
abbrev pub frame_findings : Frame → List Finding
frame_findings h =
    Ok tt
    ∷ wrong_if (ltb 31 h.number) Fault.Range
    ∷ wrong_if (not (within 1 32 h.length)) Fault.Range
    ∷ wrong_if (ltb 1 h.order) Fault.Range
    ∷ wrong_if (ltb 1 h.direction) Fault.Range
    ∷ wrong_if (ltb 1 h.trigger) Fault.Range
    ∷ []

-- a message's bytes 0 to 19: kind, number, width, sign, direction, agreement, filter, one not named, and the words x1, x2 and initial value;
-- a float has 32 bits, and takes no mask
abbrev pub message_findings : Message → Bool → List Finding
message_findings g other =
    Ok tt
    ∷ wrong_if (ltb 31 g.number) Fault.Range
    ∷ wrong_if (not (within 1 32 g.width)) Fault.Range
    ∷ wrong_if (ltb 2 g.sign || (is_float g && not (eqb g.width 32))) Fault.Range
    ∷ wrong_if (ltb 1 g.direction) Fault.Range
    ∷ wrong_if (ltb 2 g.agreement || (eqb g.direction 1 && not (eqb g.agreement 0))) Fault.Range
    ∷ wrong_if (ltb 13 g.filter || (is_float g && is_mask g.filter)) Fault.Range
    ∷ wrong_if other Fault.Reserved
    ∷ word_finding g (uses_x1 g.filter) g.x1 ∷ Ok tt ∷ Ok tt ∷ Ok tt
    ∷ word_finding g (uses_x2 g.filter) g.x2 ∷ Ok tt ∷ Ok tt ∷ Ok tt
    ∷ word_finding g true g.initial ∷ Ok tt ∷ Ok tt ∷ Ok tt
    ∷ []

-- a field's bytes 0 to 5: kind, message, frame and start bit, which have no range, status bit present, and its place, 0 if absent
abbrev pub field_findings : Field → List Finding
field_findings r =
    Ok tt
    ∷ Ok tt
    ∷ Ok tt
    ∷ Ok tt
    ∷ wrong_if (ltb 1 r.status) Fault.Range
    ∷ wrong_if (eqb r.status 0 && not (eqb r.place 0)) Fault.Range
    ∷ []

-- byte k of a frame, of a message and of a field: what its list says; a byte that is not named is RESERVED where it is not zero, which `other` says
unfoldable pub frame_finding : Frame → ℕ → Bool → Finding
frame_finding h k other = get_or (frame_findings h) k (wrong_if other Fault.Reserved)

unfoldable pub message_finding : Message → ℕ → Bool → Finding
message_finding g k other = get_or (message_findings g other) k (wrong_if other Fault.Reserved)

unfoldable pub field_finding : Field → ℕ → Bool → Finding
field_finding r k other = get_or (field_findings r) k (wrong_if other Fault.Reserved)

-- by the kind of the record
unfoldable pub finding_of : ℕ → Frame → Message → Field → ℕ → Bool → Finding
finding_of kind h g r k other = cond (eqb kind 1) (frame_finding h k other) (cond (eqb kind 2) (message_finding g k other) (field_finding r k other))

-- byte k of record i is not zero
abbrev pub nonzero_at : List ℕ → ℕ → ℕ → Bool
nonzero_at s i k = not (eqb (byte_at s i k) 0)

-- what is found at byte k of record i
unfoldable pub finding_at : List ℕ → ℕ → ℕ → Finding
finding_at s i k = finding_of (byte_at s i 0) (frame_at s i) (message_at s i) (field_at s i) k (nonzero_at s i k)

-- what is found at byte k where the bytes from a on are not named, and nothing is said of those before
unfoldable pub reserved_from : List ℕ → ℕ → ℕ → ℕ → Finding
reserved_from s i a k = wrong_if (leb a k && nonzero_at s i k) Fault.Reserved

-- ---- the lowest wrong byte, where p says what is found at each

-- a byte is wrong
abbrev pub is_wrong : Finding → Bool
is_wrong (Ok u) = false
is_wrong (Err fault) = true

unfoldable pub wrong_at : (ℕ → Finding) → ℕ → Bool
wrong_at p k = is_wrong (p k)

-- how byte k is wrong, with the byte
abbrev pub fault_at : ℕ → Finding → RecordFinding
fault_at k (Ok u) = Ok u
fault_at k (Err fault) = Err (wrong_byte fault k)

-- the first of two faults, where the earlier is one
abbrev pub or_else : RecordFinding → RecordFinding → RecordFinding
or_else (Ok u) later = later
or_else (Err e) later = Err e

-- the first that is wrong of what is found at bytes k, k + 1, ..
unfoldable pub first_wrong : ℕ → List Finding → RecordFinding
first_wrong k [] = Ok tt
first_wrong k (f ∷ l) = or_else (fault_at k f) (first_wrong (suc k) l)

-- the lowest of the 24 bytes that is wrong, and how it is
unfoldable pub lowest_fault : (ℕ → Finding) → RecordFinding
lowest_fault p = cond (any_below (wrong_at p) 24) (fault_at (least_below (wrong_at p) 24) (p (least_below (wrong_at p) 24))) (Ok tt)

-- what is wrong with record i, and at which byte
unfoldable pub range_fault : List ℕ → ℕ → RecordFinding
range_fault s i = lowest_fault (finding_at s i)

-- there is a wrong byte
abbrev pub is_fault : RecordFinding → Bool
is_fault (Ok u) = false
is_fault (Err e) = true

-- byte k is the lowest that is wrong, and it is wrong in this way
pub record LowestWrong (p : ℕ → Finding) (fault : Fault) (k : ℕ) : Type 0 where
  pub byte : k < 24
  pub wrong : p k ≡ Err fault
  pub lowest : (j : ℕ) → j < k → p j ≡ Ok tt

-- no byte is wrong
abbrev pub AllRight : (ℕ → Finding) → Type 0
AllRight p = (k : ℕ) → k < 24 → p k ≡ Ok tt
