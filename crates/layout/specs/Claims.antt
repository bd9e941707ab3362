-- What holds of every verdict. Each line is a theorem; proofs/Claims.antt says where it is proved.
-- Assumes nothing.
use Rattle.std.specs.Prelude.{◌≡◌, List, [], ◌∷◌, map, ◌↔◌, ℕ, ◌<◌, ◌≤◌, Ok, Err}
use Rattle.ranges.specs.declared.Fault.{Fault}
use Rattle.ranges.specs.Ranges.{wrong_byte}
use Rattle.layout.specs.Counts.{counts}
use Rattle.layout.specs.Numbers.{number_of}
use Rattle.layout.specs.Verdict.{refused_at, verdict}
use Rattle.layout.specs.Refusals.{Demanded}
use Rattle.layout.specs.WellLaid.{WellLaid}
use Rattle.layout.specs.declared.Refusal.{Refusal}

pub record Claims : Type 0 where
  -- Exactly the files that are well laid out are accepted, and exactly the refusals that the paper demands are given
  pub accepted : (s : List ℕ) (F M D : ℕ) → (verdict s ≡ Ok (counts F M D)) ↔ WellLaid s F M D
  pub refused : (s : List ℕ) (n : Refusal) (r : ℕ) → (verdict s ≡ Err (refused_at n r)) ↔ Demanded s n r
  -- The record is at most 192. A byte that is given is one of 1 to 23: never byte 0, the kind, so that 0 can say that none is given
  pub record_given : (s : List ℕ) (n : Refusal) (r : ℕ) → verdict s ≡ Err (refused_at n r) → r ≤ 192
  pub byte_given : (s : List ℕ) (fault : Fault) (k r : ℕ) → verdict s ≡ Err (refused_at (Refusal.Byte (wrong_byte fault k)) r) → (1 ≤ k) × (k < 24)
  -- The ten refusals by their numbers, whichever byte is given
  pub numbers : (k : ℕ)
      → map number_of
      (Refusal.Size
      ∷ Refusal.Order
      ∷ Refusal.Byte (wrong_byte Fault.Range k)
      ∷ Refusal.Ref
      ∷ Refusal.Group
      ∷ Refusal.Place
      ∷ Refusal.NoField
      ∷ Refusal.Byte (wrong_byte Fault.Reserved k)
      ∷ Refusal.Byte (wrong_byte Fault.Unused k)
      ∷ Refusal.Byte (wrong_byte Fault.Width k)
      ∷ [])
      ≡ 1 ∷ 2 ∷ 3 ∷ 4 ∷ 5 ∷ 6 ∷ 7 ∷ 8 ∷ 9 ∷ 10 ∷ []
