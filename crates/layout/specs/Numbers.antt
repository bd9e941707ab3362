-- The paper's number of each refusal, and the byte that it gives.
-- Assumes nothing.
use Rattle.std.specs.Prelude.{ℕ}
use Rattle.ranges.specs.declared.Fault.{Fault}
use Rattle.layout.specs.declared.Refusal.{Refusal}

-- 3 RANGE, 8 RESERVED, 9 UNUSED, 10 WIDTH
abbrev pub fault_number : Fault → ℕ
fault_number Fault.Range = 3
fault_number Fault.Reserved = 8
fault_number Fault.Unused = 9
fault_number Fault.Width = 10

-- and the others: 1 SIZE, 2 ORDER, 4 REF, 5 GROUP, 6 PLACE, 7 NOFIELD
abbrev pub number_of : Refusal → ℕ
number_of Refusal.Size = 1
number_of Refusal.Order = 2
number_of (Refusal.Byte wrong) = fault_number wrong.fault
number_of Refusal.Ref = 4
number_of Refusal.Group = 5
number_of Refusal.Place = 6
number_of Refusal.NoField = 7

-- the byte that it gives, or 0 where it gives none
abbrev pub byte_of : Refusal → ℕ
byte_of Refusal.Size = 0
byte_of Refusal.Order = 0
byte_of (Refusal.Byte wrong) = wrong.byte
byte_of Refusal.Ref = 0
byte_of Refusal.Group = 0
byte_of Refusal.Place = 0
byte_of Refusal.NoField = 0
