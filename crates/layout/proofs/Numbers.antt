-- The numbers of the refusals are 1 to 10.
-- Assumes nothing.
use Prim.Native.Nat.{ℕ, ◌≤◌}
use native.Mathlib.Omega.{arith}
use Rattle.ranges.specs.declared.Fault.{Fault}
use Rattle.layout.specs.Numbers.{fault_number, number_of}
use Rattle.layout.specs.declared.Refusal.{Refusal}

abbrev ToTen : ℕ → Type 0
ToTen n = (1 ≤ n) × (n ≤ 10)

fault_number_lem : (f : Fault) → ToTen (fault_number f)
fault_number_lem Fault.Range = (omega arith, omega arith)
fault_number_lem Fault.Reserved = (omega arith, omega arith)
fault_number_lem Fault.Unused = (omega arith, omega arith)
fault_number_lem Fault.Width = (omega arith, omega arith)

pub number_to_ten : (n : Refusal) → ToTen (number_of n)
number_to_ten Refusal.Size = (omega arith, omega arith)
number_to_ten Refusal.Order = (omega arith, omega arith)
number_to_ten (Refusal.Byte wrong) = fault_number_lem wrong.fault
number_to_ten Refusal.Ref = (omega arith, omega arith)
number_to_ten Refusal.Group = (omega arith, omega arith)
number_to_ten Refusal.Place = (omega arith, omega arith)
number_to_ten Refusal.NoField = (omega arith, omega arith)
