-- `Field::pack` meets its contract: the mask has the field's bits, no shift loses one, and the field's bits put there are what `packed` says.
-- Assumes nothing.
use borrow.Author.Rules.{rules}
use mathlib.Core.Path.{◌≡◌}
use Prim.Native.Nat.{ℕ, ◌+◌, ◌-◌, ◌*◌, ◌/◌, ◌%◌, ◌^◌, ◌<◌, ◌≤◌}
use native.Mathlib.Nat.{lt_of_lt_of_le, mod-lt}
use native.Mathlib.Omega.{arith}
use lib.Bits.{bit_and, and_mask}
use lib.Pow.{ones_lt, pow_mono, pow_pos, shl_exact, shl_lt}
use Rattle.packing.specs.Window.{with_replaced}
use Rattle.packing.proofs.Windows.{field_in_mask, packed_window, power}
use Rattle.packing.proofs.Field.pack.Goals.{After-low_bit_in_byte-k}
use Rattle.packing.proofs.Field.pack.Goals as goal

-- the code's mask and bits
mask : (k n : ℕ) → k < 8 → n ≤ 32 → (1 * 2 ^ n % 2 ^ 64 - 1) * 2 ^ k % 2 ^ 64 ≡ (2 ^ n - 1) * 2 ^ k
mask k n h l = rw (power n l) (shl_exact n k 64 (ones_lt n) (omega arith))

bits : (k n v : ℕ) → k < 8 → n ≤ 32 → bit_and v (1 * 2 ^ n % 2 ^ 64 - 1) * 2 ^ k % 2 ^ 64 ≡ v % 2 ^ n * 2 ^ k
bits k n v h l = rw (power n l, and_mask v n) (shl_exact n k 64 (mod-lt v (pow_pos n)) (omega arith))

pub put-requires : goal.put-requires
put-requires c =
    let a = c.args in
    let k = c.low_bit_in_byte-k.result in
    let w = a.self.width in
    rw (mask k w (omega arith) (omega arith), bits k w a.pattern (omega arith) (omega arith))
    (search rules, lt_of_lt_of_le (shl_lt w k (ones_lt w)) (pow_mono (omega arith)), field_in_mask k w a.pattern)

pub returns : goal.returns
unfolding with_replaced
returns c =
    let a = c.args in
    let first = a.self.start / 8 in
    let past = (a.self.start + a.self.width + 7) / 8 in
    let k = c.low_bit_in_byte-k.result in
    rw (
      c.put.ensures,
      mask k a.self.width (omega arith) (omega arith),
      bits k a.self.width a.pattern (omega arith) (omega arith),
      c.low_bit_in_byte-k.ensures.0,
      c.end-end.ensures,
    )
    (packed_window a.self.big first past a.self.start a.self.width (omega arith) (omega arith) a.pattern a.frame.now
    (λ i. ((goal.at.returns c).After-low_bit_in_byte-k.type_inv.frame i).fits) (omega arith))
