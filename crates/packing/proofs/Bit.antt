-- One bit of a number, read by `bit_of` and replaced by `with_bit`. Each law goes by induction on the bit's number: bit 0 is the number modulo 2,
-- and a higher bit is one of the number halved.
-- Assumes nothing.
use mathlib.Core.Path.{◌≡◌, refl, sym, ap, ◌∙◌}
use Prim.Native.Nat.{ℕ, zero, suc, ◌+◌, ◌*◌, ◌/◌, ◌%◌, ◌^◌, ◌<◌, ◌≤◌}
use native.Mathlib.Nat.{div-div-eq-div-mul, div-mul-le_self, mod-le, mod-lt, mul_assoc, mul-le-mul_right, pow-suc, pow-succ'}
use native.Mathlib.Nat.{le_trans, not-suc-le-zero, zero-lt-suc}
use native.Mathlib.Omega.{arith}
use lib.Pow.{high, shr-shr, split}
use Rattle.packing.specs.Places.{bit_of, with_bit}

-- ---- a bit, and the number halved

pub bit_below : (x k : ℕ) → bit_of x k < 2
unfolding bit_of
bit_below x k = mod-lt (x / 2 ^ k) (zero-lt-suc 1)

-- what a bit weighs is part of the number
pub bit_weight : (x k : ℕ) → bit_of x k * 2 ^ k ≤ x
unfolding bit_of
bit_weight x k = le_trans (mul-le-mul_right (2 ^ k) (mod-le (x / 2 ^ k) 2)) (div-mul-le_self x (2 ^ k))

pub bit_zero : (x : ℕ) → bit_of x 0 ≡ x % 2
unfolding bit_of
bit_zero x = omega arith

pub bit_suc : (x k : ℕ) → bit_of x (suc k) ≡ bit_of (x / 2) k
unfolding bit_of
bit_suc x k = rw (pow-succ', ← div-div-eq-div-mul x 2 (2 ^ k))

with_zero : (x b : ℕ) → with_bit x 0 b ≡ x / 2 * 2 + b
unfolding with_bit
with_zero x b = omega (arith, bit_zero x)

with_suc : (x k b : ℕ) → with_bit x (suc k) b ≡ with_bit (x / 2) k b * 2 + x % 2
unfolding with_bit
with_suc x k b =
    let old : bit_of x (suc k) * 2 ^ suc k ≡ bit_of (x / 2) k * 2 ^ k * 2 = rw (bit_suc, pow-suc) (sym (mul_assoc _ _ _)) in
    let new : b * 2 ^ suc k ≡ b * 2 ^ k * 2 = rw pow-suc (sym (mul_assoc _ _ _)) in
    omega (arith, bit_weight (x / 2) k)

-- the number halved, after its bit 0 or a higher one is replaced
half_zero : (x b : ℕ) → b < 2 → with_bit x 0 b / 2 ≡ x / 2
half_zero x b h = omega (arith, with_zero x b)

half_suc : (x k b : ℕ) → with_bit x (suc k) b / 2 ≡ with_bit (x / 2) k b
half_suc x k b = omega (arith, with_suc x k b)

-- ---- two numbers side by side

-- y above n bits of x
above : (n y : ℕ) → y * 2 ^ suc n ≡ y * 2 ^ n * 2
above n y = rw pow-suc (sym (mul_assoc _ _ _))

pub bit_low : (n y x m : ℕ) → m < n → bit_of (y * 2 ^ n + x) m ≡ bit_of x m
bit_low zero y x m h = absurd (not-suc-le-zero h)
bit_low (suc n) y x zero h = omega (arith, bit_zero (y * 2 ^ suc n + x), bit_zero x, above n y)
bit_low (suc n) y x (suc m) h =
    let half : (y * 2 ^ suc n + x) / 2 ≡ y * 2 ^ n + x / 2 = omega (arith, above n y) in
    bit_suc (y * 2 ^ suc n + x) m ∙ rw half (bit_low n y (x / 2) m (omega arith)) ∙ sym (bit_suc x m)

pub bit_high : (n y x m : ℕ) → x < 2 ^ n → bit_of (y * 2 ^ n + x) (n + m) ≡ bit_of y m
unfolding bit_of
bit_high n y x m h = rw (← shr-shr (y * 2 ^ n + x) n m, high y n h)

-- the lowest n bits
pub bit_lowest : (n v m : ℕ) → m < n → bit_of (v % 2 ^ n) m ≡ bit_of v m
bit_lowest n v m h = sym (bit_low n (v / 2 ^ n) (v % 2 ^ n) m h) ∙ ap (λ (x : ℕ). bit_of x m) (split v n)

-- a number of n bits is known by them
pub same_bits : (n x y : ℕ) → x < 2 ^ n → y < 2 ^ n → ((k : ℕ) → k < n → bit_of x k ≡ bit_of y k) → x ≡ y
same_bits zero x y h l e = omega arith
same_bits (suc n) x y h l e =
    let halves : x / 2 ≡ y / 2 =
    same_bits n (x / 2) (y / 2) (omega (arith, pow-suc 2 n)) (omega (arith, pow-suc 2 n))
    (λ k b. sym (bit_suc x k) ∙ e (suc k) (omega arith) ∙ bit_suc y k)
    in
    omega (arith, e 0 (omega arith), bit_zero x, bit_zero y)

-- ---- a bit replaced

pub bit_same : (x k b : ℕ) → b < 2 → bit_of (with_bit x k b) k ≡ b
bit_same x zero b h = omega (arith, bit_zero (with_bit x 0 b), with_zero x b)
bit_same x (suc k) b h = bit_suc (with_bit x (suc k) b) k ∙ rw half_suc (bit_same (x / 2) k b h)

pub bit_other : (x j k b : ℕ) → b < 2 → (j ≡ k → ⊥) → bit_of (with_bit x k b) j ≡ bit_of x j
bit_other x zero zero b h n = absurd (n refl)
bit_other x zero (suc k) b h n = omega (arith, bit_zero (with_bit x (suc k) b), bit_zero x, with_suc x k b)
bit_other x (suc j) zero b h n = bit_suc (with_bit x 0 b) j ∙ rw half_zero (sym (bit_suc x j))
bit_other x (suc j) (suc k) b h n =
    bit_suc (with_bit x (suc k) b) j ∙ rw half_suc (bit_other (x / 2) j k b h (λ e. n (ap suc e))) ∙ sym (bit_suc x j)

-- two bits are replaced in either order
first_zero : (x k a b : ℕ) → a < 2 → with_bit (with_bit x 0 a) (suc k) b ≡ with_bit (with_bit x (suc k) b) 0 a
first_zero x k a b h =
    with_suc (with_bit x 0 a) k b
    ∙ rw (half_zero x a h) (omega (arith, with_zero x a, with_zero (with_bit x (suc k) b) a, half_suc x k b))

pub with_exchange : (x j k a b : ℕ) → a < 2 → b < 2 → (j ≡ k → ⊥) → with_bit (with_bit x j a) k b ≡ with_bit (with_bit x k b) j a
with_exchange x zero zero a b p q n = absurd (n refl)
with_exchange x zero (suc k) a b p q n = first_zero x k a b p
with_exchange x (suc j) zero a b p q n = sym (first_zero x j b a q)
with_exchange x (suc j) (suc k) a b p q n =
    let halves : with_bit (with_bit (x / 2) j a) k b ≡ with_bit (with_bit (x / 2) k b) j a = with_exchange (x / 2) j k a b p q (λ e. n (ap suc e)) in
    let left = rw half_suc at (with_suc (with_bit x (suc j) a) k b) in
    let right = rw half_suc at (with_suc (with_bit x (suc k) b) j a) in
    omega (arith, with_suc x j a, with_suc x k b)

-- a number of n bits stays one
pub with_below : (n x k b : ℕ) → x < 2 ^ n → k < n → b < 2 → with_bit x k b < 2 ^ n
with_below zero x k b h l q = absurd (not-suc-le-zero l)
with_below (suc n) x zero b h l q = omega (arith, with_zero x b, pow-suc 2 n)
with_below (suc n) x (suc k) b h l q =
    let half : with_bit (x / 2) k b < 2 ^ n = with_below n (x / 2) k b (omega (arith, pow-suc 2 n)) (omega arith) q in
    omega (arith, with_suc x k b, pow-suc 2 n)
