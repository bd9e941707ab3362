-- Values and patterns: two's complement, there and back, for every width. A value in a message's range is one of small magnitude (`Held`), and a
-- pattern is read in the lower or in the upper half of the patterns. A pattern is extended to the 32-bit pattern of its value, so that what is
-- known of values and patterns says which 32-bit patterns are extended.
-- Assumes nothing.
use mathlib.Core.Path.{◌≡◌, refl, sym, ap, ◌∙◌}
use mathlib.Core.Bool.{Bool, true, false, false≢true, ◌&&◌, and-true, and-eq-true_iff}
use mathlib.Core.Logic.{◌↔◌}
use Prim.Native.Nat.{ℕ, zero, suc, ◌+◌, ◌-◌, ◌*◌, ◌/◌, ◌%◌, ◌^◌, ◌<◌, ◌≤◌}
use native.Mathlib.Nat.{add-mul, mod-eq_of_lt, mod-lt, pow-suc}
use native.Mathlib.Decide.{dec_lt}
use native.Mathlib.Omega.{arith}
use lib.Dec.{leb, eqb, leb-zero}
use lib.IntN.{ℤ, pos, negsuc, neg_ℤ, ◌-ℤ◌, nat_abs}
use lib.Pow.{low, mod-mod-pow, mod-pow-add, ones_split, ones_sub-lt, pow_mono, pow_pos}
use lib.Signed.{le_z, mag}
use borrow.Author.Tests.{eqb-true, eq-eqb, leb-true, le-leb, le-ltb, lt-ltb}
use Rattle.packing.specs.Values.{is_width, least, greatest, in_range, value_of, pattern_of, extend, extended}

-- ---- the values of a width

pub width_bounds : (w : ℕ) → is_width w ≡ true → (1 ≤ w) × (w ≤ 32)
unfolding is_width
width_bounds w t =
    let both = (and-eq-true_iff (leb 1 w) (leb w 32)).0 t in
    (leb-true 1 w both.0, leb-true w 32 both.1)

-- the least value of a signed message
pub least_signed : (w : ℕ) → least true w ≡ negsuc (2 ^ (w - 1) - 1)
unfolding least
least_signed w = go (2 ^ (w - 1)) (pow_pos (w - 1))
  where
    go : (n : ℕ) → 0 < n → neg_ℤ (pos n) ≡ negsuc (n - 1)
    go zero h = absurd (omega arith)
    go (suc n) h = ap negsuc (omega arith)

pub half_power : (w : ℕ) → 1 ≤ w → 2 ^ w ≡ 2 ^ (w - 1) * 2
half_power zero h = absurd (omega arith)
half_power (suc w) h = let e : suc w - 1 ≡ w = omega arith in rw e (pow-suc 2 w)

-- the range by the magnitude, which of a negative value is the distance from -1
abbrev Held : Bool → ℕ → ℤ → Type 0
Held true w z = mag z < 2 ^ (w - 1)
Held false w (pos n) = n < 2 ^ w
Held false w (negsuc n) = ⊥

below_power : (n k : ℕ) → (leb n (2 ^ k - 1) ≡ true) ↔ (n < 2 ^ k)
below_power n k = (λ t. omega (arith, leb-true n (2 ^ k - 1) t, pow_pos k), λ h. le-leb n (2 ^ k - 1) (omega arith))

bounds : (signed : Bool) (w : ℕ) (z : ℤ) → (le_z (least signed w) z && le_z z (greatest signed w) ≡ true) ↔ Held signed w z
unfolding greatest
bounds true w (pos n) = rw least_signed (below_power n (w - 1))
bounds true w (negsuc n) = rw (least_signed w, and-true) (below_power n (w - 1))
bounds false w (pos n) = unfold least in rw leb-zero (below_power n w)
bounds false w (negsuc n) = unfold least in (λ t. absurd (false≢true t), λ h. absurd h)

range_held : (signed : Bool) (w : ℕ) (z : ℤ) → (in_range signed w z ≡ true) ↔ ((is_width w ≡ true) × Held signed w z)
unfolding in_range
range_held signed w z =
    let both = and-eq-true_iff (is_width w) (le_z (least signed w) z && le_z z (greatest signed w)) in
    let held = bounds signed w z in
    (λ t. ((both.0 t).0, held.0 (both.0 t).1), λ h. both.1 (h.0, held.1 h.1))

-- ---- the value of a pattern, in the lower and in the upper half

pub value_low : (w v : ℕ) → v * 2 < 2 ^ w → value_of true w v ≡ pos v
unfolding value_of
value_low w v h = rw (lt-ltb (v * 2) (2 ^ w) h)

value_high : (w v : ℕ) → v < 2 ^ w → 2 ^ w ≤ v * 2 → value_of true w v ≡ negsuc (2 ^ w - suc v)
unfolding value_of
value_high w v h l = rw (le-ltb (v * 2) (2 ^ w) l) (minus (2 ^ w) h)
  where
    minus : (n : ℕ) → v < n → pos v -ℤ pos n ≡ negsuc (n - suc v)
    minus zero k = absurd (omega arith)
    minus (suc n) k = rw (lt-ltb v (suc n) k)

-- ---- patterns

pub pattern_below : (w : ℕ) (z : ℤ) → pattern_of w z < 2 ^ w
unfolding pattern_of
pattern_below w (pos n) = mod-lt n (pow_pos w)
pattern_below w (negsuc n) = ones_sub-lt w (n % 2 ^ w)

-- the lowest bits of a longer pattern
complement_lowest : (j w n : ℕ) → (2 ^ (j + w) - 1 - n % 2 ^ (j + w)) % 2 ^ w ≡ 2 ^ w - 1 - n % 2 ^ w
complement_lowest j w n =
    let high : ℕ = n / 2 ^ w % 2 ^ j in
    let rest : ℕ = 2 ^ j - 1 - high in
    let whole : rest + high ≡ 2 ^ j - 1 = omega (arith, mod-lt (n / 2 ^ w) (pow_pos j)) in
    let parts : (2 ^ j - 1) * 2 ^ w ≡ rest * 2 ^ w + high * 2 ^ w =
    ap (λ (k : ℕ). k * 2 ^ w) (sym whole) ∙ add-mul rest high (2 ^ w) in
    let taken : 2 ^ (j + w) - 1 - n % 2 ^ (j + w) ≡ rest * 2 ^ w + (2 ^ w - 1 - n % 2 ^ w) =
    omega (arith, ones_split j w, mod-pow-add n j w, mod-lt n (pow_pos w)) in
    rw taken (low rest w (ones_sub-lt w (n % 2 ^ w)))

pub pattern_lowest : (m w : ℕ) (z : ℤ) → w ≤ m → pattern_of m z % 2 ^ w ≡ pattern_of w z
unfolding pattern_of
pattern_lowest m w z h = let e : m - w + w ≡ m = omega arith in rw e at (longer z)
  where
    longer : (z : ℤ) → pattern_of (m - w + w) z % 2 ^ w ≡ pattern_of w z
    longer (pos n) = mod-mod-pow n (m - w) w
    longer (negsuc n) = complement_lowest (m - w) w n

-- ---- there and back

pub pattern_value : (signed : Bool) (w v : ℕ) → v < 2 ^ w → pattern_of w (value_of signed w v) ≡ v
unfolding pattern_of value_of
pattern_value false w v h = mod-eq_of_lt h
pattern_value true w v h = go (dec_lt (v * 2) (2 ^ w))
  where
    go : Dec (v * 2 < 2 ^ w) → pattern_of w (value_of true w v) ≡ v
    go (yes l) = rw (value_low w v l) (mod-eq_of_lt h)
    go (no l) =
        let least : 2 ^ w - suc v < 2 ^ w = omega arith in
        rw (value_high w v h (omega arith), mod-eq_of_lt least) (omega arith)

pub value_pattern : (signed : Bool) (w : ℕ) (z : ℤ) → in_range signed w z ≡ true → value_of signed w (pattern_of w z) ≡ z
unfolding pattern_of value_of
value_pattern signed w z t =
    let held = (range_held signed w z).0 t in
    go signed z (half_power w (width_bounds w held.0).0) held.1
  where
    go : (s : Bool) (z : ℤ) → 2 ^ w ≡ 2 ^ (w - 1) * 2 → Held s w z → value_of s w (pattern_of w z) ≡ z
    go false (pos n) e h = ap pos (mod-eq_of_lt h)
    go false (negsuc n) e h = absurd h
    go true (pos n) e h =
        let small : n % 2 ^ w ≡ n = mod-eq_of_lt (omega arith) in
        rw small (value_low w n (omega arith))
    go true (negsuc n) e h =
        let small : n % 2 ^ w ≡ n = mod-eq_of_lt (omega arith) in
        let again : 2 ^ w - suc (2 ^ w - 1 - n) ≡ n = omega arith in
        rw small (value_high w (2 ^ w - 1 - n) (omega arith) (omega arith) ∙ ap negsuc again)

pub value_range : (signed : Bool) (w v : ℕ) → is_width w ≡ true → v < 2 ^ w → in_range signed w (value_of signed w v) ≡ true
unfolding value_of
value_range false w v i h = (range_held false w (pos v)).1 (i, h)
value_range true w v i h = (range_held true w (value_of true w v)).1 (i, go (dec_lt (v * 2) (2 ^ w)) (half_power w (width_bounds w i).0))
  where
    go : Dec (v * 2 < 2 ^ w) → 2 ^ w ≡ 2 ^ (w - 1) * 2 → mag (value_of true w v) < 2 ^ (w - 1)
    go (yes l) e = rw (value_low w v l) (omega arith)
    go (no l) e = rw (value_high w v h (omega arith)) (omega arith)

-- a value lies within 2^32 of zero, whatever the width
difference_near : (v n : ℕ) → n ≤ v * 2 → nat_abs (pos v -ℤ pos n) ≤ v
difference_near v zero h = omega arith
difference_near v (suc n) h = go (dec_lt v (suc n))
  where
    go : Dec (v < suc n) → nat_abs (pos v -ℤ pos (suc n)) ≤ v
    go (yes l) = rw (lt-ltb v (suc n) l) (omega arith)
    go (no l) = rw (le-ltb v (suc n) (omega arith)) (omega arith)

pub value_near : (signed : Bool) (w v : ℕ) → v < 2 ^ 32 → nat_abs (value_of signed w v) ≤ 2 ^ 32
unfolding value_of
value_near false w v h = omega arith
value_near true w v h = go (dec_lt (v * 2) (2 ^ w))
  where
    go : Dec (v * 2 < 2 ^ w) → nat_abs (value_of true w v) ≤ 2 ^ 32
    go (yes l) = rw (value_low w v l) (omega arith)
    go (no l) = rw (le-ltb (v * 2) (2 ^ w) (omega arith)) (omega (arith, difference_near v (2 ^ w) (omega arith)))

-- ---- 32-bit patterns

-- a pattern is extended to the 32-bit pattern of its value
extend_pattern : (signed : Bool) (w v : ℕ) → w ≤ 32 → v < 2 ^ w → extend signed w v ≡ pattern_of 32 (value_of signed w v)
unfolding extend pattern_of value_of
extend_pattern false w v l h = let m : 2 ^ w ≤ 2 ^ 32 = pow_mono l in omega arith
extend_pattern true w v l h = go (dec_lt (v * 2) (2 ^ w)) (pow_mono l)
  where
    go : Dec (v * 2 < 2 ^ w) → 2 ^ w ≤ 2 ^ 32 → extend true w v ≡ pattern_of 32 (value_of true w v)
    go (yes b) m = rw (lt-ltb (v * 2) (2 ^ w) b) (omega arith)
    go (no b) m = rw (value_high w v h (omega arith), le-ltb (v * 2) (2 ^ w) (omega arith)) (omega arith)

-- a value that a message of w bits holds, one of 32 bits holds
pub range_wider : (signed : Bool) (w : ℕ) (z : ℤ) → in_range signed w z ≡ true → in_range signed 32 z ≡ true
unfolding is_width
range_wider signed w z t =
    let held = (range_held signed w z).0 t in
    (range_held signed 32 z).1 (refl, go signed z (width_bounds w held.0).1 held.1)
  where
    go : (s : Bool) (z : ℤ) → w ≤ 32 → Held s w z → Held s 32 z
    go true z l h = let m = pow_mono {i = w - 1} {j = 31} (omega arith) in omega arith
    go false (pos n) l h = let m : 2 ^ w ≤ 2 ^ 32 = pow_mono l in omega arith
    go false (negsuc n) l h = h

-- a pattern is extended exactly if it is the 32-bit pattern of a value that the message holds
pub extended_pattern : (signed : Bool) (w x : ℕ) → (extended signed w x ≡ true) ↔ ((z : ℤ) × (x ≡ pattern_of 32 z) × (in_range signed w z ≡ true))
unfolding extended
extended_pattern signed w x = (one, other)
  where
    both : (extended signed w x ≡ true) ↔ ((is_width w ≡ true) × (eqb x (extend signed w (x % 2 ^ w)) ≡ true))
    both = and-eq-true_iff (is_width w) (eqb x (extend signed w (x % 2 ^ w)))

    one : extended signed w x ≡ true → (z : ℤ) × (x ≡ pattern_of 32 z) × (in_range signed w z ≡ true)
    one t =
        let i = (both.0 t).0 in
        let h : x % 2 ^ w < 2 ^ w = mod-lt x (pow_pos w) in (
          value_of signed w (x % 2 ^ w),
          eqb-true x (extend signed w (x % 2 ^ w)) (both.0 t).1 ∙ extend_pattern signed w (x % 2 ^ w) (width_bounds w i).1 h,
          value_range signed w (x % 2 ^ w) i h,
        )

    other : (z : ℤ) × (x ≡ pattern_of 32 z) × (in_range signed w z ≡ true) → extended signed w x ≡ true
    other s =
        let z = s.0 in
        let i = ((range_held signed w z).0 s.2).0 in
        let lowest : x % 2 ^ w ≡ pattern_of w z = ap (λ (k : ℕ). k % 2 ^ w) s.1 ∙ pattern_lowest 32 w z (width_bounds w i).1 in
        let again : extend signed w (x % 2 ^ w) ≡ x =
        ap (extend signed w) lowest ∙ extend_pattern signed w (pattern_of w z) (width_bounds w i).1 (pattern_below w z)
        ∙ ap (pattern_of 32) (value_pattern signed w z s.2) ∙ sym s.1 in
        both.1 (i, eq-eqb x (extend signed w (x % 2 ^ w)) (sym again))

-- and exactly if its own value is one that the message holds
pub extended_value : (signed : Bool) (w x : ℕ) → x < 2 ^ 32 → extended signed w x ≡ in_range signed w (value_of signed 32 x)
extended_value signed w x h = same_test (extended signed w x) (in_range signed w (value_of signed 32 x)) one other
  where
    same_test : (a b : Bool) → (a ≡ true → b ≡ true) → (b ≡ true → a ≡ true) → a ≡ b
    same_test true b f g = sym (f refl)
    same_test false true f g = g refl
    same_test false false f g = refl

    one : extended signed w x ≡ true → in_range signed w (value_of signed 32 x) ≡ true
    one t =
        let s = (extended_pattern signed w x).0 t in
        let back : value_of signed 32 x ≡ s.0 =
        ap (value_of signed 32) s.1 ∙ value_pattern signed 32 s.0 (range_wider signed w s.0 s.2) in
        rw back s.2

    other : in_range signed w (value_of signed 32 x) ≡ true → extended signed w x ≡ true
    other t = (extended_pattern signed w x).1 (value_of signed 32 x, sym (pattern_value signed 32 x h), t)
