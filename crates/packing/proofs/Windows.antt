-- A field's bytes as one number: a frame bit in them is one bit of the number, whether it is read or written, and the field's bits lie side by side
-- there from its lowest bit on. So a field is unpacked by a shift and a remainder, and packed by putting its bits into the number, which goes byte by
-- byte, since nothing is carried from one to the next; that this is what `packed` says is seen bit by bit.
-- Assumes nothing.
use mathlib.Core.Path.{◌≡◌, refl, sym, ap, ◌∙◌}
use mathlib.Core.Bool.{Bool, true, false, cond}
use mathlib.Core.List.{List, [], ◌∷◌}
use mathlib.Core.Logic.{◌⊎◌, inl, inr}
use Prim.Native.Nat.{ℕ, zero, suc, ◌+◌, ◌-◌, ◌*◌, ◌/◌, ◌%◌, ◌^◌, ◌<◌, ◌≤◌}
use native.Mathlib.Nat.{add-mul, add-zero, mod-lt, mod-mod, zero-add}
use native.Mathlib.Decide.{ℕ_discrete, dec_lt, dec_le}
use native.Mathlib.Omega.{arith}
use lib.Bits.{bit_and, and_block, and_high, and_le_l, and_le_r, and_mod, and_shr, and_zero_r, or_add_and, or_lt}
use lib.ListN.{length, get_or, set, take, drop, length-set}
use lib.Pow.{high_ones, pow-add, pow_mono, pow_pos, shl_exact, shl-shr, shr_lt, shr-shr, split}
use lib.Seq.{ext_get_or, get_or-set_other, get_or-set_same, get_or-drop, get_or-take, set-get_or, set_out}
use Rattle.std.specs.Int.{w64, from_le_bytes, from_be_bytes}
use Rattle.whole.specs.Whole.{Bytes}
use Rattle.packing.specs.Places.{bit_of, bit_at, place_of, frame_bit, bit_places, places, in_frame, places_in, packed, unpacked, Inside}
use Rattle.packing.specs.Window.{window_byte, window_of, with_window, replaced, with_replaced, low_bit}
use Rattle.packing.proofs.Bit.{bit_low, bit_high, bit_lowest, same_bits}
use Rattle.packing.proofs.Frame.{packed_length, packed_bytes, packed_bit, packed_other, lowest}
use Rattle.packing.proofs.Places.{frame_bit_inside, message_bit, places_at, places_length, places_inside, places_distinct, places_apart}

-- ---- the bits of a mask replaced

-- a byte stays one
pub replaced_below : (x m y : ℕ) → x < 256 → m < 256 → y ≤ m → replaced x m y < 256
unfolding replaced
replaced_below x m y h l i = omega (arith, or_add_and x m, or_lt 8 x m h l, and_le_l x m)

-- bits that lie in a mask lie in its lowest byte and in the rest
pub byte_in_mask : (m y : ℕ) → bit_and y m ≡ y → y % 256 ≤ m % 256
byte_in_mask m y i =
    let low : y % 256 ≡ bit_and (y % 256) (m % 256) = ap (λ (z : ℕ). z % 256) (sym i) ∙ and_mod y m 8 in
    omega (arith, and_le_r (y % 256) (m % 256))

pub rest_in_mask : (m y : ℕ) → bit_and y m ≡ y → bit_and (y / 256) (m / 256) ≡ y / 256
rest_in_mask m y i = sym (and_shr y m 8) ∙ ap (λ (z : ℕ). z / 256) i

-- a mask for the bytes from d to n that has a bit: there is a byte d, and the mask's rest is for those behind it
pub mask_turn : (n d m : ℕ) → 0 < m → m < 2 ^ ((n - d) * 8) → (d < n) × (m / 256 < 2 ^ ((n - (d + 1)) * 8))
mask_turn n d m h l = go (dec_lt d n)
  where
    go : Dec (d < n) → (d < n) × (m / 256 < 2 ^ ((n - (d + 1)) * 8))
    go (yes i) =
        let e : (n - d) * 8 ≡ (n - (d + 1)) * 8 + 8 = omega arith in
        (i, shr_lt ((n - (d + 1)) * 8) 8 (rw e at l))
    go (no i) =
        let e : n - d ≡ 0 = omega arith in
        let none : m < 1 = rw e at l in
        absurd (omega arith)

-- the lowest byte and the rest are changed each by itself
replaced_parts : (w x m y : ℕ) → x < 256 → replaced (w * 256 + x) m y ≡ replaced w (m / 256) (y / 256) * 256 + replaced x (m % 256) (y % 256)
unfolding replaced
replaced_parts w x m y h =
    let parts : bit_and (w * 256 + x) m ≡ bit_and w (m / 256) * 256 + bit_and x (m % 256) =
    ap (bit_and (w * 256 + x)) (sym (split m 8)) ∙ and_block 8 w (m / 256) x (m % 256) h (omega arith)
    in
    omega (arith, and_le_l w (m / 256), and_le_l x (m % 256))

-- ---- a field's bits replaced

-- the code's shift of 1
pub power : (n : ℕ) → n ≤ 32 → 1 * 2 ^ n % 2 ^ 64 ≡ 2 ^ n
power n h = shl_exact {a = 1} 1 n 64 (omega arith) (omega arith) ∙ omega arith

-- the number with the lowest n bits of v for its n bits from bit k on
abbrev with_bits : ℕ → ℕ → ℕ → ℕ → ℕ
with_bits x k n v = replaced x ((2 ^ n - 1) * 2 ^ k) (v % 2 ^ n * 2 ^ k)

-- the mask cuts the field out
field_cut : (x k n : ℕ) → bit_and x ((2 ^ n - 1) * 2 ^ k) ≡ x / 2 ^ k % 2 ^ n * 2 ^ k
field_cut x k n = rw (← high_ones n k) (and_high x n k)

-- the new bits lie in the mask
pub field_in_mask : (k n v : ℕ) → bit_and (v % 2 ^ n * 2 ^ k) ((2 ^ n - 1) * 2 ^ k) ≡ v % 2 ^ n * 2 ^ k
field_in_mask k n v = field_cut (v % 2 ^ n * 2 ^ k) k n ∙ rw (shl-shr, mod-mod v (2 ^ n))

-- the bits above, the new ones, and the bits below
with_parts : (x k n v : ℕ) → with_bits x k n v ≡ (x / 2 ^ k / 2 ^ n * 2 ^ n + v % 2 ^ n) * 2 ^ k + x % 2 ^ k
unfolding replaced
with_parts x k n v =
    let a = x / 2 ^ k in
    let old : a * 2 ^ k ≡ a / 2 ^ n * 2 ^ n * 2 ^ k + a % 2 ^ n * 2 ^ k = ap (λ (y : ℕ). y * 2 ^ k) (sym (split a n)) ∙ add-mul _ _ _ in
    rw field_cut (omega (arith, split x k, add-mul (a / 2 ^ n * 2 ^ n) (v % 2 ^ n) (2 ^ k)))

with_new : (x k n v j : ℕ) → j < n → bit_of (with_bits x k n v) (k + j) ≡ bit_of v j
with_new x k n v j h =
    rw with_parts (bit_high k _ (x % 2 ^ k) j (mod-lt x (pow_pos k))) ∙ bit_low n (x / 2 ^ k / 2 ^ n) (v % 2 ^ n) j h ∙ bit_lowest n v j h

with_below : (x k n v m : ℕ) → m < k → bit_of (with_bits x k n v) m ≡ bit_of x m
with_below x k n v m h = rw with_parts (bit_low k _ (x % 2 ^ k) m h) ∙ bit_lowest k x m h

-- the bits from k + n on are those of the number shifted down
with_above : (x k n v m : ℕ) → bit_of (with_bits x k n v) (k + (n + m)) ≡ bit_of x (k + (n + m))
with_above x k n v m =
    let a = x / 2 ^ k in
    rw with_parts (bit_high k _ (x % 2 ^ k) (n + m) (mod-lt x (pow_pos k)))
    ∙ bit_high n (a / 2 ^ n) (v % 2 ^ n) m (mod-lt v (pow_pos n))
    ∙ sym
    (ap (λ (y : ℕ). bit_of y (k + (n + m))) (sym (split x k))
    ∙ bit_high k a (x % 2 ^ k) (n + m) (mod-lt x (pow_pos k))
    ∙ ap (λ (y : ℕ). bit_of y (n + m)) (sym (split a n))
    ∙ bit_high n (a / 2 ^ n) (a % 2 ^ n) m (mod-lt a (pow_pos n)))

with_other : (x k n v m : ℕ) → (m < k) ⊎ (k + n ≤ m) → bit_of (with_bits x k n v) m ≡ bit_of x m
with_other x k n v m (inl h) = with_below x k n v m h
with_other x k n v m (inr h) =
    let e : k + (n + (m - k - n)) ≡ m = omega arith in
    rw e at (with_above x k n v (m - k - n))

-- ---- reading and writing the bytes

pub set_bytes : (f : List ℕ) (i x : ℕ) → Bytes f → x < 256 → Bytes (set f i x)
set_bytes f i x b h k = go (ℕ_discrete k i) (dec_lt i (length f))
  where
    go : Dec (k ≡ i) → Dec (i < length f) → get_or (set f i x) k 0 < 256
    go (no n) d = rw (get_or-set_other f i k x 0 n) (b k)
    go (yes e) (yes l) = rw (e, get_or-set_same f i x 0 l) h
    go (yes e) (no o) = rw (set_out f i x (omega arith)) (b k)

module _ (big : Bool) (first past : ℕ) where
  byte_own : (d e : ℕ) → first + d < past → first + e < past → window_byte big first past d ≡ window_byte big first past e → d ≡ e
  unfolding window_byte
  byte_own d e h l q = own big q
    where
      own : (b : Bool) → window_byte b first past d ≡ window_byte b first past e → d ≡ e
      own false q = omega arith
      own true q = omega arith

  byte_inside : (d n : ℕ) → first + d < past → past ≤ n → window_byte big first past d < n
  unfolding window_byte
  byte_inside d n h l = inside big
    where
      inside : (b : Bool) → window_byte b first past d < n
      inside false = omega arith
      inside true = omega arith

  window_below : (f : List ℕ) → Bytes f → (d n : ℕ) → window_of big first past f d n < 2 ^ (n * 8)
  unfolding window_of
  window_below f b d zero = omega arith
  window_below f b d (suc n) =
      let p : 2 ^ (suc n * 8) ≡ 2 ^ (n * 8) * 256 = ap (λ (m : ℕ). 2 ^ m) (omega arith) ∙ pow-add 2 (n * 8) 8 in
      omega (arith, window_below f b (d + 1) n, b (window_byte big first past d))

  pub window_room : (f : List ℕ) → Bytes f → (d n k : ℕ) → n ≤ k → window_of big first past f d n < 2 ^ (k * 8)
  window_room f b d n k h =
      let m = pow_mono {i = n * 8} {j = k * 8} (omega arith) in
      omega (arith, window_below f b d n)

  -- a turn of the code that reads them, from the highest on
  pub read_turn : (f : List ℕ) (d n : ℕ) → 0 < d → d ≤ n
      → window_of big first past f d (n - d) * 256 + get_or f (window_byte big first past (d - 1)) 0 ≡ window_of big first past f (d - 1) (n - (d - 1))
  unfolding window_of
  read_turn f d n h l =
      let e : n - (d - 1) ≡ suc (n - d) = omega arith in
      let m : d - 1 + 1 ≡ d = omega arith in
      rw (e, m)

  -- the number does not depend on another byte
  window_other : (f : List ℕ) (r x d n : ℕ) → ((e : ℕ) → d ≤ e → e < d + n → window_byte big first past e ≡ r → ⊥)
      → window_of big first past (set f r x) d n ≡ window_of big first past f d n
  unfolding window_of
  window_other f r x d zero o = refl
  window_other f r x d (suc n) o =
      rw (
        window_other f r x (d + 1) n (λ e h l. o e (omega arith) (omega arith)),
        get_or-set_other f r (window_byte big first past d) x 0 (o d (omega arith) (omega arith)),
      )

  -- a turn of the code that changes them, from the lowest on
  pub replaced_step : (f : List ℕ) (d n m y : ℕ) → Bytes f → first + (d + suc n) ≤ past → bit_and y m ≡ y →
      let r = window_byte big first past d in
      with_replaced big first past d (suc n) m y f
      ≡ with_replaced big first past (d + 1) n (m / 256) (y / 256) (set f r (replaced (get_or f r 0) (m % 256) (y % 256)))
  unfolding with_replaced with_window window_of
  replaced_step f d n m y b w i =
      let r = window_byte big first past d in
      let rest = window_of big first past f (d + 1) n in
      let x = get_or f r 0 in
      let new = replaced x (m % 256) (y % 256) in
      let parts = replaced_parts rest x m y (b r) in
      let below = replaced_below x (m % 256) (y % 256) (b r) (omega arith) (byte_in_mask m y i) in
      let up : replaced (rest * 256 + x) m y / 256 ≡ replaced rest (m / 256) (y / 256) = omega arith in
      let low : replaced (rest * 256 + x) m y % 256 ≡ new = omega arith in
      rw (up, low, window_other f r new (d + 1) n (λ e h l q. omega (arith, byte_own e d (omega arith) (omega arith) q)))

  -- an empty mask changes none of them
  pub replaced_none : (f : List ℕ) → Bytes f → (d n : ℕ) → first + (d + n) ≤ past → with_replaced big first past d n 0 0 f ≡ f
  unfolding with_replaced with_window replaced
  replaced_none f b d zero w = refl
  replaced_none f b d (suc n) w =
      let r = window_byte big first past d in
      let kept : replaced (get_or f r 0) 0 0 ≡ get_or f r 0 = rw and_zero_r (omega arith) in
      replaced_step f d n 0 0 b w refl ∙ rw (kept, set-get_or f r 0) (replaced_none f b (d + 1) n (omega arith))

  -- bit m of the number is bit m % 8 of its byte m / 8
  window_bit : (f : List ℕ) → Bytes f → (d n m : ℕ) → m < n * 8
      → bit_of (window_of big first past f d n) m ≡ bit_of (get_or f (window_byte big first past (d + m / 8)) 0) (m % 8)
  unfolding window_of
  window_bit f b d zero m h = absurd (omega arith)
  window_bit f b d (suc n) m h = go (dec_lt m 8) (λ l. window_bit f b (d + 1) n (m - 8) l)
    where
      rest : ℕ
      rest = window_of big first past f (d + 1) n

      lowest : ℕ
      lowest = get_or f (window_byte big first past d) 0

      go : Dec (m < 8)
          → (m - 8 < n * 8 → bit_of rest (m - 8) ≡ bit_of (get_or f (window_byte big first past (d + 1 + (m - 8) / 8)) 0) ((m - 8) % 8))
          → bit_of (rest * 256 + lowest) m ≡ bit_of (get_or f (window_byte big first past (d + m / 8)) 0) (m % 8)
      go (yes l) i =
          let e : d + m / 8 ≡ d = omega arith in
          let k : m % 8 ≡ m = omega arith in
          rw (e, k) (bit_low 8 rest lowest m l)
      go (no l) i =
          let s : 8 + (m - 8) ≡ m = omega arith in
          let e : d + 1 + (m - 8) / 8 ≡ d + m / 8 = omega arith in
          let k : (m - 8) % 8 ≡ m % 8 = omega arith in
          rw s at (bit_high 8 rest lowest (m - 8) (b _)) ∙ rw (e, k) at (i (omega arith))

  put_length : (d n y : ℕ) (f : List ℕ) → length (with_window big first past d n y f) ≡ length f
  unfolding with_window
  put_length d zero y f = refl
  put_length d (suc n) y f = put_length (d + 1) n (y / 256) _ ∙ length-set f _ _

  put_bytes : (d n y : ℕ) (f : List ℕ) → Bytes f → Bytes (with_window big first past d n y f)
  unfolding with_window
  put_bytes d zero y f b = b
  put_bytes d (suc n) y f b = put_bytes (d + 1) n (y / 256) _ (set_bytes f (window_byte big first past d) (y % 256) b (omega arith))

  -- a byte that is none of them stays
  put_other : (d n y r : ℕ) (f : List ℕ) → ((e : ℕ) → d ≤ e → e < d + n → r ≡ window_byte big first past e → ⊥)
      → get_or (with_window big first past d n y f) r 0 ≡ get_or f r 0
  unfolding with_window
  put_other d zero y r f o = refl
  put_other d (suc n) y r f o =
      put_other (d + 1) n (y / 256) r _ (λ e h l. o e (omega arith) (omega arith))
      ∙ get_or-set_other f (window_byte big first past d) r _ 0 (o d (omega arith) (omega arith))

  -- byte d + e of them becomes byte e of the number
  put_bit : (d n y e t : ℕ) (f : List ℕ) → first + (d + n) ≤ past → past ≤ length f → e < n → t < 8
      → bit_of (get_or (with_window big first past d n y f) (window_byte big first past (d + e)) 0) t ≡ bit_of y (e * 8 + t)
  unfolding with_window
  put_bit d zero y e t f w i h l = absurd (omega arith)
  put_bit d (suc n) y zero t f w i h l =
      let g = set f (window_byte big first past d) (y % 256) in
      let z : d + 0 ≡ d = omega arith in
      let m : 0 * 8 + t ≡ t = omega arith in
      rw (
        z,
        m,
        put_other (d + 1) n (y / 256) (window_byte big first past d) g
            (λ e p q o. omega (arith, byte_own d e (omega arith) (omega arith) o)),
        get_or-set_same f (window_byte big first past d) (y % 256) 0 (byte_inside d (length f) (omega arith) i),
      )
      (bit_lowest 8 y t l)
  put_bit d (suc n) y (suc e) t f w i h l =
      let s : d + suc e ≡ d + 1 + e = omega arith in
      let m : suc e * 8 + t ≡ 8 + (e * 8 + t) = omega arith in
      let high : bit_of (y / 256) (e * 8 + t) ≡ bit_of y (8 + (e * 8 + t)) =
      sym (bit_high 8 (y / 256) (y % 256) (e * 8 + t) (omega arith)) ∙ ap (λ (x : ℕ). bit_of x (8 + (e * 8 + t))) (split y 8)
      in
      rw (s, m) (put_bit (d + 1) n (y / 256) e t _ (omega arith) (rw length-set i) (omega arith) l ∙ high)

-- eight of them as the kit's `from_le_bytes` and `from_be_bytes` read them
module _ (first : ℕ) (f t : List ℕ) (same : t ≡ take 8 (drop first f)) where
  eighth : (i : ℕ) → i < 8 → get_or t i 0 ≡ get_or f (first + i) 0
  eighth i h = rw same (get_or-take 8 (drop first f) i 0 h ∙ get_or-drop first f i 0)

  pub little_eight : from_le_bytes w64 t ≡ window_of false first (first + 8) f 0 8
  unfolding window_of window_byte
  little_eight =
      rw (eighth 0 (omega arith), eighth 1 (omega arith), eighth 2 (omega arith), eighth 3 (omega arith))
      (rw (eighth 4 (omega arith), eighth 5 (omega arith), eighth 6 (omega arith), eighth 7 (omega arith)) (omega arith))

  pub big_eight : from_be_bytes w64 t ≡ window_of true first (first + 8) f 0 8
  unfolding window_of window_byte
  big_eight =
      let at : (d : ℕ) → d < 8 → first + 8 - 1 - d ≡ first + (7 - d) = λ d h. omega arith in
      rw (eighth 0 (omega arith), eighth 1 (omega arith), eighth 2 (omega arith), eighth 3 (omega arith))
      (rw (eighth 4 (omega arith), eighth 5 (omega arith), eighth 6 (omega arith), eighth 7 (omega arith), at 0 (omega arith), at 1 (omega arith), at 2 (omega arith), at 3 (omega arith))
      (rw (at 4 (omega arith), at 5 (omega arith), at 6 (omega arith), at 7 (omega arith)) (omega arith)))

-- ---- a frame bit as a bit of the number

-- the number's bit of frame bit i
unfoldable bit_number : Bool → ℕ → ℕ → ℕ → ℕ
bit_number false first past i = i - first * 8
bit_number true first past i = past * 8 - 1 - i

bit_place : (big : Bool) (first past i : ℕ) → first * 8 ≤ i → i < past * 8 →
    let m = bit_number big first past i in
    (m < (past - first) * 8) × (window_byte big first past (m / 8) ≡ place_of big i / 8) × (m % 8 ≡ place_of big i % 8)
unfolding bit_number window_byte place_of
bit_place false first past i h l = (omega arith, omega arith, omega arith)
bit_place true first past i h l = (omega arith, omega arith, omega arith)

module _ (big : Bool) (first past i : ℕ) (h : first * 8 ≤ i) (l : i < past * 8) where
  read_bit : (f : List ℕ) → Bytes f → bit_of (window_of big first past f 0 (past - first)) (bit_number big first past i) ≡ bit_at f (place_of big i)
  unfolding bit_at
  read_bit f b =
      let at = bit_place big first past i h l in
      rw (← at.1, ← at.2) (rw zero-add at (window_bit big first past f b 0 (past - first) (bit_number big first past i) at.0))

  written_bit : (y : ℕ) (f : List ℕ) → past ≤ length f
      → bit_at (with_window big first past 0 (past - first) y f) (place_of big i) ≡ bit_of y (bit_number big first past i)
  unfolding bit_at
  written_bit y f p =
      let m = bit_number big first past i in
      let at = bit_place big first past i h l in
      let e : m / 8 * 8 + m % 8 ≡ m = omega arith in
      rw (← at.1, ← at.2)
      (rw (zero-add, e) at (put_bit big first past 0 (past - first) y (m / 8) (m % 8) f (omega arith) p (omega arith) (omega arith)))

-- a byte outside the window keeps its bits
kept_bit : (big : Bool) (first past i y : ℕ) (f : List ℕ) → (i < first * 8) ⊎ (past * 8 ≤ i)
    → bit_at (with_window big first past 0 (past - first) y f) (place_of big i) ≡ bit_at f (place_of big i)
unfolding bit_at place_of window_byte
kept_bit big first past i y f o =
    ap (λ (x : ℕ). bit_of x (place_of big i % 8)) (put_other big first past 0 (past - first) y (place_of big i / 8) f (λ e h l. outside big e o l))
  where
    outside : (b : Bool) (e : ℕ) → (i < first * 8) ⊎ (past * 8 ≤ i) → e < 0 + (past - first) → place_of b i / 8 ≡ window_byte b first past e → ⊥
    outside false e (inl o) l q = omega arith
    outside false e (inr o) l q = omega arith
    outside true e (inl o) l q = omega arith
    outside true e (inr o) l q = omega arith

-- two frames are equal if all their bits are
same_frames : (big : Bool) (f g : List ℕ) → length f ≡ length g → Bytes f → Bytes g
    → ((i : ℕ) → i < length f * 8 → bit_at f (place_of big i) ≡ bit_at g (place_of big i)) → f ≡ g
unfolding bit_at place_of
same_frames big f g e b c h = ext_get_or 0 f g e (λ r l. same_bits 8 (get_or f r 0) (get_or g r 0) (b r) (c r) (λ t k. bit big h r t l k))
  where
    bit : (o : Bool) → ((i : ℕ) → i < length f * 8 → bit_at f (place_of o i) ≡ bit_at g (place_of o i)) → (r t : ℕ) → r < length f → t < 8
        → bit_of (get_or f r 0) t ≡ bit_of (get_or g r 0) t
    bit false h r t l k =
        let i = r * 8 + t in
        let y : (i / 8 * 8 + i % 8) / 8 ≡ r = omega arith in
        let m : (i / 8 * 8 + i % 8) % 8 ≡ t = omega arith in
        rw (y, m) at (h i (omega arith))
    bit true h r t l k =
        let i = r * 8 + (7 - t) in
        let y : (i / 8 * 8 + (7 - i % 8)) / 8 ≡ r = omega arith in
        let m : (i / 8 * 8 + (7 - i % 8)) % 8 ≡ t = omega arith in
        rw (y, m) at (h i (omega arith))

-- ---- a field

-- the bits of x from bit k on, where they stand at the places
shifted : (ps f : List ℕ) (x k : ℕ) → ((j : ℕ) → j < length ps → bit_of x (k + j) ≡ bit_at f (get_or ps j 0))
    → unpacked ps f ≡ x / 2 ^ k % 2 ^ length ps
unfolding unpacked bit_of
shifted [] f x k h = omega arith
shifted (p ∷ ps) f x k h =
    let next : (j : ℕ) → k + 1 + j ≡ k + suc j = λ j. omega arith in
    let half : x / 2 ^ k / 2 ≡ x / 2 ^ (k + 1) = shr-shr x k 1 in
    let rest : unpacked ps f ≡ x / 2 ^ k / 2 % 2 ^ length ps =
    rw half (shifted ps f x (k + 1) (λ j l. rw (next j) (h (suc j) (omega arith))))
    in
    let first : x / 2 ^ k % 2 ≡ bit_at f p = rw add-zero at (h 0 (omega arith)) in
    omega (arith, lowest (x / 2 ^ k) (length ps))

-- the places in the first n bytes
pub unpacked_take : (n : ℕ) (ps f : List ℕ) → Inside n ps → unpacked ps (take n f) ≡ unpacked ps f
unfolding unpacked bit_at
unpacked_take n [] f i = refl
unpacked_take n (p ∷ ps) f i = rw (get_or-take n f (p / 8) 0 (omega arith), unpacked_take n ps f i.1)

pub unpacked_none : (n : ℕ) (big : Bool) (s w : ℕ) (f : List ℕ) → w ≡ 0 → unpacked (places_in n big s w) f ≡ 0
unfolding places_in places bit_places unpacked
unpacked_none n big s w f e = rw e (go (in_frame n s 0))
  where
    go : (t : Bool) → unpacked (cond t (places big s 0) []) f ≡ 0
    go true = refl
    go false = refl

-- in any bytes that hold it
module _ (big : Bool) (first past s w : ℕ) (from : first * 8 ≤ s) (to : s + w ≤ past * 8) where
  abbrev low_of : ℕ
  low_of = low_bit big first past s (s + w)

  number_in : (j : ℕ) → j < w → bit_number big first past (frame_bit big s w j) ≡ low_of + j
  unfolding bit_number frame_bit low_bit
  number_in j h = go big
    where
      go : (o : Bool) → bit_number o first past (frame_bit o s w j) ≡ low_bit o first past s (s + w) + j
      go false = omega arith
      go true = omega arith

  number_outside : (i : ℕ) → first * 8 ≤ i → i < past * 8 → (i < s) ⊎ (s + w ≤ i)
      → (bit_number big first past i < low_of) ⊎ (low_of + w ≤ bit_number big first past i)
  unfolding bit_number low_bit
  number_outside i h l o = go big o
    where
      go : (b : Bool) → (i < s) ⊎ (s + w ≤ i)
          → (bit_number b first past i < low_bit b first past s (s + w)) ⊎ (low_bit b first past s (s + w) + w ≤ bit_number b first past i)
      go false (inl a) = inl (omega arith)
      go false (inr a) = inr (omega arith)
      go true (inl a) = inr (omega arith)
      go true (inr a) = inl (omega arith)

  -- it is unpacked by a shift and a remainder
  pub unpacked_window : (f : List ℕ) → Bytes f
      → unpacked (places big s w) f ≡ window_of big first past f 0 (past - first) / 2 ^ low_of % 2 ^ w
  unpacked_window f b = rw places_length at (shifted (places big s w) f _ low_of (λ j l. bit j (rw places_length at l)))
    where
      bit : (j : ℕ) → j < w → bit_of (window_of big first past f 0 (past - first)) (low_of + j) ≡ bit_at f (get_or (places big s w) j 0)
      bit j h =
          let i = frame_bit_inside big s w j h in
          rw (places_at big s w j h, ← number_in j h) (read_bit big first past (frame_bit big s w j) (omega arith) (omega arith) f b)

  -- and packed by putting its bits into the number
  module _ (v : ℕ) (f : List ℕ) (b : Bytes f) (inside : past ≤ length f) where
    abbrev number : ℕ
    number = window_of big first past f 0 (past - first)

    abbrev written : List ℕ
    written = with_window big first past 0 (past - first) (with_bits number low_of w v) f

    new_bit : (j : ℕ) → j < w → bit_at written (place_of big (frame_bit big s w j)) ≡ bit_of v j
    new_bit j l =
        let i = frame_bit_inside big s w j l in
        written_bit big first past (frame_bit big s w j) (omega arith) (omega arith) (with_bits number low_of w v) f (omega arith)
        ∙ rw (number_in j l) (with_new number low_of w v j l)

    old_bit : (i : ℕ) → (i < s) ⊎ (s + w ≤ i) → bit_at written (place_of big i) ≡ bit_at f (place_of big i)
    old_bit i o = go (dec_le (first * 8) i) (dec_lt i (past * 8))
      where
        go : Dec (first * 8 ≤ i) → Dec (i < past * 8) → bit_at written (place_of big i) ≡ bit_at f (place_of big i)
        go (yes a) (yes c) =
            written_bit big first past i a c (with_bits number low_of w v) f (omega arith)
            ∙ with_other number low_of w v (bit_number big first past i) (number_outside i a c o)
            ∙ read_bit big first past i a c f b
        go (no a) c = kept_bit big first past i (with_bits number low_of w v) f (inl (omega arith))
        go (yes a) (no c) = kept_bit big first past i (with_bits number low_of w v) f (inr (omega arith))

    each_bit : (i : ℕ) → bit_at written (place_of big i) ≡ bit_at (packed (places big s w) v f) (place_of big i)
    each_bit i = go (dec_lt i s) (dec_lt i (s + w))
      where
        outside : (i < s) ⊎ (s + w ≤ i) → bit_at written (place_of big i) ≡ bit_at (packed (places big s w) v f) (place_of big i)
        outside o = old_bit i o ∙ sym (packed_other (place_of big i) (places big s w) v f (places_apart big i s w o))

        go : Dec (i < s) → Dec (i < s + w) → bit_at written (place_of big i) ≡ bit_at (packed (places big s w) v f) (place_of big i)
        go (yes a) c = outside (inl a)
        go (no a) (no c) = outside (inr (omega arith))
        go (no a) (yes c) =
            let m = message_bit big s w i (omega arith) c in
            rw m.2
            (new_bit m.0 m.1
            ∙ sym
            (rw (places_at big s w m.0 m.1) at
            (packed_bit (places big s w) v f m.0 (places_inside big (length f) s w (omega arith)) (places_distinct big s w) (rw places_length m.1))))

    pub packed_window : written ≡ packed (places big s w) v f
    packed_window =
        same_frames big written (packed (places big s w) v f)
        (put_length big first past 0 (past - first) (with_bits number low_of w v) f ∙ sym (packed_length (places big s w) v f))
        (put_bytes big first past 0 (past - first) (with_bits number low_of w v) f b)
        (packed_bytes (places big s w) v f b)
        (λ i l. each_bit i)
