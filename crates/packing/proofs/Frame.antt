-- Packing and unpacking, for any list of places: all widths, both orders and a status bit are instances. The laws of one bit of a frame follow
-- from those of one bit of a byte, and the laws of a list of places by induction on the list.
-- Assumes nothing.
use mathlib.Core.Path.{◌≡◌, refl, sym, ap, ◌∙◌}
use mathlib.Core.List.{List, [], ◌∷◌, ◌++◌}
use mathlib.Core.Logic.{◌↔◌}
use Prim.Native.Nat.{ℕ, zero, suc, ◌+◌, ◌*◌, ◌/◌, ◌%◌, ◌^◌, ◌<◌, ◌≤◌}
use native.Mathlib.Nat.{div-div-eq-div-mul, mod-lt, mul_assoc, pow-suc, pow-succ', zero-lt-suc}
use native.Mathlib.Numerals.{add-one}
use native.Mathlib.Decide.{ℕ_discrete, dec_lt}
use native.Mathlib.Omega.{arith}
use lib.ListN.{length, get_or, length-set}
use lib.Pow.{mod-pow-add}
use lib.Seq.{ext_get_or, get_or-set_other, get_or-set_same, set_out}
use Rattle.whole.specs.Whole.{Bytes}
use Rattle.packing.specs.Places.{bit_of, with_bit, bit_at, put_bit, packed, unpacked, Inside, Outside, Distinct, Disjoint, Agree}
use Rattle.packing.proofs.Bit.{bit_below, bit_zero, bit_suc, bit_same, bit_other, with_exchange, with_below}

-- ---- one bit of a frame

pub bit_at_below : (f : List ℕ) (p : ℕ) → bit_at f p < 2
unfolding bit_at
bit_at_below f p = bit_below (get_or f (p / 8) 0) (p % 8)

put_length : (f : List ℕ) (p b : ℕ) → length (put_bit f p b) ≡ length f
unfolding put_bit
put_length f p b = length-set f (p / 8) _

-- the bytes of the frame after a bit is put
put_byte : (f : List ℕ) (p b i : ℕ) → i ≡ p / 8 → i < length f → get_or (put_bit f p b) i 0 ≡ with_bit (get_or f i 0) (p % 8) b
unfolding put_bit
put_byte f p b i e h = rw e (get_or-set_same f (p / 8) _ 0 (rw e at h))

put_byte_other : (f : List ℕ) (p b i : ℕ) → (i ≡ p / 8 → ⊥) → get_or (put_bit f p b) i 0 ≡ get_or f i 0
unfolding put_bit
put_byte_other f p b i n = get_or-set_other f (p / 8) i _ 0 n

put_outside : (f : List ℕ) (p b : ℕ) → length f ≤ p / 8 → put_bit f p b ≡ f
unfolding put_bit
put_outside f p b h = set_out f (p / 8) _ h

put_same : (f : List ℕ) (p b : ℕ) → p < length f * 8 → b < 2 → bit_at (put_bit f p b) p ≡ b
unfolding bit_at
put_same f p b h q =
    let i : p / 8 < length f = omega arith in
    rw (put_byte f p b (p / 8) refl i) (bit_same (get_or f (p / 8) 0) (p % 8) b q)

-- two places in one byte differ in the bit
in_byte : (p q : ℕ) → (p ≡ q → ⊥) → p / 8 ≡ q / 8 → p % 8 ≡ q % 8 → ⊥
in_byte p q n e d = n (omega arith)

put_other : (f : List ℕ) (p q b : ℕ) → b < 2 → (q ≡ p → ⊥) → bit_at (put_bit f p b) q ≡ bit_at f q
unfolding bit_at
put_other f p q b l n = go (dec_lt (p / 8) (length f)) (ℕ_discrete (q / 8) (p / 8))
  where
    go : Dec (p / 8 < length f) → Dec (q / 8 ≡ p / 8) → bit_at (put_bit f p b) q ≡ bit_at f q
    go (no o) d = ap (λ (g : List ℕ). bit_at g q) (put_outside f p b (omega arith))
    go (yes h) (no d) = ap (λ (x : ℕ). bit_of x (q % 8)) (put_byte_other f p b (q / 8) d)
    go (yes h) (yes e) = rw (put_byte f p b (q / 8) e (rw e h)) (bit_other (get_or f (q / 8) 0) (q % 8) (p % 8) b l (in_byte q p n e))

put_exchange : (f : List ℕ) (p q a b : ℕ) → a < 2 → b < 2 → (p ≡ q → ⊥) → put_bit (put_bit f p a) q b ≡ put_bit (put_bit f q b) p a
put_exchange f p q a b k l n = ext_get_or 0 _ _ lengths bytes
  where
    lengths : length (put_bit (put_bit f p a) q b) ≡ length (put_bit (put_bit f q b) p a)
    lengths = simp put_length

    byte : (i : ℕ) → i < length f → Dec (i ≡ p / 8) → Dec (i ≡ q / 8)
        → get_or (put_bit (put_bit f p a) q b) i 0 ≡ get_or (put_bit (put_bit f q b) p a) i 0
    byte i h (no e) (no d) =
        rw (
          put_byte_other (put_bit f p a) q b i d,
          put_byte_other (put_bit f q b) p a i e,
          put_byte_other f p a i e,
          put_byte_other f q b i d,
        )
    byte i h (yes e) (no d) =
        rw (
          put_byte_other (put_bit f p a) q b i d,
          put_byte (put_bit f q b) p a i e (rw put_length h),
          put_byte f p a i e h,
          put_byte_other f q b i d,
        )
    byte i h (no e) (yes d) =
        rw (
          put_byte (put_bit f p a) q b i d (rw put_length h),
          put_byte_other (put_bit f q b) p a i e,
          put_byte_other f p a i e,
          put_byte f q b i d h,
        )
    byte i h (yes e) (yes d) =
        rw (
          put_byte (put_bit f p a) q b i d (rw put_length h),
          put_byte (put_bit f q b) p a i e (rw put_length h),
          put_byte f p a i e h,
          put_byte f q b i d h,
        )
        (with_exchange (get_or f i 0) (p % 8) (q % 8) a b k l (in_byte p q n (sym e ∙ d)))

    bytes : (i : ℕ) → i < length (put_bit (put_bit f p a) q b) → get_or (put_bit (put_bit f p a) q b) i 0 ≡ get_or (put_bit (put_bit f q b) p a) i 0
    bytes i h = byte i (simp put_length at h) (ℕ_discrete i (p / 8)) (ℕ_discrete i (q / 8))

put_bytes : (f : List ℕ) (p b : ℕ) → b < 2 → Bytes f → Bytes (put_bit f p b)
put_bytes f p b l h i = go (dec_lt (p / 8) (length f)) (ℕ_discrete i (p / 8))
  where
    go : Dec (p / 8 < length f) → Dec (i ≡ p / 8) → get_or (put_bit f p b) i 0 < 256
    go (no o) d = rw (put_outside f p b (omega arith)) (h i)
    go (yes j) (no d) = rw (put_byte_other f p b i d) (h i)
    go (yes j) (yes e) = rw (put_byte f p b i e (rw e j)) (with_below 8 (get_or f i 0) (p % 8) b (h i) (omega arith) l)

-- ---- packing

parity_below : (v : ℕ) → v % 2 < 2
parity_below v = mod-lt v (zero-lt-suc 1)

pub packed_length : (ps : List ℕ) (v : ℕ) (f : List ℕ) → length (packed ps v f) ≡ length f
unfolding packed
packed_length [] v f = refl
packed_length (p ∷ ps) v f = packed_length ps (v / 2) (put_bit f p (v % 2)) ∙ put_length f p (v % 2)

pub packed_bytes : (ps : List ℕ) (v : ℕ) (f : List ℕ) → Bytes f → Bytes (packed ps v f)
unfolding packed
packed_bytes [] v f h = h
packed_bytes (p ∷ ps) v f h = packed_bytes ps (v / 2) (put_bit f p (v % 2)) (put_bytes f p (v % 2) (parity_below v) h)

-- every other bit is kept
pub packed_other : (q : ℕ) (ps : List ℕ) (v : ℕ) (f : List ℕ) → Outside q ps → bit_at (packed ps v f) q ≡ bit_at f q
unfolding packed
packed_other q [] v f h = refl
packed_other q (p ∷ ps) v f h =
    packed_other q ps (v / 2) (put_bit f p (v % 2)) h.1 ∙ put_other f p q (v % 2) (parity_below v) h.0

-- the first place holds the pattern's lowest bit, and the rest lie inside the frame as before
first : (p : ℕ) (ps : List ℕ) (v : ℕ) (f : List ℕ) → Inside (length f) (p ∷ ps) → Distinct (p ∷ ps)
    → (bit_at (packed (p ∷ ps) v f) p ≡ v % 2) × Inside (length (put_bit f p (v % 2))) ps
unfolding packed
first p ps v f i d = (
  packed_other p ps (v / 2) (put_bit f p (v % 2)) d.0 ∙ put_same f p (v % 2) i.0 (parity_below v),
  rw put_length i.1,
)

-- bit j of the pattern stands at place j
pub packed_bit : (ps : List ℕ) (v : ℕ) (f : List ℕ) (j : ℕ) → Inside (length f) ps → Distinct ps → j < length ps
    → bit_at (packed ps v f) (get_or ps j 0) ≡ bit_of v j
unfolding packed
packed_bit [] v f j i d h = absurd (omega arith)
packed_bit (p ∷ ps) v f zero i d h = (first p ps v f i d).0 ∙ sym (bit_zero v)
packed_bit (p ∷ ps) v f (suc j) i d h =
    packed_bit ps (v / 2) (put_bit f p (v % 2)) j (first p ps v f i d).1 d.1 (omega arith) ∙ sym (bit_suc v j)

-- the lowest bits of a number: those of its half, and its parity
pub lowest : (v n : ℕ) → v % 2 ^ suc n ≡ v / 2 % 2 ^ n * 2 + v % 2
lowest v n = rw (← add-one n) (mod-pow-add v n 1)

-- what is unpacked is what was packed, as far as there are places for it
pub round_trip : (ps : List ℕ) (v : ℕ) (f : List ℕ) → Inside (length f) ps → Distinct ps → unpacked ps (packed ps v f) ≡ v % 2 ^ length ps
unfolding packed unpacked
round_trip [] v f i d = omega arith
round_trip (p ∷ ps) v f i d =
    let rest = round_trip ps (v / 2) (put_bit f p (v % 2)) (first p ps v f i d).1 d.1 in
    omega (arith, (first p ps v f i d).0, lowest v (length ps))

-- of the pattern, only as many bits count as there are places
pub packed_lowest : (ps : List ℕ) (v : ℕ) (f : List ℕ) → packed ps (v % 2 ^ length ps) f ≡ packed ps v f
unfolding packed
packed_lowest [] v f = refl
packed_lowest (p ∷ ps) v f =
    let half : v % 2 ^ suc (length ps) / 2 ≡ v / 2 % 2 ^ length ps = omega (arith, lowest v (length ps)) in
    let parity : v % 2 ^ suc (length ps) % 2 ≡ v % 2 = omega (arith, lowest v (length ps)) in
    rw (half, parity) (packed_lowest ps (v / 2) (put_bit f p (v % 2)))

-- ---- two placements that share no bit

packed_put : (ps : List ℕ) (v : ℕ) (f : List ℕ) (q b : ℕ) → b < 2 → Outside q ps → packed ps v (put_bit f q b) ≡ put_bit (packed ps v f) q b
unfolding packed
packed_put [] v f q b l h = refl
packed_put (p ∷ ps) v f q b l h =
    ap (packed ps (v / 2)) (put_exchange f q p b (v % 2) l (parity_below v) h.0)
    ∙ packed_put ps (v / 2) (put_bit f p (v % 2)) q b l h.1

-- they are packed in either order
pub packed_exchange : (ps qs : List ℕ) (v u : ℕ) (f : List ℕ) → Disjoint ps qs → packed ps v (packed qs u f) ≡ packed qs u (packed ps v f)
unfolding packed
packed_exchange [] qs v u f h = refl
packed_exchange (p ∷ ps) qs v u f h =
    ap (packed ps (v / 2)) (sym (packed_put qs u f p (v % 2) (parity_below v) h.0))
    ∙ packed_exchange ps qs (v / 2) u (put_bit f p (v % 2)) h.1

-- the one reads what it read before the other was packed
pub unpacked_other : (ps qs : List ℕ) (u : ℕ) (f : List ℕ) → Disjoint ps qs → unpacked ps (packed qs u f) ≡ unpacked ps f
unfolding unpacked
unpacked_other [] qs u f h = refl
unpacked_other (p ∷ ps) qs u f h = cc (packed_other p qs u f h.0, unpacked_other ps qs u f h.1)

-- ---- unpacking

pub unpacked_below : (ps f : List ℕ) → unpacked ps f < 2 ^ length ps
unfolding unpacked
unpacked_below [] f = omega arith
unpacked_below (p ∷ ps) f = omega (arith, unpacked_below ps f, bit_at_below f p, pow-suc 2 (length ps))

-- what is unpacked depends on the bits at the places, and on each of them
pub agree : (ps f g : List ℕ) → Agree f g ps ↔ (unpacked ps f ≡ unpacked ps g)
unfolding unpacked
agree [] f g = (λ _. refl, λ _. tt)
agree (p ∷ ps) f g = (
  λ h. cc (h.0, (agree ps f g).0 h.1),
  λ e. let same : (bit_at f p ≡ bit_at g p) × (unpacked ps f ≡ unpacked ps g) = omega (arith, bit_at_below f p, bit_at_below g p) in
      (same.0, (agree ps f g).1 same.1),
)

-- ---- one run of places after another

pub packed_append : (ps qs : List ℕ) (v : ℕ) (f : List ℕ) → packed (ps ++ qs) v f ≡ packed qs (v / 2 ^ length ps) (packed ps v f)
unfolding packed
packed_append [] qs v f = ap (λ (n : ℕ). packed qs n f) (omega arith)
packed_append (p ∷ ps) qs v f =
    rw (pow-succ', ← div-div-eq-div-mul v 2 (2 ^ length ps)) (packed_append ps qs (v / 2) (put_bit f p (v % 2)))

pub unpacked_append : (ps qs f : List ℕ) → unpacked (ps ++ qs) f ≡ unpacked qs f * 2 ^ length ps + unpacked ps f
unfolding unpacked
unpacked_append [] qs f = omega arith
unpacked_append (p ∷ ps) qs f =
    let doubled : unpacked qs f * 2 ^ suc (length ps) ≡ unpacked qs f * 2 ^ length ps * 2 = rw pow-suc (sym (mul_assoc _ _ _)) in
    omega (arith, unpacked_append ps qs f)
