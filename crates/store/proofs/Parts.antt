-- Parts of a memory: what lies at a place is what was last written there, and a write leaves every part that it shares no byte with.
-- Assumes nothing.
use mathlib.Core.Path.{◌≡◌, refl, ap, sym, ◌∙◌}
use mathlib.Core.List.{List, [], ◌∷◌, ◌++◌, append_assoc}
use mathlib.Core.Logic.{◌⊎◌, inl, inr}
use Prim.Native.Nat.{ℕ, zero, suc, ◌+◌, ◌-◌, ◌≤◌, ◌<◌}
use native.Mathlib.Nat.{add_assoc, add-zero}
use native.Mathlib.Omega.{arith}
use lib.ListN.{length, get_or, set, take, drop, length-append, length-drop, take-append-drop}
use lib.Seq.{
  drop-append-le,
  drop_at,
  drop-drop,
  get_or-drop,
  get_or-take,
  length-take-le,
  take-add,
  take-append-le,
  take_at,
  take-take,
}
use borrow.Rule.Slice.PartMut.{put_mid, set_mid_at}
use Rattle.whole.specs.Whole.{Bytes}
use Rattle.store.specs.Memory.{part, overwritten}

-- the s bytes at p and the t bytes at q have none in common
abbrev pub Apart : ℕ → ℕ → ℕ → ℕ → Type 0
Apart p s q t = (p + s ≤ q) ⊎ (q + t ≤ p)

-- ---- a part

pub length_part : (b : List ℕ) (at s : ℕ) → at + s ≤ length b → length (part b at s) ≡ s
length_part b at s h = length-take-le s (drop at b) (rw length-drop (omega arith))

-- the bytes of a part are bytes
pub bytes_drop : (b : List ℕ) (k : ℕ) → Bytes b → Bytes (drop k b)
bytes_drop b k y i = rw get_or-drop (y (k + i))

pub bytes_take : (b : List ℕ) (k : ℕ) → Bytes b → Bytes (take k b)
bytes_take b zero y i = omega arith
bytes_take [] (suc k) y i = omega arith
bytes_take (x ∷ b) (suc k) y zero = y zero
bytes_take (x ∷ b) (suc k) y (suc i) = bytes_take b k (λ j. y (suc j)) i

pub bytes_part : (b : List ℕ) (at s : ℕ) → Bytes b → Bytes (part b at s)
bytes_part b at s y = bytes_take (drop at b) s (bytes_drop b at y)

-- a byte of a part, and a part of a part
part_byte : (b : List ℕ) (at s i : ℕ) → i < s → get_or (part b at s) i 0 ≡ get_or b (at + i) 0
part_byte b at s i h = get_or-take s (drop at b) i 0 h ∙ get_or-drop at b i 0

pub part_first : (b : List ℕ) (at s : ℕ) → 0 < s → get_or (part b at s) 0 0 ≡ get_or b at 0
part_first b at s h = part_byte b at s 0 h ∙ ap (λ (i : ℕ). get_or b i 0) (add-zero at)

part_front : (x y : List ℕ) (p s : ℕ) → p + s ≤ length x → part (x ++ y) p s ≡ part x p s
part_front x y p s h = ap (take s) (drop-append-le p x y (omega arith)) ∙ take-append-le s (drop p x) y (rw length-drop (omega arith))

pub part_within : (b : List ℕ) (at s i t : ℕ) → at + s ≤ length b → i + t ≤ s → part (part b at s) i t ≡ part b (at + i) t
part_within b at s i t fits inside =
    let r : List ℕ = drop at b in
    sym (part_front (take s r) (drop s r) i t (rw (length_part b at s fits) inside))
    ∙ ap (λ (l : List ℕ). part l i t) (take-append-drop s r)
    ∙ ap (take t) (drop-drop i at b)

-- a part that is lent goes from `at` to `at + s`
pub part_lent : (b : List ℕ) (at s : ℕ) → take (at + s - at) (drop at b) ≡ part b at s
part_lent b at s = let e : at + s - at ≡ s = omega arith in rw e refl

-- ---- a write

module _ (b : List ℕ) (at t : ℕ) (c : List ℕ) (fits : at + t ≤ length b) (sized : length c ≡ t) where
  length_front : length (take at b) ≡ at
  length_front = length-take-le at b (omega arith)

  pub length_over : length (overwritten b at t c) ≡ length b
  length_over = rw (length-append, length-append, length-drop, length_front, sized) (omega arith)

  pub part_written : part (overwritten b at t c) at t ≡ c
  part_written = ap (take t) (drop_at (take at b) (c ++ drop (at + t) b) at length_front) ∙ take_at c (drop (at + t) b) t sized

  pub behind : (p : ℕ) → at + t ≤ p → drop p (overwritten b at t c) ≡ drop p b
  behind p h =
      let j : ℕ = p - (at + t) in
      let e : p ≡ at + t + j = omega arith in
      let end : length (take at b ++ c) ≡ at + t = rw (length-append, length_front, sized) refl in
      let rest : drop (at + t) (overwritten b at t c) ≡ drop (at + t) b =
      ap (drop (at + t)) (sym (append_assoc (take at b) c (drop (at + t) b))) ∙ drop_at (take at b ++ c) (drop (at + t) b) (at + t) end in
      ap (λ (k : ℕ). drop k (overwritten b at t c)) e
      ∙ sym (drop-drop j (at + t) (overwritten b at t c))
      ∙ ap (drop j) rest
      ∙ drop-drop j (at + t) b
      ∙ ap (λ (k : ℕ). drop k b) (sym e)

  pub part_stays : (p s : ℕ) → Apart p s at t → part (overwritten b at t c) p s ≡ part b p s
  part_stays p s (inl h) =
      let before : p + s ≤ length (take at b) = rw length_front h in
      part_front (take at b) (c ++ drop (at + t) b) p s before
      ∙ sym (part_front (take at b) (drop at b) p s before)
      ∙ ap (λ (r : List ℕ). part r p s) (take-append-drop at b)
  part_stays p s (inr h) = ap (take s) (behind p h)

  -- a byte before it
  pub byte_stays : (i : ℕ) → i < at → get_or (overwritten b at t c) i 0 ≡ get_or b i 0
  byte_stays i h =
      sym (get_or-take at (overwritten b at t c) i 0 h)
      ∙ ap (λ (r : List ℕ). get_or r i 0) (part_stays 0 at (inl (omega arith)))
      ∙ get_or-take at b i 0 h

-- a write inside a part is a write of the part
pub over_within : (b : List ℕ) (at s i t : ℕ) (c : List ℕ) → at + s ≤ length b → i + t ≤ s
    → overwritten b (at + i) t c ≡ overwritten b at s (overwritten (part b at s) i t c)
over_within b at s i t c fits inside =
    let r : List ℕ = drop at b in
    let size : length (take s r) ≡ s = length_part b at s fits in
    let rest : drop (at + i + t) b ≡ drop (i + t) (take s r) ++ drop (at + s) b =
    ap (λ (k : ℕ). drop k b) (add_assoc at i t) ∙ sym (drop-drop (i + t) at b)
    ∙ ap (drop (i + t)) (sym (take-append-drop s r)) ∙ drop-append-le (i + t) (take s r) (drop s r) (rw size inside)
    ∙ ap (λ (l : List ℕ). drop (i + t) (take s r) ++ l) (drop-drop s at b) in
    rw (take-add at i b, rest, ← take-take i s r (omega arith)) (simp append_assoc)

-- a part that was lent comes back as c
put_over : (b : List ℕ) (at s : ℕ) (c : List ℕ) → put_mid at s b c ≡ overwritten b at s c
put_over b at s c = rw drop-drop refl

pub part_back : (b : List ℕ) (at s : ℕ) {c d : List ℕ} → c ≡ d → put_mid at (at + s - at) b c ≡ overwritten b at s d
part_back b at s {c} {d} same = let e : at + s - at ≡ s = omega arith in rw (same, e) (put_over b at s d)

-- the first byte of a part is written
pub first_within : (b : List ℕ) (at s v : ℕ) → at + s ≤ length b → 0 < s → set b at v ≡ overwritten b at s (set (part b at s) 0 v)
first_within b at s v fits inside =
    ap (λ (i : ℕ). set b i v) (sym (add-zero at))
    ∙ sym (set_mid_at at s 0 b v (rw (length_part b at s fits) inside))
    ∙ put_over b at s (set (part b at s) 0 v)
