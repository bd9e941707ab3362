-- A row of the table is a frame of 32 bytes in little order, where a frame bit is its own place. What is unpacked from a run of it is 0 exactly if none of
-- the run's bits is used; and packing ones into the run uses its bits, and leaves the others of the row and the other rows.
-- Assumes nothing.
use mathlib.Core.Path.{◌≡◌, refl, ap, sym, ◌∙◌}
use mathlib.Core.Bool.{Bool, true, false, not, ◌&&◌, ◌||◌, or-true, or-false, true≢false}
use mathlib.Core.List.{List, [], ◌∷◌, ◌++◌}
use mathlib.Core.Logic.{◌↔◌, ◌⊎◌, inl, inr}
use Prim.Native.Nat.{ℕ, zero, suc, ◌+◌, ◌-◌, ◌*◌, ◌/◌, ◌%◌, ◌^◌, ◌<◌, ◌≤◌}
use native.Mathlib.Nat.{pow-suc}
use native.Mathlib.Decide.{dec_lt, dec_le, ℕ_discrete}
use native.Mathlib.Omega.{arith}
use lib.Dec.{eqb}
use lib.ListN.{length, get_or, take, drop, length-drop, get_or-append}
use lib.Pow.{pow_pos}
use lib.Seq.{get_or-take, get_or-drop, get_or-append-add, length-take-le, take-take}
use borrow.Author.Tests.{eq-eqb, ne_eqb, le-leb}
use borrow.Rule.Slice.PartMut.{put_mid, same_len_mid, mid_len, take_put, drop_put}
use Rattle.packing.specs.Places.{bit_of, bit_at, place_of, frame_bit, places, in_frame, places_in, packed, unpacked}
use Rattle.packing.proofs.Bit.{bit_zero, bit_suc}
use Rattle.packing.proofs.Frame.{bit_at_below, packed_bit, packed_length, packed_other}
use Rattle.packing.proofs.Places.{places_apart, places_at, places_distinct, places_inside, places_length, places_in_places}
use Rattle.record.specs.declared.Run.{Run}
use Rattle.record.proofs.Tests.{any_clear, eqb_clear}
use Rattle.used.specs.Used.{table_size, is_used, in_run, any_used, row, with_run}
use Rattle.used.specs.Claims.{MayAdd, Added}
use Rattle.used.proofs.Runs.{in_run_lem}

-- ---- a row

row_length : (t : List ℕ) (f : ℕ) → f < 32 → length t ≡ table_size → length (row t f) ≡ 32
row_length t f h size = length-take-le 32 (drop (f * 32) t) (rw length-drop (omega arith))

-- where bit b of frame f stands
bit_in : (t : List ℕ) (f b : ℕ) → bit_at t (f * 256 + b) ≡ bit_of (get_or t (f * 32 + b / 8) 0) (b % 8)
unfolding bit_at
bit_in t f b =
    let byte : (f * 256 + b) / 8 ≡ f * 32 + b / 8 = omega arith in
    let bit : (f * 256 + b) % 8 ≡ b % 8 = omega arith in
    rw (byte, bit) refl

row_bit : (t : List ℕ) (f b : ℕ) → b < 256 → bit_at (row t f) b ≡ bit_at t (f * 256 + b)
unfolding bit_at
row_bit t f b h =
    ap (λ (x : ℕ). bit_of x (b % 8)) (get_or-take 32 (drop (f * 32) t) (b / 8) 0 (omega arith) ∙ get_or-drop (f * 32) t (b / 8) 0)
    ∙ sym (bit_in t f b)

-- a bit that is not used is 0
clear_bit : (t : List ℕ) (f b : ℕ) → b < 256 → (bit_at (row t f) b ≡ 0) ↔ (is_used t f b ≡ false)
unfolding is_used
clear_bit t f b h =
    let at = row_bit t f b h in
    let clear = eqb_clear (bit_at t (f * 256 + b)) 1 in (
      λ e. clear.1 (λ one. omega arith),
      λ e. omega (arith, clear.0 e, bit_at_below t (f * 256 + b)),
    )

-- ---- a run of a row

little : (i : ℕ) → place_of false i ≡ i
unfolding place_of
little i = omega arith

little_at : (s w j : ℕ) → j < w → get_or (places false s w) j 0 ≡ s + j
unfolding frame_bit
little_at s w j h = places_at false s w j h ∙ little (s + j)

run_places_lem : (s w : ℕ) → w ≤ 32 → s + w ≤ 256 → places_in 32 false s w ≡ places false s w
unfolding in_frame
run_places_lem s w h l = places_in_places 32 false s w (rw (le-leb w 32 h, le-leb (s + w) 256 l) refl)

-- ---- asking

unpacked_clear : (ps f : List ℕ) → (unpacked ps f ≡ 0) ↔ ((j : ℕ) → j < length ps → bit_at f (get_or ps j 0) ≡ 0)
unfolding unpacked
unpacked_clear [] f = (λ e j h. absurd (omega arith), λ h. refl)
unpacked_clear (p ∷ ps) f = (
  λ e. each e ((unpacked_clear ps f).0 (omega arith)),
  λ h. omega (arith, h 0 (omega arith), (unpacked_clear ps f).1 (λ j l. h (suc j) (omega arith))),
)
  where
    each : unpacked ps f * 2 + bit_at f p ≡ 0 → ((j : ℕ) → j < length ps → bit_at f (get_or ps j 0) ≡ 0)
        → (j : ℕ) → j < suc (length ps) → bit_at f (get_or (p ∷ ps) j 0) ≡ 0
    each e later zero h = omega arith
    each e later (suc j) h = later j (omega arith)

run_clear : (s w : ℕ) (r : List ℕ) → (unpacked (places false s w) r ≡ 0) ↔ ((k : ℕ) → k < w → bit_at r (s + k) ≡ 0)
run_clear s w r =
    let clear = unpacked_clear (places false s w) r in (
      λ e k l. rw (little_at s w k l) at (clear.0 e k (rw places_length l)),
      λ h. clear.1 (λ k l. let i : k < w = rw places_length at l in rw (little_at s w k i) (h k i)),
    )

-- the row is lent with what stands behind it
pub lent : (t : List ℕ) (f : ℕ) → take 32 (take (f * 32 + 40 - f * 32) (drop (f * 32) t)) ≡ row t f
lent t f = let e : f * 32 + 40 - f * 32 ≡ 40 = omega arith in rw e (take-take 32 40 (drop (f * 32) t) (omega arith))

not_zero : (x : ℕ) (t : Bool) → ((x ≡ 0) ↔ (t ≡ false)) → not (eqb x 0) ≡ t
not_zero x true h = rw (ne_eqb x 0 (λ e. true≢false (h.0 e))) refl
not_zero x false h = rw (eq-eqb x 0 (h.1 refl)) refl

pub asked : (t : List ℕ) (f : ℕ) (a : Run) → a.width ≤ 32 → a.start + a.width ≤ 256
    → not (eqb (unpacked (places_in 32 false a.start a.width) (row t f)) 0) ≡ any_used t f a
unfolding any_used
asked t f a few inside =
    let clear = run_clear a.start a.width (row t f) in
    let none = any_clear (λ k. is_used t f (a.start + k)) a.width in
    rw (run_places_lem a.start a.width few inside)
    (not_zero _ _ (
      λ e. none.1 (λ k l. (clear_bit t f (a.start + k) (omega arith)).0 (clear.0 e k l)),
      λ e. clear.1 (λ k l. (clear_bit t f (a.start + k) (omega arith)).1 (none.0 e k l)),
    ))

-- ---- adding

-- a row that was lent comes back as c: its bytes, and the others
back_byte : (t c : List ℕ) (at k i : ℕ) → at ≤ length t → i < length c → get_or (put_mid at k t c) (at + i) 0 ≡ get_or c i 0
back_byte t c at k i h l =
    let rest = drop k (drop at t) in
    let e : length (take at t) ≡ at = length-take-le at t h in
    rw e at (get_or-append-add (take at t) (c ++ rest) i 0) ∙ get_or-append c rest 0 i l

kept_byte : (t c : List ℕ) (at i : ℕ) → at + 32 ≤ length t → length c ≡ 32 → (i < at) ⊎ (at + 32 ≤ i)
    → get_or (put_mid at (at + 32 - at) t c) i 0 ≡ get_or t i 0
kept_byte t c at i h l (inl before) =
    sym (get_or-take at _ i 0 before) ∙ ap (λ (r : List ℕ). get_or r i 0) (take_put at (at + 32 - at) t c (omega arith)) ∙ get_or-take at t i 0 before
kept_byte t c at i h l (inr behind) =
    let k : ℕ = i - (at + 32) in
    let e : i ≡ at + 32 + k = omega arith in
    rw e
    (sym (get_or-drop (at + 32) _ k 0)
    ∙ ap (λ (r : List ℕ). get_or r k 0) (drop_put at (at + 32) t c (omega arith) h (omega arith))
    ∙ get_or-drop (at + 32) t k 0)

-- as many ones as a run has bits
ones : (n j : ℕ) → j < n → bit_of (2 ^ n - 1) j ≡ 1
ones zero j h = absurd (omega arith)
ones (suc n) zero h = omega (arith, bit_zero (2 ^ suc n - 1), pow-suc 2 n, pow_pos n)
ones (suc n) (suc j) h =
    let half : (2 ^ suc n - 1) / 2 ≡ 2 ^ n - 1 = omega (arith, pow-suc 2 n) in
    bit_suc (2 ^ suc n - 1) j ∙ rw half (ones n j (omega arith))

module _ (t : List ℕ) (f : ℕ) (a : Run) (frame : f < 32) (few : a.width ≤ 32) (inside : a.start + a.width ≤ 256) (size : length t ≡ table_size) where
  -- the row with ones in the run
  abbrev new : List ℕ
  new = packed (places false a.start a.width) (2 ^ 32 - 1) (row t f)

  new_length : length new ≡ 32
  new_length = packed_length (places false a.start a.width) (2 ^ 32 - 1) (row t f) ∙ row_length t f frame size

  -- the table with that row
  abbrev after : List ℕ
  after = put_mid (f * 32) (f * 32 + 32 - f * 32) t new

  -- a bit of the run, and another one of the row
  run_bit : (b : ℕ) → in_run a b ≡ true → bit_at new b ≡ 1
  run_bit b i =
      let (from, to) = (in_run_lem a b).0 i in
      let j : ℕ = b - a.start in
      let ps = places false a.start a.width in
      let at : get_or ps j 0 ≡ b = little_at a.start a.width j (omega arith) ∙ (omega arith) in
      rw at at
      (packed_bit ps (2 ^ 32 - 1) (row t f) j (places_inside false (length (row t f)) a.start a.width (rw (row_length t f frame size) inside))
      (places_distinct false a.start a.width) (rw places_length (omega arith)))
      ∙ ones 32 j (omega arith)

  outside : (b : ℕ) → in_run a b ≡ false → (b < a.start) ⊎ (a.start + a.width ≤ b)
  outside b i = go (dec_lt b a.start) (dec_le (a.start + a.width) b)
    where
      go : Dec (b < a.start) → Dec (a.start + a.width ≤ b) → (b < a.start) ⊎ (a.start + a.width ≤ b)
      go (yes h) d = inl h
      go (no h) (yes l) = inr l
      go (no h) (no l) = absurd (true≢false (sym ((in_run_lem a b).1 (omega arith, omega arith)) ∙ i))

  row_other : (b : ℕ) → b < 256 → in_run a b ≡ false → bit_at new b ≡ bit_at t (f * 256 + b)
  row_other b h i =
      rw little at
      (packed_other (place_of false b) (places false a.start a.width) (2 ^ 32 - 1) (row t f)
      (places_apart false b a.start a.width (outside b i)))
      ∙ row_bit t f b h

  -- a bit of the row, and of another row
  own_bit : (b : ℕ) → b < 256 → bit_at after (f * 256 + b) ≡ bit_at new b
  unfolding bit_at
  own_bit b h =
      bit_in after f b
      ∙ ap (λ (x : ℕ). bit_of x (b % 8)) (back_byte t new (f * 32) (f * 32 + 32 - f * 32) (b / 8) (omega arith) (rw new_length (omega arith)))

  other_bit : (g b : ℕ) → (g ≡ f → ⊥) → b < 256 → bit_at after (g * 256 + b) ≡ bit_at t (g * 256 + b)
  unfolding bit_at
  other_bit g b other h = ap (λ (x : ℕ). bit_of x ((g * 256 + b) % 8)) (kept_byte t new (f * 32) _ (omega arith) new_length (apart (dec_lt g f)))
    where
      apart : Dec (g < f) → ((g * 256 + b) / 8 < f * 32) ⊎ (f * 32 + 32 ≤ (g * 256 + b) / 8)
      apart (yes l) = inl (omega arith)
      apart (no l) = inr (omega arith)

  bits : (g b : ℕ) → g < 32 → b < 256 → is_used after g b ≡ (is_used t g b || (eqb g f && in_run a b))
  unfolding is_used
  bits g b l h = go (ℕ_discrete g f) (in_run a b) refl
    where
      go : Dec (g ≡ f) → (i : Bool) → in_run a b ≡ i → eqb (bit_at after (g * 256 + b)) 1 ≡ (eqb (bit_at t (g * 256 + b)) 1 || (eqb g f && i))
      go (no other) i e = rw (other_bit g b other h, ne_eqb g f other, or-false) refl
      go (yes same) true e = rw (same, own_bit b h, run_bit b e, eq-eqb f f refl, or-true) refl
      go (yes same) false e = rw (same, own_bit b h, row_other b h e, eq-eqb f f refl, or-false) refl

  -- what comes back is that row
  abbrev borrowed : List ℕ
  borrowed = take (f * 32 + 32 - f * 32) (drop (f * 32) t)

  is_new : packed (places_in (length borrowed) false a.start a.width) (2 ^ 32 - 1) borrowed ≡ new
  is_new =
      let e : f * 32 + 32 - f * 32 ≡ 32 = omega arith in
      rw (e, row_length t f frame size, run_places_lem a.start a.width few inside) refl

  is_added : after ≡ with_run t f a
  unfolding with_run
  is_added = let size : f * 32 + 32 - f * 32 ≡ 32 = omega arith in rw size refl

  pub came_back : {c : List ℕ} → c ≡ packed (places_in (length borrowed) false a.start a.width) (2 ^ 32 - 1) borrowed
      → put_mid (f * 32) (f * 32 + 32 - f * 32) t c ≡ with_run t f a
  came_back e = ap (put_mid (f * 32) (f * 32 + 32 - f * 32) t) (e ∙ is_new) ∙ is_added

  added_right : Added t f a (with_run t f a)
  added_right =
      let sized = mid_len (f * 32) (f * 32 + 32) t (omega arith) in
      rw (← is_added)
      (record { size = same_len_mid (f * 32) (f * 32 + 32 - f * 32) t new (omega (arith, new_length, sized)); bits = bits })

pub added_bits : (t : List ℕ) (f : ℕ) (a : Run) → MayAdd t f a → Added t f a (with_run t f a)
added_bits t f a may = added_right t f a may.frame may.few may.inside may.size
