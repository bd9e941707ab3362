-- The kit's sum and quotient write the patterns that specs/Rounding.antt defines: a sum is rounded once, and so is a quotient.
-- Assumes nothing.
use mathlib.Core.Path.{◌≡◌, refl, ap, sym, ◌∙◌, subst}
use mathlib.Core.Bool.{Bool, true, false, cond, ◌&&◌}
use Prim.Native.Nat.{ℕ, zero, suc, ◌+◌, ◌-◌, ◌*◌, ◌^◌, ◌≤◌, ◌<◌}
use native.Mathlib.Nat.{lt_of_mul-lt-mul_right, mul-lt-mul_of_pos_right, le_of_mul-le-mul_right, mul-le-mul_right, mul-one, mul_comm, mul_assoc, mul_left_comm, mul_right_comm, mul-pos, add-mul, mul-sub, add-zero, sub-zero, lt_irrefl, zero-mul, zero-lt-suc, zero-mod, zero-div}
use native.Mathlib.Omega.{arith}
use lib.Dec.{T, ltb, eqb}
use lib.IntN.{ℤ, pos, negsuc, neg_ℤ, sub_ℕ, ◌+ℤ◌, neg_ℤ-+ℤ, +ℤ_comm}
use lib.Pow.{pow_pos}
use lib.Ieee.{size, Float, nan, inf, fin, binary32, up, down, round, sum, add, div, of_int, fits, to_bits, of_bits, unlike}
use lib.Ieee.Back.{round_whole}
use lib.Ieee.Fits.{down_pos}
use lib.Ieee.Exact.{HasValue}
use lib.Ieee.Scale.{round_same}
use borrow.Author.Tests.{ltb-true, ltb-false, lt-ltb, le-ltb, ne_eqb}
use Rattle.float.specs.Patterns.{negative, aside, size_of, float_number}
use Rattle.float.specs.Rounding.{nearest_even, dropped, unbounded, rounded, with_sign, rounded_to, plus, over}
use Rattle.float.proofs.Digits.{nearest_low}
use Rattle.float.proofs.Bits.{round_bits}
use Rattle.float.proofs.Values.{Units, Aside, finite_bits, finite_value, aside_value}

-- ---- two fractions X / z and Y / z that are a / l and b / l

module _ (X Y z a b l : ℕ) (Z : 0 < z) (L : 0 < l) (p : X * l ≡ a * z) (q : Y * l ≡ b * z) where
  pub same_order : ltb X Y ≡ ltb a b
  same_order = go (ltb a b) refl
    where
      go : (t : Bool) → ltb a b ≡ t → ltb X Y ≡ t
      go true e = lt-ltb X Y (lt_of_mul-lt-mul_right l (rw (p, q) (mul-lt-mul_of_pos_right (ltb-true a b e) Z)))
      go false e = le-ltb X Y (le_of_mul-le-mul_right (rw (p, q) (mul-le-mul_right z (ltb-false a b e))) L)

  pub same_sum : (X + Y) * l ≡ (a + b) * z
  same_sum = add-mul X Y l ∙ rw (p, q) (sym (add-mul a b z))

  same_difference : (X - Y) * l ≡ (a - b) * z
  same_difference = mul_comm (X - Y) l ∙ mul-sub l X Y ∙ rw (mul_comm l X, mul_comm l Y, p, q) (sym (mul_comm (a - b) z ∙ mul-sub z a b ∙ rw (mul_comm z a, mul_comm z b) refl))

-- ---- the kit's sum of two values in units

module _ (s t : Bool) (X Y z a b l : ℕ) (Z : 0 < z) (L : 0 < l) (p : X * l ≡ a * z) (q : Y * l ≡ b * z) where
  sum_same : sum binary32 s X t Y z ≡ sum binary32 s a t b l
  unfolding sum
  sum_same =
      rw (
        same_order X Y z a b l Z L p q,
        same_order Y X z b a l Z L q p,
        round_same binary32 s (X + Y) z (a + b) l Z L (same_sum X Y z a b l Z L p q),
        round_same binary32 t (Y - X) z (b - a) l Z L (same_difference Y X z b a l Z L q p),
        round_same binary32 (s && ltb b a) (X - Y) z (a - b) l Z L (same_difference X Y z a b l Z L p q),
      ) refl

-- X / (g * h) for the numerator n * h over g
pub wider : (n g h a l : ℕ) → n * l ≡ a * g → n * h * l ≡ a * (g * h)
wider n g h a l e = mul_right_comm n h l ∙ ap (λ x. x * h) e ∙ mul_assoc a g h

pub add_is : (v w : Float) (s t : Bool) (a b : ℕ) → Units v s a → Units w t b → add binary32 v w ≡ sum binary32 s a t b (2 ^ 149)
unfolding add
add_is nan w s t a b h k = absurd h
add_is (inf u) w s t a b h k = absurd h
add_is (fin u m e) nan s t a b h k = absurd k
add_is (fin u m e) (inf r) s t a b h k = absurd k
add_is (fin u m e) (fin r n d) s t a b h k =
    ap (λ x. sum binary32 x (m * up e * down d) r (n * up d * down e) (down e * down d)) h.0
    ∙ ap (λ x. sum binary32 s (m * up e * down d) x (n * up d * down e) (down e * down d)) k.0
    ∙ sum_same s t (m * up e * down d) (n * up d * down e) (down e * down d) a b (2 ^ 149) (mul-pos (down_pos e) (down_pos d)) (pow_pos 149)
    (wider (m * up e) (down e) (down d) a (2 ^ 149) h.1) (wider (n * up d) (down d) (down e) b (2 ^ 149) k.1 ∙ ap (λ x. b * x) (mul_comm (down d) (down e)))

-- ---- rounded, by the number

nearest_none : (d : ℕ) → 0 < d → nearest_even 0 d ≡ 0
nearest_none d D = nearest_low 0 d (rw zero-mod D) ∙ zero-div d

drops_none : (d : ℕ) → dropped 0 d ≡ 0
unfolding dropped size
drops_none d = ap (λ x. size x - 24) (zero-div d)

pub unbounded_none : (d : ℕ) → 0 < d → unbounded 0 d ≡ 0
unfolding unbounded
unbounded_none d D = rw (drops_none d, nearest_none (d * 1) (mul-pos D (zero-lt-suc 0))) refl

rounded_none : (d : ℕ) → 0 < d → rounded 0 d ≡ 0
unfolding rounded
rounded_none d D = rw (unbounded_none d D) refl

pub rounded_pos : (n d : ℕ) → 0 < d → rounded_to false (pos n) d ≡ with_sign false (rounded n d)
unfolding rounded_to
rounded_pos zero d D = ap (with_sign false) (sym (rounded_none d D))
rounded_pos (suc n) d D = refl

pub rounded_neg : (n d : ℕ) → 0 < d → rounded_to true (neg_ℤ (pos n)) d ≡ with_sign true (rounded n d)
unfolding rounded_to
rounded_neg zero d D = ap (with_sign true) (sym (rounded_none d D))
rounded_neg (suc n) d D = refl

-- below 0 the sign does not turn on that of a zero
rounded_below : (s : Bool) (n d : ℕ) → rounded_to s (negsuc n) d ≡ with_sign true (rounded (suc n) d)
unfolding rounded_to
rounded_below s n d = refl

-- ---- the number of a sign and a size

abbrev pub number : Bool → ℕ → ℤ
number s a = cond s (neg_ℤ (pos a)) (pos a)

pub minus_is : (a b : ℕ) → pos a +ℤ neg_ℤ (pos b) ≡ sub_ℕ a b
minus_is a zero = rw (le-ltb a 0 (omega arith)) (ap pos (add-zero a ∙ sym (sub-zero a)))
minus_is a (suc b) = refl

-- the sum of two numbers of unlike signs, rounded
module _ (a b : ℕ) where
  unlike_sum : rounded_to false (sub_ℕ a b) 1 ≡ cond (ltb a b) (with_sign true (rounded (b - a) 1)) (with_sign false (rounded (a - b) 1))
  unlike_sum = go (ltb a b) refl
    where
      up_one : (a b : ℕ) → a < b → suc (b - suc a) ≡ b - a
      up_one a b h = omega arith

      go : (t : Bool) → ltb a b ≡ t → rounded_to false (cond t (negsuc (b - suc a)) (pos (a - b))) 1 ≡ cond t (with_sign true (rounded (b - a) 1)) (with_sign false (rounded (a - b) 1))
      go true e = rounded_below false (b - suc a) 1 ∙ ap (λ x. with_sign true (rounded x 1)) (up_one a b (ltb-true a b e))
      go false e = rounded_pos (a - b) 1 (zero-lt-suc 0)

bits_at : (s : Bool) (n : ℕ) → to_bits binary32 (round binary32 s n (2 ^ 149)) ≡ with_sign s (rounded n 1)
bits_at s n = round_bits s n 1 (zero-lt-suc 0)

cond_bits : (t : Bool) (v w : Float) → to_bits binary32 (cond t v w) ≡ cond t (to_bits binary32 v) (to_bits binary32 w)
cond_bits true v w = refl
cond_bits false v w = refl

sum_bits : (s t : Bool) (a b : ℕ) → to_bits binary32 (sum binary32 s a t b (2 ^ 149)) ≡ rounded_to (s && t) (number s a +ℤ number t b) 1
unfolding sum
sum_bits false false a b = bits_at false (a + b) ∙ sym (rounded_pos (a + b) 1 (zero-lt-suc 0))
sum_bits true true a b = bits_at true (a + b) ∙ sym (ap (λ x. rounded_to true x 1) (sym (neg_ℤ-+ℤ (pos a) (pos b))) ∙ rounded_neg (a + b) 1 (zero-lt-suc 0))
sum_bits false true a b =
    cond_bits (ltb a b) (round binary32 true (b - a) (2 ^ 149)) (round binary32 false (a - b) (2 ^ 149))
    ∙ rw (bits_at true (b - a), bits_at false (a - b)) (sym (ap (λ x. rounded_to false x 1) (minus_is a b) ∙ unlike_sum a b))
sum_bits true false a b =
    cond_bits (ltb a b) (round binary32 false (b - a) (2 ^ 149)) (round binary32 (ltb b a) (a - b) (2 ^ 149))
    ∙ rw (bits_at false (b - a), bits_at (ltb b a) (a - b)) (go (ltb a b) refl (ltb b a) refl)
    ∙ sym (ap (λ x. rounded_to false x 1) (+ℤ_comm (neg_ℤ (pos a)) (pos b) ∙ minus_is b a) ∙ unlike_sum b a)
  where
    go : (x : Bool) → ltb a b ≡ x → (y : Bool) → ltb b a ≡ y
        → cond x (with_sign false (rounded (b - a) 1)) (with_sign y (rounded (a - b) 1)) ≡ cond y (with_sign true (rounded (a - b) 1)) (with_sign false (rounded (b - a) 1))
    go true e true r = absurd (both a b (ltb-true a b e) (ltb-true b a r))
      where
        both : (a b : ℕ) → a < b → b < a → ⊥
        both a b h k = omega arith
    go true e false r = refl
    go false e true r = refl
    go false e false r = ap (λ x. with_sign false (rounded x 1)) (flat a b (ltb-false a b e) (ltb-false b a r))
      where
        flat : (a b : ℕ) → b ≤ a → a ≤ b → a - b ≡ b - a
        flat a b h k = omega arith

-- ---- x + y

aside_plus : (v w : Float) (t : Bool) (b : ℕ) → Aside v → Units w t b → add binary32 v w ≡ v
unfolding add
aside_plus nan w t b h k = refl
aside_plus (inf s) nan t b h k = absurd k
aside_plus (inf s) (inf r) t b h k = absurd k
aside_plus (inf s) (fin r n d) t b h k = refl
aside_plus (fin s m e) w t b h k = absurd h

pub plus_is : (v : Float) (y : ℕ) → T (fits binary32 v) → aside y ≡ false → to_bits binary32 (add binary32 v (of_bits binary32 y)) ≡ plus (to_bits binary32 v) y
unfolding plus float_number to_bits
plus_is v y f t = go (aside x) refl
  where
    x : ℕ
    x = to_bits binary32 v

    go : (b : Bool) → aside x ≡ b → to_bits binary32 (add binary32 v (of_bits binary32 y)) ≡ cond b x (rounded_to (negative x && negative y) (float_number x +ℤ float_number y) 1)
    go true e = ap (to_bits binary32) (aside_plus v (of_bits binary32 y) (negative y) (size_of y) (aside_value v f e) (finite_bits y t))
    go false e =
        ap (to_bits binary32) (add_is v (of_bits binary32 y) (negative x) (negative y) (size_of x) (size_of y) (finite_value v f e) (finite_bits y t))
        ∙ sum_bits (negative x) (negative y) (size_of x) (size_of y)

-- ---- x / n

quotient_cross : (A E D N a c l : ℕ) → A * l ≡ a * E → N * 1 ≡ c * D → A * D * (c * l) ≡ a * (N * E)
quotient_cross A E D N a c l p q =
    let r : N ≡ c * D = sym (mul-one N) ∙ q in
    rw r (simp (mul_assoc, mul_comm, mul_left_comm) (simp (mul_assoc, mul_comm, mul_left_comm) at (ap (λ x. x * (c * D)) p)))

not_none : (n u c D : ℕ) → n * u * 1 ≡ c * D → 0 < c → 0 < D → eqb n 0 ≡ false
not_none zero u c D e C P = absurd (lt_irrefl 0 (subst (λ x. 0 < x) (sym e ∙ mul-one (0 * u) ∙ zero-mul u) (mul-pos C P)))
not_none (suc n) u c D e C P = ne_eqb (suc n) 0 (λ z. omega arith)

keeps_sign : (s : Bool) → unlike s false ≡ s
keeps_sign true = refl
keeps_sign false = refl

div_is : (v w : Float) (s : Bool) (a c : ℕ) → 0 < c → Units v s a → HasValue w false c 1 → div binary32 v w ≡ round binary32 s a (c * 2 ^ 149)
unfolding div
div_is nan w s a c C h k = absurd h
div_is (inf u) w s a c C h k = absurd h
div_is (fin u m e) nan s a c C h k = absurd k
div_is (fin u m e) (inf r) s a c C h k = absurd k
div_is (fin u m e) (fin r n d) s a c C h k =
    rw (not_none n (up d) c (down d) k.1 C (down_pos d))
    (ap (λ x. round binary32 (unlike u x) (m * up e * down d) (n * up d * down e)) k.0
    ∙ ap (λ x. round binary32 x (m * up e * down d) (n * up d * down e)) (keeps_sign u ∙ h.0)
    ∙ round_same binary32 s (m * up e * down d) (n * up d * down e) a (c * 2 ^ 149) (mul-pos (subst (λ x. 0 < x) (sym (sym (mul-one (n * up d)) ∙ k.1)) (mul-pos C (down_pos d))) (down_pos e)) (mul-pos C (pow_pos 149))
    (quotient_cross (m * up e) (down e) (down d) (n * up d) a c (2 ^ 149) h.1 k.1))

aside_over : (v w : Float) (c : ℕ) → Aside v → HasValue w false c 1 → div binary32 v w ≡ v
unfolding div
aside_over nan w c h k = refl
aside_over (inf s) nan c h k = absurd k
aside_over (inf s) (inf r) c h k = absurd k
aside_over (inf s) (fin r n d) c h k = ap inf (ap (unlike s) k.0 ∙ keeps_sign s)
aside_over (fin s m e) w c h k = absurd h

rounded_number : (s : Bool) (a d : ℕ) → 0 < d → rounded_to s (number s a) d ≡ with_sign s (rounded a d)
rounded_number true a d D = rounded_neg a d D
rounded_number false a d D = rounded_pos a d D

pub over_is : (v : Float) (n : ℕ) → T (fits binary32 v) → 0 < n → n ≤ 2 ^ 24 → to_bits binary32 (div binary32 v (of_int binary32 (pos n))) ≡ over (to_bits binary32 v) n
unfolding over of_int float_number to_bits
over_is v n f N M = go (aside x) refl
  where
    x : ℕ
    x = to_bits binary32 v

    w : Float
    w = of_int binary32 (pos n)

    value : HasValue (round binary32 false n 1) false n 1
    value = round_whole binary32 false n M

    go : (b : Bool) → aside x ≡ b → to_bits binary32 (div binary32 v w) ≡ cond b x (rounded_to (negative x) (float_number x) n)
    go true e = ap (to_bits binary32) (aside_over v w n (aside_value v f e) value)
    go false e =
        ap (to_bits binary32) (div_is v w (negative x) (size_of x) n N (finite_value v f e) value)
        ∙ round_bits (negative x) (size_of x) n N
        ∙ sym (rounded_number (negative x) (size_of x) n N)
