-- The values that a message can hold: of whole numbers those of its range, of floats the finite patterns. A word that fits has such a value.
-- Assumes nothing.
use mathlib.Core.Path.{◌≡◌, refl}
use mathlib.Core.Bool.{Bool, true, false, not, ◌&&◌, and-eq-true_iff}
use Prim.Native.Nat.{ℕ, ◌-◌, ◌^◌, ◌<◌}
use native.Mathlib.Omega.{arith}
use lib.Dec.{leb}
use lib.IntN.{ℤ, pos}
use borrow.Author.Tests.{ne_eqb, eqb-true, leb-true}
use Rattle.packing.specs.Values.{is_width, least, greatest, in_range, value_of, pattern_of}
use Rattle.packing.proofs.Values.{range_wider}
use Rattle.float.specs.Patterns.{aside}
use Rattle.agreement.proofs.Passed.{is_finite, pattern_back}
use Rattle.store.specs.declared.Message.{Message}
use Rattle.store.specs.Node.{is_signed, is_float}
use Rattle.message.specs.Messages.{can_hold}

module _ (g : Message) where
  pub float_unsigned : is_float g ≡ true → is_signed g ≡ false
  float_unsigned f = ne_eqb g.sign 1 (two g.sign (eqb-true g.sign 2 f))
    where
      two : (k : ℕ) → k ≡ 2 → k ≡ 1 → ⊥
      two k e h = omega arith

  module _ (v : ℤ) where
    pub holds_whole : is_float g ≡ false → in_range (is_signed g) g.width v ≡ true → can_hold g v ≡ true
    unfolding can_hold
    holds_whole f r = rw (r, f) refl

    pub holds_float : is_float g ≡ true → g.width ≡ 32 → in_range (is_signed g) 32 v ≡ true → is_finite v ≡ true → can_hold g v ≡ true
    unfolding can_hold
    holds_float f w r a = rw (f, w, r) a

    pub held_in_range : can_hold g v ≡ true → in_range (is_signed g) g.width v ≡ true
    unfolding can_hold
    held_in_range t = ((and-eq-true_iff (in_range (is_signed g) g.width v) _).0 t).0

    pub held_finite : is_float g ≡ true → can_hold g v ≡ true → is_finite v ≡ true
    unfolding can_hold
    held_finite f t = rw f at ((and-eq-true_iff (in_range (is_signed g) g.width v) _).0 t).1

-- the value of a pattern, if it is in some message's range, has that pattern
in_range_small : (w x : ℕ) → in_range false w (pos x) ≡ true → x < 2 ^ 32
unfolding in_range is_width least greatest
in_range_small w x t =
    let wide = range_wider false w (pos x) t in
    let most = leb-true x (2 ^ 32 - 1) ((and-eq-true_iff (leb 0 x) (leb x (2 ^ 32 - 1))).0 wide).1 in
    omega arith

pub word_held : (g : Message) (x : ℕ) → in_range (is_signed g) g.width (value_of (is_signed g) 32 x) ≡ true → (is_float g ≡ true → aside x ≡ false)
    → can_hold g (value_of (is_signed g) 32 x) ≡ true
unfolding can_hold value_of
word_held g x r finite = go (is_float g) refl
  where
    go : (float : Bool) → is_float g ≡ float
        → (in_range (is_signed g) g.width (value_of (is_signed g) 32 x) && not (float && aside (pattern_of 32 (value_of (is_signed g) 32 x)))) ≡ true
    go true f =
        let unsigned = float_unsigned g f in
        let small = in_range_small g.width x (rw unsigned at r) in
        rw (r, unsigned, pattern_back x small, finite f) refl
    go false f = rw r refl
