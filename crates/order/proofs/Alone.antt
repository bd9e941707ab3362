-- One instance alone is what it agrees on, whatever the agreement, if the message can hold it: of whole numbers it is picked, is its own mean and has
-- the only vote; of floats the same is a claim of `agreement`.
-- Assumes nothing.
use mathlib.Core.Path.{◌≡◌, refl, ap}
use mathlib.Core.Bool.{Bool, true, false, cond, and-eq-true_iff, false≢true}
use mathlib.Core.List.{[], ◌∷◌}
use Prim.Native.Nat.{ℕ, zero, suc, ◌-◌, ◌/◌, ◌^◌, ◌<◌, ◌≤◌}
use native.Mathlib.Omega.{arith}
use lib.Dec.{leb}
use lib.IntN.{ℤ, pos, negsuc, +ℤ_idr}
use lib.Signed.{quot_z}
use borrow.Author.Tests.{leb-true, not-true}
use Rattle.std.specs.Prelude.{Some}
use Rattle.whole.specs.Whole.{all_of}
use Rattle.whole.proofs.Integers.{eq_z_same}
use Rattle.packing.specs.Values.{is_width, least, greatest, in_range, pattern_of}
use Rattle.packing.proofs.Values.{range_wider}
use Rattle.float.specs.Patterns.{aside}
use Rattle.agreement.specs.Agreement.{sum_of, mean_of, message_value, message_values, average, ahead, one_that, vote, agreed}
use Rattle.agreement.specs.Floats.{floats_agreed}
use Rattle.agreement.proofs.FloatLaws.{float_claims}
use Rattle.agreement.proofs.Passed.{is_finite, pattern_back}
use Rattle.store.specs.declared.Message.{Message}
use Rattle.store.specs.Node.{is_signed, is_float}
use Rattle.message.specs.Messages.{can_hold, agreed_by}
use Rattle.message.proofs.Held.{float_unsigned, held_in_range, held_finite}
use Rattle.closing.proofs.Instances.{in_range_value}

-- ---- whole numbers

mean_alone : (v : ℤ) → mean_of (v ∷ []) ≡ v
unfolding mean_of sum_of
mean_alone v = rw (+ℤ_idr v) (by_one v)
  where
    by_one : (v : ℤ) → quot_z v (pos 1) ≡ v
    by_one (pos n) = ap pos (omega arith)
    by_one (negsuc n) = let same : suc n / 1 ≡ suc n = omega arith in rw same refl

whole_alone : (k : ℕ) (v : ℤ) → k ≤ 2 → message_value v ≡ true → agreed k (v ∷ []) ≡ Some v
unfolding agreed average message_values all_of vote one_that ahead
whole_alone zero v h t = refl
whole_alone (suc zero) v h t = rw (t, mean_alone v) refl
whole_alone (suc (suc zero)) v h t = rw (eq_z_same v v refl) refl
whole_alone (suc (suc (suc k))) v h t = absurd (omega arith)

-- ---- floats

float_alone : (k : ℕ) (v : ℤ) → k ≤ 2 → in_range false 32 v ≡ true → is_finite v ≡ true → floats_agreed k (v ∷ []) ≡ Some v
unfolding in_range is_width least greatest
float_alone k (pos x) h t finite =
    let most = leb-true x (2 ^ 32 - 1) ((and-eq-true_iff (leb 0 x) (leb x (2 ^ 32 - 1))).0 t).1 in
    let small : x < 2 ^ 32 = omega arith in
    float_claims.alone k (omega arith) x small (rw (pattern_back x small) at (not-true (aside (pattern_of 32 (pos x))) finite))
float_alone k (negsuc n) h t finite = absurd (false≢true t)

-- ---- a message's one instance

pub alone : (g : Message) (v : ℤ) → g.agreement ≤ 2 → can_hold g v ≡ true → agreed_by g (v ∷ []) ≡ Some v
unfolding agreed_by
alone g v h t = go (is_float g) refl
  where
    range : in_range (is_signed g) g.width v ≡ true
    range = held_in_range g v t

    go : (float : Bool) → is_float g ≡ float → cond float (floats_agreed g.agreement (v ∷ [])) (agreed g.agreement (v ∷ [])) ≡ Some v
    go true f = float_alone g.agreement v h (rw (float_unsigned g f) at (range_wider (is_signed g) g.width v range)) (held_finite g v f t)
    go false f = whole_alone g.agreement v h (in_range_value (is_signed g) g.width v range)
