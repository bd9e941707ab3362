-- The filters come in pairs: each odd one passes exactly what the even one before it does not.
-- Assumes nothing.
use mathlib.Core.Path.{◌≡◌, refl, ap, sym, ◌∙◌}
use mathlib.Core.Bool.{Bool, true, false, not, ◌&&◌, ◌||◌, not-not}
use lib.IntN.{ℤ}
use lib.Signed.{lt_z, le_z}
use Rattle.whole.proofs.Integers.{at_most_lem}
use Rattle.filter.specs.Filter.{compared, at_most, bound, rules, passes}
use Rattle.filter.specs.Claims.{Claims}

less : (a b : ℤ) → lt_z a b ≡ not (le_z b a)
less a b = sym (not-not (lt_z a b)) ∙ ap not (sym (at_most_lem b a))

not_both : (s t : Bool) → (not s || not t) ≡ not (s && t)
not_both true t = refl
not_both false t = refl

pub claims : Claims
unfolding passes rules
claims =
    record {
      never = λ sign x1 x2 new old. refl;
      masked_otherwise = λ sign x1 x2 new old. refl;
      otherwise = λ sign x1 x2 new old. refl;
      masked_changed = λ sign x1 x2 new old. refl;
      outside = λ sign x1 x2 new old.
          rw (less (compared sign new) (compared sign (bound sign x1)), less (compared sign (bound sign x2)) (compared sign new))
          (not_both (at_most sign (bound sign x1) new) (at_most sign new (bound sign x2)));
      at_most_lem = λ sign x1 x2 new old. at_most_lem (compared sign new) (compared sign old);
      at_least = λ sign x1 x2 new old. at_most_lem (compared sign old) (compared sign new);
    }
