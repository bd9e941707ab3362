-- Two constructors of one type are apart, and so are two calls by what they are; a call is a closing or is none.
-- Assumes nothing.
use mathlib.Core.Path.{◌≡◌, refl}
use mathlib.Core.Bool.{Bool}
use mathlib.Core.List.{List}
use Prim.Native.Nat.{ℕ}
use native.Mathlib.Omega.{arith}
use Rattle.calls.specs.Relations.{Call, send, invalidate, assemble, consumed, read_flag, deliver, close, receive}

-- from an equation between two constructors `cc` proves any other
pub clash : ◌≡◌ {A = ℕ} 0 1 → ⊥
clash e = omega arith

pub closing : (c : Call) → Dec (close ≡ c)
closing (send m v) = no (λ e. clash cc)
closing (invalidate m) = no (λ e. clash cc)
closing (assemble f b) = no (λ e. clash cc)
closing (consumed f) = no (λ e. clash cc)
closing (read_flag m p) = no (λ e. clash cc)
closing (deliver f valid b) = no (λ e. clash cc)
closing close = yes refl
closing (receive m p) = no (λ e. clash cc)

-- two deliveries that are the same are of the same frame, status and data
pub same_delivery : {f g : ℕ} {valid valid' : Bool} {b c : List ℕ} → deliver f valid b ≡ deliver g valid' c → (f ≡ g) × (valid ≡ valid') × (b ≡ c)
same_delivery e = (cc, cc, cc)
