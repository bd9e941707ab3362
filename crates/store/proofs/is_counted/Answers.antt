-- `store::is_counted` meets its contract: a number is below the least of two exactly if it is below both. Assumes nothing.
use mathlib.Core.Path.{◌≡◌, refl}
use mathlib.Core.Bool.{◌&&◌}
use Prim.Native.Nat.{ℕ, ◌<◌, min}
use native.Mathlib.Decide.{dec_lt}
use native.Mathlib.Omega.{arith}
use lib.Dec.{ltb}
use borrow.Author.Tests.{lt-ltb, le-ltb}
use Rattle.store.proofs.is_counted.Goals as goal

both_below : (x k m : ℕ) → (ltb x m && ltb x k) ≡ ltb x (min k m)
both_below x k m = go (dec_lt x m) (dec_lt x k)
  where
    go : Dec (x < m) → Dec (x < k) → (ltb x m && ltb x k) ≡ ltb x (min k m)
    go (yes a) (yes b) = rw (lt-ltb x m a, lt-ltb x k b, lt-ltb x (min k m) (omega arith)) refl
    go (yes a) (no b) = rw (lt-ltb x m a, le-ltb x k (omega arith), le-ltb x (min k m) (omega arith)) refl
    go (no a) b = rw (le-ltb x m (omega arith), le-ltb x (min k m) (omega arith)) refl

pub returns : goal.returns
returns c = both_below c.args.number c.args.count 32
