-- `store::fill` meets its contract. The invariant: the bytes before the one whose turn it is are k, and the others are as they were.
-- Assumes nothing.
use mathlib.Core.Path.{◌≡◌}
use mathlib.Core.List.{List, ◌++◌}
use Prim.Native.Nat.{ℕ}
use lib.ListN.{drop, replicate}
use Rattle.store.proofs.fill.Given as goal

abbrev pub filled_to : List ℕ → ℕ → ℕ → List ℕ
filled_to l k i = replicate i k ++ drop i l

abbrev pub invariant-loop-x : goal.invariant-loop-x
invariant-loop-x l = l.x-items ≡ filled_to l.fn.c l.k l.x-index
