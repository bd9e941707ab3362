-- What is wrong with a record is told by its own bytes.
-- Assumes nothing.
use mathlib.Core.Path.{◌≡◌, refl, ap}
use mathlib.Core.Bool.{Bool, true, false, cond}
use mathlib.Core.List.{List}
use Prim.Native.Nat.{ℕ, ◌<◌}
use native.Mathlib.Omega.{arith}
use Rattle.record.specs.Numbers.{any_below, least_below}
use Rattle.record.specs.Records.{record_bytes}
use Rattle.record.proofs.Searches.{any_same, least_below_lem, least_same}
use Rattle.record.proofs.Own.{own_byte, own_frame, own_message, own_field}
use Rattle.ranges.specs.Ranges.{Finding, is_wrong, finding_at, wrong_at, fault_at, lowest_fault, range_fault}
use Rattle.std.specs.Prelude.{Ok}

-- the lowest fault depends on what is found at the 24 bytes
same_lowest : (p q : ℕ → Finding) → ((k : ℕ) → k < 24 → p k ≡ q k) → lowest_fault p ≡ lowest_fault q
unfolding lowest_fault wrong_at
same_lowest p q h =
    let same : (k : ℕ) → k < 24 → wrong_at p k ≡ wrong_at q k = λ k l. ap is_wrong (h k l) in
    rw (any_same (wrong_at p) (wrong_at q) 24 same, least_same (wrong_at p) (wrong_at q) 24 same) (go (any_below (wrong_at q) 24) refl)
  where
    go :
        (b : Bool) → any_below (wrong_at q) 24 ≡ b
        → let k = least_below (wrong_at q) 24 in
        cond b (fault_at k (p k)) (Ok tt) ≡ cond b (fault_at k (q k)) (Ok tt)
    go true e = rw (h (least_below (wrong_at q) 24) (least_below_lem (wrong_at q) 24 e).below) refl
    go false e = refl

pub own_range : (s : List ℕ) (i : ℕ) → range_fault (record_bytes s i) 0 ≡ range_fault s i
unfolding range_fault finding_at
own_range s i =
    same_lowest (finding_at (record_bytes s i) 0) (finding_at s i)
    (λ k l. rw (own_byte s i 0 (omega arith), own_frame s i, own_message s i, own_field s i, own_byte s i k l) refl)
