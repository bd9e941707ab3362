use mathlib.Core.Path.{◌≡◌, refl, ap, ◌∙◌}
use mathlib.Core.List.{List, append-nil, append_assoc}
use Prim.Native.Nat.{ℕ, ◌+◌, ◌<◌}
use native.Mathlib.Numerals.{add-one}
use native.Mathlib.Omega.{arith}
use lib.ListN.{length, get_or, set, drop, replicate, length-replicate, replicate-append-replicate}
use lib.Seq.{drop-cons, drop-length, set_at}
use Rattle.store.proofs.fill.Invariants.{filled_to}
use Rattle.store.proofs.fill.Goals as goal

-- a turn: one byte more is k
turn : (l : List ℕ) (k i : ℕ) → i < length l → set (filled_to l k i) i k ≡ filled_to l k (i + 1)
turn l k i h =
    let rest : List ℕ = drop (i + 1) l in
    rw (← replicate-append-replicate i 1 k, append_assoc, drop-cons l i 0 h, ← add-one i)
    (set_at (replicate i k) (get_or l i 0) rest k i (length-replicate i k))

filled : (l : List ℕ) (k : ℕ) → filled_to l k (length l) ≡ replicate (length l) k
filled l k = rw drop-length (append-nil (replicate (length l) k))

pub loop-x-init : goal.loop-x-init
loop-x-init c = refl

pub loop-x-preserved : goal.loop-x-preserved
loop-x-preserved c =
    let a = c.args in
    let i = c.loop-x.x-index in
    ap (λ (l : List ℕ). set l i a.k) c.loop-x.invariant ∙ turn a.c.now a.k i (omega arith)

pub returns : goal.returns
returns c =
    let a = c.args in
    let e : c.loop-x.x-index ≡ length a.c.now = omega arith in
    c.loop-x.invariant ∙ ap (filled_to a.c.now a.k) e ∙ filled a.c.now a.k
