use mathlib.Core.Path.{◌≡◌, ap, sym, ◌∙◌}
use mathlib.Core.List.{List, ◌++◌, append-nil}
use Prim.Native.Nat.{ℕ, ◌+◌, ◌≤◌, ◌<◌}
use native.Mathlib.Nat.{zero-add}
use native.Mathlib.Omega.{arith}
use lib.ListN.{length, get_or, set, drop, drop_of_length-le}
use lib.Seq.{paste}
use Rattle.std.proofs.lemmas.List.Edits.{paste_all, paste_more}
use Rattle.store.proofs.copy.Goals as goal

-- a turn: one byte more is copied
turn : (to from : List ℕ) (k : ℕ) → k < length to → k < length from → set (paste to 0 from k) k (get_or from k 0) ≡ paste to 0 from (k + 1)
turn to from k h i =
    ap (λ (j : ℕ). set (paste to 0 from k) j (get_or from k 0)) (sym (zero-add k))
    ∙ paste_more to 0 from k 0 (rw zero-add h) i

pub loop-k-preserved : goal.loop-k-preserved
loop-k-preserved c =
    let from = c.args.from.now in
    let k = c.loop-k.k in
    ap (λ (l : List ℕ). set l k (get_or from k 0)) c.loop-k.invariant ∙ turn c.args.to.now from k (omega arith) (omega arith)

-- nothing is left of what was there
all : (to from : List ℕ) → length to ≤ length from → from ++ drop (length from) to ≡ from
all to from h = ap (λ (l : List ℕ). from ++ l) (drop_of_length-le to h) ∙ append-nil from

pub returns : goal.returns
returns c =
    let to = c.args.to.now in
    let from = c.args.from.now in
    let e : c.loop-k.k ≡ length from = omega arith in
    c.loop-k.invariant ∙ paste_all to 0 from c.loop-k.k e ∙ rw (e, zero-add) (all to from (omega arith))
