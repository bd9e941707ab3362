-- Zeros over the first n cells of the deliveries are n deliveries that are none: cell by cell, by the law of one cell.
-- Assumes nothing.
use mathlib.Core.Path.{◌≡◌, refl, ap, sym, ◌∙◌}
use mathlib.Core.List.{List, ◌++◌, append_assoc}
use Prim.Native.Nat.{ℕ, zero, suc, ◌+◌, ◌*◌, ◌<◌, ◌≤◌}
use native.Mathlib.Numerals.{add-one}
use native.Mathlib.Nat.{add_assoc}
use native.Mathlib.Omega.{arith}
use lib.ListN.{length, get_or, set, take, drop, replicate, length-append, length-replicate, replicate-append-replicate, take-append-drop}
use lib.Seq.{drop-cons, set_at, take_at, length-take-le}
use Rattle.store.specs.Memory.{overwritten}
use Rattle.store.specs.Node.{Delivery, Node, delivery_of, deliveries_at, node_size, state_of, node_of, no_delivery, with_deliveries, with_delivery, node_with}
use Rattle.store.proofs.Parts.{length_over, behind}
use Rattle.store.proofs.Places.{delivery_written}
use Rattle.store.proofs.Laws.{deliveries_length}

-- two writes, one behind the other
over_twice : (b : List ℕ) (at s t : ℕ) (c d : List ℕ) → at + s + t ≤ length b → length c ≡ s
    → overwritten (overwritten b at s c) (at + s) t d ≡ overwritten b at (s + t) (c ++ d)
over_twice b at s t c d fits sized =
    let front : length (take at b ++ c) ≡ at + s = rw (length-append, length-take-le at b (omega arith), sized) refl in
    let first : take (at + s) (overwritten b at s c) ≡ take at b ++ c =
    ap (take (at + s)) (sym (append_assoc (take at b) c (drop (at + s) b))) ∙ take_at (take at b ++ c) (drop (at + s) b) (at + s) front in
    let rest : drop (at + s + t) (overwritten b at s c) ≡ drop (at + (s + t)) b =
    behind b at s c (omega arith) sized (at + s + t) (omega arith) ∙ ap (λ (k : ℕ). drop k b) (add_assoc at s t) in
    rw (first, rest) (simp append_assoc)

-- zeros, and 33 more
zeros_more : (b : List ℕ) (at m : ℕ) → at + m + 33 ≤ length b
    → overwritten b at (m + 33) (replicate (m + 33) 0) ≡ overwritten (overwritten b at m (replicate m 0)) (at + m) 33 (replicate 33 0)
zeros_more b at m fits =
    ap (overwritten b at (m + 33)) (sym (replicate-append-replicate {A = ℕ} m 33 0))
    ∙ sym (over_twice b at m 33 (replicate m 0) (replicate 33 0) fits (length-replicate {A = ℕ} m 0))

-- one element more
module _ {A : Type 0} (x : A) where
  abbrev pub first_are : List A → ℕ → List A
  first_are l n = replicate n x ++ drop n l

  one_more : (l : List A) (n : ℕ) → n < length l → set (first_are l n) n x ≡ first_are l (n + 1)
  one_more l n h =
      rw (← replicate-append-replicate n 1 x, append_assoc, drop-cons l n x h, ← add-one n)
      (set_at (replicate n x) (get_or l n x) (drop (n + 1) l) x n (length-replicate n x))

module _ (b : List ℕ) (size : length b ≡ node_size) where
  abbrev pub zeroed : ℕ → List ℕ
  zeroed n = overwritten b deliveries_at (n * 33) (replicate (n * 33) 0)

  pub forgotten : (n : ℕ) → n ≤ 32 → node_of (zeroed n) ≡ node_with (node_of b) (with_deliveries (state_of b) (first_are no_delivery (state_of b).deliveries n))
  unfolding delivery_of
  forgotten zero few = ap node_of (take-append-drop deliveries_at b)
  forgotten (suc n) few =
      let more : suc n * 33 ≡ n * 33 + 33 = omega arith in
      let cell = ap (λ (k : ℕ). overwritten b deliveries_at k (replicate k 0)) more ∙ zeros_more b deliveries_at (n * 33) (omega arith) in
      let sized : length (zeroed n) ≡ node_size =
      length_over b deliveries_at (n * 33) (replicate (n * 33) 0) (omega arith) (length-replicate {A = ℕ} (n * 33) 0) ∙ size in
      ap node_of cell
      ∙ delivery_written (zeroed n) sized n (replicate 33 0) (omega arith) refl
      ∙ ap (λ (m : Node). node_with m (with_delivery m.state n no_delivery)) (forgotten n (omega arith))
      ∙ ap (λ (l : List Delivery). node_with (node_of b) (with_deliveries (state_of b) l))
      (one_more no_delivery (state_of b).deliveries n (omega (arith, deliveries_length b))
      ∙ ap (first_are no_delivery (state_of b).deliveries) (add-one n))
