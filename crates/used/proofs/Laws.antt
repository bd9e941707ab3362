-- The laws of the table. Whether a run has a used bit is a search among its bits: it follows the bits, and where the bits are those of a table with a run
-- with_run it falls apart into the search in the old table and the one for a bit of that run.
-- Assumes nothing.
use mathlib.Core.Path.{◌≡◌, refl, ◌∙◌}
use mathlib.Core.Bool.{Bool, true, false, ◌&&◌, ◌||◌}
use mathlib.Core.List.{List}
use mathlib.Core.Logic.{◌↔◌}
use Prim.Native.Nat.{ℕ, zero, suc, ◌+◌, ◌-◌, ◌*◌, ◌/◌, ◌^◌, ◌<◌, ◌≤◌}
use native.Mathlib.Nat.{zero-div}
use native.Mathlib.Omega.{arith}
use lib.Dec.{eqb}
use lib.ListN.{get_or, replicate}
use Rattle.packing.specs.Places.{bit_of, bit_at}
use Rattle.record.specs.Numbers.{any_below}
use Rattle.record.specs.Runs.{meet}
use Rattle.record.specs.declared.Run.{Run}
use Rattle.record.proofs.Tests.{any_clear}
use Rattle.record.proofs.Searches.{any_holds, any_same, any_or, any_and}
use Rattle.used.specs.Used.{table_size, is_used, in_run, any_used, with_run}
use Rattle.used.specs.Claims.{MayAdd}
use Rattle.used.proofs.Runs.{in_run_lem, meets}
use Rattle.used.proofs.Rows.{added_bits}

-- ---- the bits of a run

pub some_bit : (t : List ℕ) (f : ℕ) (a : Run) → (any_used t f a ≡ true) ↔ ((b : ℕ) × (in_run a b ≡ true) × (is_used t f b ≡ true))
unfolding any_used
some_bit t f a = (
  λ e. let (k, l, u) = (any_holds (λ k. is_used t f (a.start + k)) a.width).0 e in
      (a.start + k, (in_run_lem a (a.start + k)).1 (omega arith, omega arith), u),
  λ (b, i, u). let (from, to) = (in_run_lem a b).0 i in
      let e : a.start + (b - a.start) ≡ b = omega arith in
      (any_holds (λ k. is_used t f (a.start + k)) a.width).1 (b - a.start, omega arith, rw e u),
)

pub by_bits : (t : List ℕ) (f : ℕ) (a : Run) (p : ℕ → Bool) → ((b : ℕ) → in_run a b ≡ true → is_used t f b ≡ p b)
    → any_used t f a ≡ any_below (λ k. p (a.start + k)) a.width
unfolding any_used
by_bits t f a p h =
    any_same (λ k. is_used t f (a.start + k)) (λ k. p (a.start + k)) a.width
    (λ k l. h (a.start + k) ((in_run_lem a (a.start + k)).1 (omega arith, omega arith)))

-- ---- a table of zeros

zero_at : (n i x : ℕ) → get_or (replicate n x) i x ≡ x
zero_at zero i x = refl
zero_at (suc n) zero x = refl
zero_at (suc n) (suc i) x = zero_at n i x

zero_bit : (k : ℕ) → bit_of 0 k ≡ 0
unfolding bit_of
zero_bit k = rw (zero-div (2 ^ k)) refl

pub none_used : (f b : ℕ) → is_used (replicate table_size 0) f b ≡ false
unfolding is_used bit_at
none_used f b = rw (zero_at table_size ((f * 256 + b) / 8) 0, zero_bit) refl

pub none_any : (f : ℕ) (a : Run) → any_used (replicate table_size 0) f a ≡ false
unfolding any_used
none_any f a = (any_clear (λ k. is_used (replicate table_size 0) f (a.start + k)) a.width).1 (λ k l. none_used f (a.start + k))

-- ---- a run with_run

pub added_any : (t : List ℕ) (f : ℕ) (a : Run) → MayAdd t f a → (g : ℕ) (c : Run) → g < 32 → c.start + c.width ≤ 256
    → any_used (with_run t f a) g c ≡ (any_used t g c || (eqb g f && meet c a))
unfolding any_used
added_any t f a may g c h l =
    let u = with_run t f a in
    let m = added_bits t f a may in
    any_same (λ k. is_used u g (c.start + k)) (λ k. is_used t g (c.start + k) || (eqb g f && in_run a (c.start + k))) c.width
    (λ k i. m.bits g (c.start + k) h (omega arith))
    ∙ any_or (λ k. is_used t g (c.start + k)) (λ k. eqb g f && in_run a (c.start + k)) c.width
    ∙ rw (any_and (eqb g f) (λ k. in_run a (c.start + k)) c.width, meets c a) refl
