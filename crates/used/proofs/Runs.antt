-- The bits of a run: one of them is another run's exactly if the two meet. The bit that two runs have in common is the first of the one that begins later.
-- Assumes nothing.
use mathlib.Core.Path.{◌≡◌, refl, sym}
use mathlib.Core.Bool.{Bool, true, false}
use mathlib.Core.Logic.{◌↔◌}
use Prim.Native.Nat.{ℕ, ◌+◌, ◌-◌, ◌<◌, ◌≤◌}
use native.Mathlib.Omega.{arith}
use Rattle.record.specs.Numbers.{any_below}
use Rattle.record.specs.Runs.{meet}
use Rattle.record.specs.declared.Run.{Run}
use Rattle.record.proofs.Tests.{meanings}
use Rattle.record.proofs.Searches.{any_holds}
use Rattle.used.specs.Used.{in_run}

-- two tests that hold together are one
pub same_tests : (a b : Bool) → ((a ≡ true) ↔ (b ≡ true)) → a ≡ b
same_tests true b h = sym (h.0 refl)
same_tests false true h = h.1 refl
same_tests false false h = refl

-- ---- runs

pub in_run_lem : (a : Run) (b : ℕ) → (in_run a b ≡ true) ↔ ((a.start ≤ b) × (b < a.start + a.width))
unfolding in_run
in_run_lem a b = simp meanings (omega arith)

meet_holds : (c a : Run)
    → (meet c a ≡ true) ↔ ((0 < c.width) × (0 < a.width) × (c.start < a.start + a.width) × (a.start < c.start + c.width))
unfolding meet
meet_holds c a = simp meanings (omega arith)

pub meets : (c a : Run) → any_below (λ k. in_run a (c.start + k)) c.width ≡ meet c a
meets c a =
    same_tests _ _ (
      λ e. let (k, l, t) = (any_holds (λ k. in_run a (c.start + k)) c.width).0 e in
          let i = (in_run_lem a (c.start + k)).0 t in
          (meet_holds c a).1 (omega arith, omega arith, omega arith, omega arith),
      λ e. let m = (meet_holds c a).0 e in
          let first : ℕ = a.start - c.start in
          (any_holds (λ k. in_run a (c.start + k)) c.width).1 (first, omega arith, (in_run_lem a (c.start + first)).1 (omega arith, omega arith)),
    )
