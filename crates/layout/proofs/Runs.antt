-- A field's runs of frame bits: the tests whether a run lies past the frame's end and whether two runs meet, said bit by bit.
-- Assumes nothing.
use mathlib.Core.Path.{◌≡◌}
use mathlib.Core.Bool.{false}
use mathlib.Core.Logic.Iff
use mathlib.Core.Logic.{◌↔◌, inl, inr, ⊎_elim}
use Prim.Native.Nat.{ℕ, ◌+◌, ◌-◌, ◌*◌, ◌<◌, ◌≤◌, max}
use native.Mathlib.Omega.{arith}
use native.Mathlib.Decide.{dec_lt}
use Rattle.record.specs.Runs.{message_run, status_run, past_end, meet, clash}
use Rattle.record.specs.declared.Field.{Field}
use Rattle.record.specs.declared.Message.{Message}
use Rattle.record.specs.declared.Run.{Run}
use Rattle.record.proofs.Tests.{meanings}
use Rattle.layout.specs.WellLaid.{UsesForMessage, UsesForStatus, Uses}

-- bit b is one of the run's
abbrev pub On : Run → ℕ → Type 0
On a b = (a.start ≤ b) × (b < a.start + a.width)

past_clear : (n : ℕ) (a : Run) → (past_end n a ≡ false) ↔ ((b : ℕ) → On a b → b < n * 8)
unfolding past_end
past_clear n a = (
  λ e b on. omega (arith, (simp meanings at e) (omega arith)),
  λ h. simp meanings (λ some. omega (arith, h (a.start + a.width - 1) (omega arith))),
)

meet_clear : (a b : Run) → (meet a b ≡ false) ↔ ((x : ℕ) → On a x → On b x → ⊥)
unfolding meet
meet_clear a b = (
  λ e x on-a on-b. omega (arith, (simp meanings at e) (omega arith) (omega arith) (omega arith)),
  λ h. simp meanings (λ some-a some-b near. apart h some-a some-b near (dec_lt b.start (a.start + a.width))),
)
  where
    apart :
        ((x : ℕ) → On a x → On b x → ⊥) → 1 ≤ a.width → 1 ≤ b.width → a.start < b.start + b.width → Dec (b.start < a.start + a.width)
        → a.start + a.width ≤ b.start
    apart h some-a some-b near (yes l) = absurd (h (max a.start b.start) (omega arith) (omega arith))
    apart h some-a some-b near (no l) = omega arith

-- ---- the bits of a field whose status byte is in its range

pub on_status : (r : Field) → r.status ≤ 1 → (b : ℕ) → On (status_run r) b ↔ UsesForStatus r b
on_status r one b = omega arith

module _ (g : Message) (r : Field) (one : r.status ≤ 1) where
  pub inside_clear :
      (n : ℕ) → ((past_end n (message_run g r) ≡ false) × (past_end n (status_run r) ≡ false)) ↔ ((b : ℕ) → Uses g r b → b < n * 8)
  inside_clear n =
      simp (past_clear, on_status r one)
      (λ h b. ⊎_elim (h.0 b) (h.1 b), λ h. (λ b u. h b (inl u), λ b u. h b (inr u)))

  pub once_clear : (meet (message_run g r) (status_run r) ≡ false) ↔ ((b : ℕ) → UsesForMessage g r b → UsesForStatus r b → ⊥)
  once_clear = simp (meet_clear, on_status r one) Iff.rfl

  pub clash_clear : (e : Message) (q : Field) → q.status ≤ 1 → (clash g r e q ≡ false) ↔ ((b : ℕ) → Uses g r b → Uses e q b → ⊥)
  unfolding clash
  clash_clear e q its-one =
      simp (meanings, meet_clear, on_status r one, on_status q its-one) (
        λ (((bits, bits_status), status_bits), status) b.
            ⊎_elim (λ u. ⊎_elim (bits b u) (bits_status b u)) (λ u. ⊎_elim (status_bits b u) (status b u)),
        λ h. (((λ b u v. h b (inl u) (inl v), λ b u v. h b (inl u) (inr v)), λ b u v. h b (inr u) (inl v)), λ b u v. h b (inr u) (inr v)),
      )
