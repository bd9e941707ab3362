-- What a closing shows of floats: there are never more than eight instances, so those that are left agree; where none is left there is no result, and
-- a mean is shown as its pattern.
-- Assumes nothing.
use mathlib.Core.Path.{◌≡◌, refl, ap, ◌∙◌}
use mathlib.Core.Bool.{Bool, true, false, cond}
use mathlib.Core.List.{List, [], ◌∷◌}
use Prim.Native.Nat.{ℕ, zero, suc, ◌<◌}
use native.Mathlib.Omega.{arith}
use lib.IntN.{ℤ, pos}
use lib.ListN.{length}
use borrow.Author.Tests.{le-leb}
use Rattle.std.specs.Prelude.{Some, None}
use Rattle.packing.specs.Values.{pattern_of}
use Rattle.float.specs.Patterns.{aside}
use Rattle.float.specs.Rounding.{over}
use Rattle.agreement.specs.Agreement.{one_that, vote}
use Rattle.agreement.specs.Floats.{left_of, sum_from, finite_value, float_mean, left_agreed, floats_agreed}
use Rattle.agreement.proofs.Running.{left_few}
use Rattle.store.specs.declared.Message.{Message}
use Rattle.store.specs.declared.MessageState.{MessageState}
use Rattle.store.specs.Node.{Node, is_sent, is_float, message_at, state_at, with_status}
use Rattle.message.specs.Messages.{agreed_by, agreed_on}
use Rattle.message.proofs.Passed.{true_passes}
use Rattle.closing.specs.Closing.{instances, is_received}
use Rattle.node.specs.Sound.{Sound}
use Rattle.closing.proofs.Instances.{instances_few, agreed_in_message}
use Rattle.closing.proofs.Rounds.{closed_some}
use Rattle.calls.specs.Relations.{close, receive, value, sees, seen_of, next}
use Rattle.order.specs.Floats.{mean_shown}
use Rattle.order.proofs.Shown.{is_received_lem, closed_shown, passed_shown}

pub floats_agree : (n : Node) (m : ℕ) → is_float (message_at n.layout m) ≡ true
    → agreed_by (message_at n.layout m) (instances n m) ≡ left_agreed (message_at n.layout m).agreement (left_of (instances n m))
unfolding agreed_by floats_agreed
floats_agree n m f = rw (f, le-leb (length (instances n m)) 8 (instances_few n m)) refl

-- nothing left, no result
none_agree : (k : ℕ) → left_agreed k [] ≡ None
unfolding left_agreed float_mean vote one_that
none_agree zero = refl
none_agree (suc zero) = refl
none_agree (suc (suc zero)) = refl
none_agree (suc (suc (suc k))) = refl

-- where some are left, some count
counted : (k : List ℤ) (n : ℕ) → length (left_of k) ≡ suc n → 0 < length k
counted k n e = omega (arith, left_few k)

mean_agreed : (a : ℕ) (l : List ℤ) (v : ℤ) (k : List ℤ) → a ≡ 1 → l ≡ v ∷ k
    → left_agreed a l ≡ finite_value (over (sum_from (pattern_of 32 v) k) (length (v ∷ k)))
unfolding left_agreed float_mean
mean_agreed a l v k e f = rw (e, f) refl

module _ {n : Node} (s : Sound n) (m : ℕ) (l : m < n.layout.message_number) (received : is_sent (message_at n.layout m) ≡ false)
    (float : is_float (message_at n.layout m) ≡ true) (p : ℤ) where
  abbrev g : Message
  g = message_at n.layout m

  abbrev before : MessageState
  before = state_at n.state m

  heard : is_received n.layout m ≡ true
  heard = is_received_lem s.layout m l received

  shows_none : 0 < length (instances n m) → left_agreed g.agreement (left_of (instances n m)) ≡ None
      → seen_of (next n close) (receive m p) ≡ sees 20 (value p)
  shows_none h e =
      closed_shown s m heard p (with_status 20 before) (closed_some n m before h ∙ ap (agreed_on g before) (floats_agree n m float ∙ e))

  pub all_aside : (instances n m ≡ [] → ⊥) → left_of (instances n m) ≡ [] → seen_of (next n close) (receive m p) ≡ sees 20 (value p)
  all_aside counting none = shows_none (some_of (instances n m) counting) (ap (left_agreed g.agreement) none ∙ none_agree g.agreement)
    where
      some_of : (k : List ℤ) → (k ≡ [] → ⊥) → 0 < length k
      some_of [] h = absurd (h refl)
      some_of (v ∷ k) h = omega arith

  pub mean_shown_lem : g.agreement ≡ 1 → g.filter ≡ 0 → (v : ℤ) (k : List ℤ) → left_of (instances n m) ≡ v ∷ k
      → seen_of (next n close) (receive m p) ≡ mean_shown (over (sum_from (pattern_of 32 v) k) (length (v ∷ k))) p
  unfolding mean_shown finite_value
  mean_shown_lem average through v k e = go (aside x) refl
    where
      x : ℕ
      x = over (sum_from (pattern_of 32 v) k) (length (v ∷ k))

      counting : 0 < length (instances n m)
      counting = counted (instances n m) (length k) (ap length e)

      finite : aside x ≡ false → finite_value x ≡ Some (pos x)
      finite a = rw a refl

      agreed : left_agreed g.agreement (left_of (instances n m)) ≡ finite_value x
      agreed = mean_agreed g.agreement (left_of (instances n m)) v k average e

      go : (b : Bool) → aside x ≡ b
          → seen_of (next n close) (receive m p) ≡ cond b (sees 20 (value p)) (sees 0 (value (pos x)))
      go true a = shows_none counting (agreed ∙ rw a refl)
      go false a =
          let mean = floats_agree n m float ∙ agreed ∙ finite a in
          let message = s.layout.messages m l in
          passed_shown s m heard p (pos x) (agreed_in_message n m (pos x) message.width message.float_width mean) (true_passes g before (pos x) through)
          (closed_some n m before counting ∙ ap (agreed_on g before) mean)
