-- What a call leaves, from what its code knows where it returns: with an answer other than 0 the memory is untouched, and with answer 0 it holds the
-- changed state. Assumes nothing.
use mathlib.Core.Path.{◌≡◌, sym, ◌∙◌}
use mathlib.Core.List.{List}
use Prim.Native.Nat.{ℕ}
use borrow.Author.Tests.{ne_eqb}
use Rattle.store.specs.Node.{State, Node, node_of, node_with}
use Rattle.node.specs.declared.CallRefusal.{CallRefusal}
use Rattle.node.specs.Answers.{number_of}
use Rattle.node.proofs.Answers.{some_number}
use Rattle.node.specs.Calls.{left, outcome}

module _ (a : ℕ) (b : List ℕ) (after : State) where
  pub untouched : {r : ℕ} → r ≡ a → (r ≡ 0 → ⊥) → left r b ≡ outcome a after (node_of b)
  untouched e h = rw (e, ne_eqb a 0 (λ z. h (e ∙ z)))

  -- the refusal's number is the answer
  pub refused_call : (refused : CallRefusal) {r : ℕ} → r ≡ number_of refused → a ≡ number_of refused → left r b ≡ outcome a after (node_of b)
  refused_call refused e f = untouched (e ∙ sym f) (λ z. some_number refused (sym e ∙ z))

  pub done : (before : Node) → a ≡ 0 → node_of b ≡ node_with before after → left 0 b ≡ outcome a after before
  done before e h = rw (e, h)
