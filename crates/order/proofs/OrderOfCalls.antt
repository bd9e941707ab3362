-- Demand 3. From any memory, a reordering that keeps the order of calls which name the same message, the same frame, or a frame and a message that it
-- carries, gives each call the same answer and the same buffer or place, and the same memory, byte for byte; and so the next closing gives the same.
-- Calls that do not depend on each other commute on any node, and a memory is determined by its node.
-- Assumes nothing.
use mathlib.Core.Path.{refl, sym, subst, ◌∙◌}
use mathlib.Core.List.{List}
use Prim.Native.Nat.{ℕ}
use Rattle.store.specs.Node.{Layout, node_of, layout_of}
use Rattle.calls.specs.Relations.{Memory}
use Rattle.order.specs.Order.{name_of, Numbered, Result, In, Reordered, Ran, SameOutcome}
use Rattle.order.proofs.Cells.{not_linked}
use Rattle.order.proofs.Memories.{by_node, ran_means}
use Rattle.order.proofs.Reorder.{agrees}

flip : (l : Layout) (l₁ l₂ : List Numbered) → Reordered l l₁ l₂ → Reordered l l₂ l₁
flip l l₁ l₂ R =
    record {
      distinct₁ = R.distinct₂;
      distinct₂ = R.distinct₁;
      all₁ = R.all₂;
      all₂ = R.all₁;
      swapped = λ a b i j. not_linked l (name_of b.call) (name_of a.call) (R.swapped b a j i);
    }

pub order_of_calls : (b : List ℕ) → Memory b → (l₁ l₂ : List Numbered) → Reordered (node_of b).layout l₁ l₂
    → (r₁ r₂ : List Result) (e₁ e₂ : List ℕ) → Ran b l₁ r₁ e₁ → Ran b l₂ r₂ e₂ → SameOutcome r₁ r₂ e₁ e₂
order_of_calls b memory l₁ l₂ R r₁ r₂ e₁ e₂ ran₁ ran₂ =
    let one = ran_means b memory l₁ r₁ e₁ ran₁ in
    let two = ran_means b memory l₂ r₂ e₂ ran₂ in
    let there = agrees (layout_of b) l₂ l₁ (node_of b) refl R in
    let back = agrees (layout_of b) l₁ l₂ (node_of b) refl (flip (layout_of b) l₁ l₂ R) in
    record {
      memory = by_node e₁ e₂ one.memory two.memory (one.node ∙ there.0 ∙ sym two.node);
      results₁ = λ r i. subst (In r) (sym two.seen) (there.1 r (subst (In r) one.seen i));
      results₂ = λ r i. subst (In r) (sym one.seen) (back.1 r (subst (In r) two.seen i));
    }
