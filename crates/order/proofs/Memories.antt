-- From the contracts of the calls, on memory, to the calls on nodes: a call on memory does what it does on the node that the memory holds. So no call
-- changes a byte of the layout part, as none changes the layout.
-- Assumes nothing.
use mathlib.Core.Path.{◌≡◌, refl, ap, ap₂, ◌∙◌}
use mathlib.Core.List.{List, ◌∷◌}
use Prim.Native.Nat.{ℕ}
use lib.ListN.{take}
use Rattle.store.specs.Node.{Node, layout_size, layout_of, node_of}
use Rattle.store.proofs.RoundTrip.{same_memory, same_layout_bytes}
use Rattle.node.specs.Calls.{Outcome, left}
use Rattle.calls.specs.Relations.{Call, send, invalidate, assemble, consumed, read_flag, deliver, close, receive}
use Rattle.calls.specs.Relations.{Lent, Seen, sees, seen_of, next, Memory, Does}
use Rattle.order.specs.Order.{Numbered, Result, end, results, Ran, done, step}
use Rattle.order.proofs.Kept.{kept_layout}

-- the memory is determined by its node
pub by_node : (a b : List ℕ) → Memory a → Memory b → node_of a ≡ node_of b → a ≡ b
by_node a b here there e = same_memory a b here.size there.size here.bytes there.bytes e

-- ---- one call

-- a call that shows s and leaves memory e shows and leaves this
pub record Means (s : Seen) (e : List ℕ) (shown : Seen) (n : Node) : Type 0 where
  pub seen : s ≡ shown
  pub node : node_of e ≡ n

module _ (s : Seen) (e : List ℕ) where
  by_outcome : (o : Outcome) (l : Lent) → (left s.answer e ≡ o) × (s.lent ≡ l) → Means s e (sees o.answer l) o.node
  by_outcome o l d = record { seen = ap₂ sees (ap (λ (x : Outcome). x.answer) d.0) d.1; node = ap (λ (x : Outcome). x.node) d.0 }

  by_look : (b : List ℕ) (a : ℕ) (l : Lent) → (e ≡ b) × ((s.answer ≡ a) × (s.lent ≡ l)) → Means s e (sees a l) (node_of b)
  by_look b a l d = record { seen = ap₂ sees d.1.0 d.1.1; node = ap node_of d.0 }

pub does_means : (b : List ℕ) (c : Call) (s : Seen) (e : List ℕ) → Does b c s e → Means s e (seen_of (node_of b) c) (next (node_of b) c)
does_means b (send m v) s e d = by_outcome s e _ _ d
does_means b (invalidate m) s e d = by_outcome s e _ _ d
does_means b (assemble f x) s e d = by_outcome s e _ _ d
does_means b (consumed f) s e d = by_outcome s e _ _ d
does_means b (read_flag m p) s e d = by_look s e b _ _ d
does_means b (deliver f valid x) s e d = by_outcome s e _ _ d
does_means b close s e d = by_outcome s e _ _ d
does_means b (receive m p) s e d = by_look s e b _ _ d

pub layout_kept : (b : List ℕ) (c : Call) (s : Seen) (e : List ℕ) → Memory b → Memory e → Does b c s e → take layout_size e ≡ take layout_size b
layout_kept b c s e before after does =
    let layout : layout_of e ≡ layout_of b = ap (λ (n : Node). n.layout) (does_means b c s e does).node ∙ kept_layout (node_of b) c in
    same_layout_bytes e b after.size before.size after.bytes before.bytes layout

-- ---- a run

-- a run on memory shows and leaves what the run on the node does
pub record RunMeans (b : List ℕ) (l : List Numbered) (r : List Result) (e : List ℕ) : Type 0 where
  pub memory : Memory e
  pub seen : r ≡ results (node_of b) l
  pub node : node_of e ≡ end (node_of b) l

pub ran_means : (b : List ℕ) → Memory b → (l : List Numbered) (r : List Result) (e : List ℕ) → Ran b l r e → RunMeans b l r e
ran_means b memory l r e done = record { memory = memory; seen = refl; node = refl }
ran_means b memory l r e (step {c = c} {t = t} {s = s} {l = k} {r = rest} does kept ran) =
    let here = does_means b t.call s c does in
    let later = ran_means c kept k rest e ran in
    record {
      memory = later.memory;
      seen =
          ap₂ (λ (o : Seen) (x : List Result). record { number = t.number; seen = o } ∷ x) here.seen
          (later.seen ∙ ap (λ (n : Node). results n k) here.node);
      node = later.node ∙ ap (λ (n : Node). end n k) here.node;
    }
