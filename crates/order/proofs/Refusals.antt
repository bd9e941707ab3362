-- Refusals change nothing: every answer but 0 leaves the node, its memory and the caller's memory as they were. All eight calls, and loading, whose
-- answer also tells number, record and byte: each is small enough for its place.
-- Assumes nothing.
use mathlib.Core.Path.{◌≡◌, refl, ap, ◌∙◌}
use mathlib.Core.List.{List}
use Prim.Native.Nat.{ℕ, ◌/◌, ◌%◌, ◌≤◌}
use native.Mathlib.Omega.{arith}
use lib.ListN.{length}
use borrow.Author.Tests.{ne_eqb}
use Rattle.std.specs.Prelude.{Ok, Err}
use Rattle.layout.specs.Numbers.{number_of, byte_of}
use Rattle.layout.specs.Verdict.{Verdict, refused_at, verdict}
use Rattle.layout.specs.declared.Refusal.{Refusal}
use Rattle.layout.proofs.Numbers.{number_to_ten}
use Rattle.layout.proofs.Demands.{refused_record}
use Rattle.store.specs.Node.{Node, node_of}
use Rattle.node.specs.Calls.{Outcome, left, send_of, invalidate_of, assemble_answer, assemble_of, assembled, consumed_of, flag_answer, flag_place, deliver_of}
use Rattle.node.specs.Calls.{receive_answer, received_place}
use Rattle.node.specs.Load.{refusal_answer, loaded, load_of}
use Rattle.calls.specs.Relations.{Call, send, invalidate, assemble, consumed, read_flag, deliver, close, receive}
use Rattle.calls.specs.Relations.{Seen, answer_of, lent_before, lent_after, next, Memory, Does}
use Rattle.order.proofs.Memories.{by_node, does_means}

-- on a node
pub refused : (n : Node) (c : Call) → (answer_of n c ≡ 0 → ⊥) → (next n c ≡ n) × (lent_after n c ≡ lent_before c)
unfolding send_of invalidate_of assemble_of assembled consumed_of flag_place deliver_of received_place
refused n (send m v) h = (rw (ne_eqb (answer_of n (send m v)) 0 h) refl, refl)
refused n (invalidate m) h = (rw (ne_eqb (answer_of n (invalidate m)) 0 h) refl, refl)
refused n (assemble f b) h = let t = ne_eqb (assemble_answer n f (length b)) 0 h in (rw t refl, rw t refl)
refused n (consumed f) h = (rw (ne_eqb (answer_of n (consumed f)) 0 h) refl, refl)
refused n (read_flag m p) h = (refl, rw (ne_eqb (flag_answer n.layout m) 0 h) refl)
refused n (deliver f valid d) h = (rw (ne_eqb (answer_of n (deliver f valid d)) 0 h) refl, refl)
refused n close h = absurd (h refl)
refused n (receive m p) h = (refl, rw (ne_eqb (receive_answer n m) 0 h) refl)

-- and on memory, by the contracts alone
pub refusal : (b : List ℕ) (c : Call) (s : Seen) (e : List ℕ) → Memory b → Memory e → Does b c s e → (s.answer ≡ 0 → ⊥)
    → (e ≡ b) × (s.lent ≡ lent_before c)
refusal b c s e before after does h =
    let means = does_means b c s e does in
    let same = refused (node_of b) c (λ z. h (ap (λ (x : Seen). x.answer) means.seen ∙ z)) in
    (by_node e b after before (means.node ∙ same.0), ap (λ (x : Seen). x.lent) means.seen ∙ same.1)

-- a refused file leaves the node
pub load_refused : (n : Node) (file : List ℕ) → ((load_of n file).answer ≡ 0 → ⊥) → (load_of n file).node ≡ n
unfolding load_of
load_refused n file h = go (verdict file) h
  where
    go : (v : Verdict) → ((loaded n file v).answer ≡ 0 → ⊥) → (loaded n file v).node ≡ n
    go (Ok c) k = absurd (k refl)
    go (Err r) k = refl

pub load_refusal : (b file : List ℕ) (r : ℕ) (e : List ℕ) → Memory b → Memory e → left r e ≡ load_of (node_of b) file → (r ≡ 0 → ⊥) → e ≡ b
load_refusal b file r e before after does h =
    by_node e b after before
    (ap (λ (o : Outcome). o.node) does ∙ load_refused (node_of b) file (λ z. h (ap (λ (o : Outcome). o.answer) does ∙ z)))

-- ---- what a refused load tells

pub load_tells : (b file : List ℕ) (r : ℕ) (e : List ℕ) → left r e ≡ load_of (node_of b) file
    → (n : Refusal) (at : ℕ) → verdict file ≡ Err (refused_at n at)
    → (r % 256 ≡ number_of n) × (r / 256 % 256 ≡ at) × (r / 65536 ≡ byte_of n)
unfolding load_of
load_tells b file r e does n at refused =
    let answer : r ≡ refusal_answer n at = ap (λ (o : Outcome). o.answer) does ∙ rw refused refl in
    let few : at ≤ 192 = refused_record file n at refused in
    let low = number_to_ten n in
    (omega arith, omega arith, omega arith)
