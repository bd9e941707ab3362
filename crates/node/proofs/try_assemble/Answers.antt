-- `node::try_assemble` meets its contract: refused, it leaves the memory and the buffer; done, the frame's fields are written and have moved on.
-- Assumes nothing.
use mathlib.Core.Path.{◌≡◌, refl, sym, ◌∙◌}
use Prim.Native.Nat.{ℕ}
use lib.ListN.{length}
use borrow.Author.Tests.{eq-eqb, ne_eqb}
use Rattle.store.specs.Node.{layout_of, node_of}
use Rattle.node.specs.Calls.{left, assemble_answer, assemble_of, assembled}
use Rattle.node.specs.declared.CallRefusal.{CallRefusal}
use Rattle.node.specs.Answers.{number_of}
use Rattle.node.specs.declared.Way.{Way}
use Rattle.node.proofs.Answers.{frame_refused, frame_passed, handed_on, some_number}
use Rattle.node.proofs.Outcomes.{refused_call, done}
use Rattle.node.proofs.try_assemble.Goals.{Start, In_ok-f}
use Rattle.node.proofs.try_assemble.Goals as goal

-- refused, with that answer: the buffer stays too
stays : (s : Start) (refused : CallRefusal) {r : ℕ} → r ≡ number_of refused
    → assemble_answer (node_of s.args.node.now) s.args.frame (length s.args.buffer.now) ≡ number_of refused
    → (left r s.args.node.now ≡ assemble_of (node_of s.args.node.now) s.args.frame (length s.args.buffer.now))
    × (s.args.buffer.now ≡ assembled (node_of s.args.node.now) s.args.frame s.args.buffer.now)
unfolding assemble_of assembled
stays s refused e f = (refused_call _ _ _ refused e f, rw (f, ne_eqb _ 0 (some_number refused)) refl)

pub returns-in_err-f : goal.returns-in_err-f
unfolding assemble_answer
returns-in_err-f c =
    let a = c.args in
    stays (goal.at.returns-in_err-f c).Start _ (handed_on _ _ c.from_residual.ensures.1) (frame_refused (layout_of a.node.now) a.frame Way.Sent c.frame_of.ensures c.in_err-f.was _)

pub returns-then-buffer-h : goal.returns-then-buffer-h
unfolding assemble_answer
returns-then-buffer-h c =
    let a = c.args in
    let (room, known, sent, f, h) = frame_passed (layout_of a.node.now) a.frame Way.Sent c.frame_of.ensures c.in_ok-f.was in
    stays (goal.at.returns-then-buffer-h c).Start CallRefusal.Value refl (rw (known, sent, ← h, ne_eqb _ _ c.if-buffer-h.true) refl)

pub returns-then-is_suppressed : goal.returns-then-is_suppressed
unfolding assemble_answer
returns-then-is_suppressed c =
    let a = c.args in
    let (room, known, sent, f, h) = frame_passed (layout_of a.node.now) a.frame Way.Sent c.frame_of.ensures c.in_ok-f.was in
    let suppressed = rw f at (sym c.is_suppressed.ensures ∙ c.if-is_suppressed.true) in
    stays (goal.at.returns-then-is_suppressed c).Start CallRefusal.Suppressed refl (rw (known, sent, ← h, eq-eqb _ _ c.if-buffer-h.false, suppressed) refl)

pub returns : goal.returns
unfolding assemble_of assembled assemble_answer
returns c =
    let a = c.args in
    let n = node_of a.node.now in
    let (room, known, sent, f, h) = frame_passed n.layout a.frame Way.Sent c.frame_of.ensures c.in_ok-f.was in
    let suppressed = rw f at (sym c.is_suppressed.ensures ∙ c.if-is_suppressed.false) in
    let zero : assemble_answer n a.frame (length a.buffer.now) ≡ 0 = rw (known, sent, ← h, eq-eqb _ _ c.if-buffer-h.false, suppressed) refl in (
      done _ _ _ n zero (rw f at c.load_fields.ensures.0),
      rw zero (rw (f, h) at c.load_fields.ensures.1),
    )
