-- `node::load` meets its contract, by the verdict: an accepted layout has room in the memory, and a refusal's record is small.
-- Assumes nothing.
use mathlib.Core.Path.{◌≡◌, refl, ap, sym, ◌∙◌}
use mathlib.Core.List.{List}
use Prim.Native.Nat.{ℕ, ◌≤◌}
use native.Mathlib.Omega.{arith}
use Rattle.layout.specs.Verdict.{Verdict, refused_at, verdict}
use Rattle.layout.specs.declared.Refusal.{Refusal}
use Rattle.layout.proofs.Accepted.{accepted}
use Rattle.layout.proofs.Node.{few_frames, few_messages}
use Rattle.layout.proofs.Demands.{refused_record}
use Rattle.std.specs.Prelude.{Err}
use Rattle.store.specs.Node.{Node}
use Rattle.node.specs.Load.{load_of}
use Rattle.node.proofs.load.Goals as goal

-- a refusal's record is one of the file's
small : (file : List ℕ) {v : Verdict} {refusal : Refusal} {record' : ℕ} → v ≡ verdict file → v ≡ Err (refused_at refusal record') → record' ≤ 192
small file e is = refused_record _ _ _ (sym e ∙ is)

pub start-requires : goal.start-requires
start-requires c =
    let s = c.args.file.now in
    let w = (accepted s _ _ _).0 (sym c.read_layout.ensures ∙ c.in-Ok.is) in
    (few_frames s _ _ _ w, few_messages s _ _ _ w, w.fields_few)

pub overflow_cast-result : goal.overflow_cast-result
overflow_cast-result c = omega (arith, small c.args.file.now c.read_layout.ensures c.in-Err.is)

pub overflow_mul-result : goal.overflow_mul-result
overflow_mul-result c = omega (arith, small c.args.file.now c.read_layout.ensures c.in-Err.is)

pub overflow_add-result : goal.overflow_add-result
overflow_add-result c = omega (arith, small c.args.file.now c.read_layout.ensures c.in-Err.is, c.number_of-number.type_inv)

pub overflow_add-result-in-Err : goal.overflow_add-result-in-Err
overflow_add-result-in-Err c = omega (arith, small c.args.file.now c.read_layout.ensures c.in-Err.is, c.number_of-number.type_inv, c.byte_of-byte.type_inv)

pub returns-in-Ok : goal.returns-in-Ok
unfolding load_of
returns-in-Ok c = rw (sym c.read_layout.ensures ∙ c.in-Ok.is) (ap (λ (n : Node). record { answer = 0; node = n }) c.start.ensures)

pub returns-in-Err : goal.returns-in-Err
unfolding load_of
returns-in-Err c = rw (sym c.read_layout.ensures ∙ c.in-Err.is, ← c.number_of-number.ensures, ← c.byte_of-byte.ensures) refl
