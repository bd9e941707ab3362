-- The listing, by the verdict. A file that is accepted is well laid out, so it has at most 128 fields, and the heading and their lines fit the
-- buffer. A refusal names a record of at most 192.
-- Assumes nothing.
use mathlib.Core.Path.{sym, ◌∙◌}
use native.Mathlib.Omega.{arith}
use Rattle.layout.proofs.Accepted.{accepted}
use Rattle.layout.proofs.Node.{few_frames, few_messages}
use Rattle.layout.proofs.Demands.{refused_record}
use Rattle.listing.specs.Text.{listing}
use Rattle.listing.proofs.Puts.{adds_both, adds_within}
use Rattle.listing.proofs.Text.listing.Goals as goal

pub lines-requires : goal.lines-requires
lines-requires c =
    let laid = (accepted _ _ _ _).0 (sym c.read_layout.ensures ∙ c.in-Ok.is) in (
      omega (arith, c.bytes.ensures.put.after, laid.fields_few),
      omega (arith, few_frames _ _ _ _ laid),
      omega (arith, few_messages _ _ _ _ laid),
      omega (arith, laid.fields_few),
    )

pub refusal-requires : goal.refusal-requires
refusal-requires c =
    (omega arith, refused_record _ _ _ (sym c.read_layout.ensures ∙ c.in-Err.is))

pub returns-in-Ok : goal.returns-in-Ok
unfolding listing
returns-in-Ok c =
    let e = sym c.read_layout.ensures ∙ c.in-Ok.is in
    rw e (adds_within (adds_both c.bytes.ensures c.lines.ensures) (omega (arith, ((accepted _ _ _ _).0 e).fields_few)))

pub returns-in-Err : goal.returns-in-Err
unfolding listing
returns-in-Err c =
    rw (sym c.read_layout.ensures ∙ c.in-Err.is) (adds_within c.refusal.ensures (omega arith))
