-- A line for each field. The invariant: the lines of the fields below d are written, each of at most 20 bytes.
-- Assumes nothing.
use Prim.Native.Nat.{◌*◌}
use Rattle.listing.specs.Put.{Adds}
use Rattle.listing.specs.Text.{lines}
use Rattle.listing.proofs.Text.lines.Given as goal

abbrev pub invariant-loop-d : goal.invariant-loop-d
invariant-loop-d l =
    Adds l.initial.self l.self (lines l.file l.counts.frames l.counts.messages l.d) (20 * l.d)
