-- `Field::is_in` meets its contract: a run ends inside the frame exactly if the last byte that it touches lies in the frame.
-- Assumes nothing.
use mathlib.Core.Path.{◌≡◌, ap, sym, ◌∙◌}
use mathlib.Core.Bool.{Bool, ◌&&◌}
use Prim.Native.Nat.{ℕ, ◌+◌, ◌*◌, ◌≤◌}
use native.Mathlib.Decide.{dec_le}
use native.Mathlib.Omega.{arith}
use lib.Dec.{leb}
use borrow.Author.Tests.{le-leb, lt-leb}
use Rattle.packing.specs.Places.{in_frame}
use Rattle.packing.proofs.Field.is_in.Goals as goal

-- the frame bits before `end` touch `count` bytes
touched : (w end bytes count : ℕ) → end ≤ count * 8 → count * 8 ≤ end + 7 → leb w 32 && leb count bytes ≡ leb w 32 && leb end (bytes * 8)
touched w end bytes count h l = ap (λ (t : Bool). leb w 32 && t) (go (dec_le end (bytes * 8)))
  where
    go : Dec (end ≤ bytes * 8) → leb count bytes ≡ leb end (bytes * 8)
    go (yes b) = le-leb count bytes (omega arith) ∙ sym (le-leb end (bytes * 8) b)
    go (no b) = lt-leb count bytes (omega arith) ∙ sym (lt-leb end (bytes * 8) (omega arith))

pub returns : goal.returns
unfolding in_frame
returns c = touched c.args.self.width (c.args.self.start + c.args.self.width) c.args.bytes _ (omega arith) (omega arith)
