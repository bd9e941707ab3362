-- The bytes are copied into the part of the buffer that begins at the place.
-- Assumes nothing.
use mathlib.Core.Path.{refl}
use native.Mathlib.Omega.{arith}
use borrow.Author.Rules.{rules}
use Rattle.listing.proofs.Puts.{put_copied}
use Rattle.listing.proofs.Text.bytes.Goals as goal

pub returns : goal.returns
returns c =
    record {
      put = rw c.copy_from_slice.ensures.after (put_copied c.args.self.now.out.now c.args.self.now.at _ c.args.text.now (search rules) (omega arith));
      same = refl;
    }
