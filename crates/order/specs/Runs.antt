-- Which calls have a run on every memory.
-- Assumes nothing.
use Rattle.std.specs.Prelude.{◌≡◌, true, List, ℕ}
use Rattle.whole.specs.Whole.{Bytes}
use Rattle.calls.specs.Relations.{Call, deliver}
use Rattle.order.specs.Order.{Numbered, In}

-- what a valid delivery brings are bytes, as all is that stands in a caller's memory; whatever else a call is given may be any number
abbrev pub BringsBytes : Call → Type 0
BringsBytes c = (f : ℕ) (bytes : List ℕ) → c ≡ deliver f true bytes → Bytes bytes

-- each call of the list does
abbrev pub EachBringsBytes : List Numbered → Type 0
EachBringsBytes l = (t : Numbered) → In t l → BringsBytes t.call
