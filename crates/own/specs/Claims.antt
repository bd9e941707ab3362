-- What holds of the layout part of a loaded node and of whose fields are whose. Each line is a theorem; proofs/Claims.antt says where it is proved.
-- Assumes nothing.
use Rattle.std.specs.Prelude.{◌≡◌, true, List, ◌↔◌, ℕ, ◌<◌}
use Rattle.layout.specs.WellLaid.{WellLaid}
use Rattle.store.specs.Node.{Layout, laid_at}
use Rattle.start.specs.Start.{start_layout}
use Rattle.own.specs.declared.Owner.{Owner}
use Rattle.own.specs.Own.{is_in, Rising, names, cells_of}
use Rattle.own.specs.SoundLayout.{SoundLayout}

pub record Claims : Type 0 where
  -- The layout part of the node of an accepted file is sound
  pub sound_start : (s : List ℕ) (F M D : ℕ) → WellLaid s F M D → SoundLayout (start_layout s F M D)
  -- A message's fields and a frame's fields. The cells that a call on either goes through are exactly those that name it
  pub own_fields : (l : Layout) → SoundLayout l → (o : Owner) (d : ℕ)
      → (is_in d (cells_of l o) ≡ true) ↔ ((d < l.field_number) × (names o (laid_at l d) ≡ true))
  -- and each of them once, in the order of their numbers
  pub own_once : (l : Layout) → SoundLayout l → (o : Owner) → Rising (cells_of l o)
