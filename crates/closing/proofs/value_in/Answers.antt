-- `closing::value_in` meets its contract: the pattern is read where the field lies in the frame's data, and its value comes back from its bits.
-- Assumes nothing.
use mathlib.Core.Path.{◌≡◌, refl, ap, ap₂, sym, ◌∙◌}
use mathlib.Core.Bool.{Bool}
use mathlib.Core.List.{List}
use Prim.Native.Nat.{ℕ, ◌≤◌, min}
use native.Mathlib.Omega.{arith}
use lib.ListN.{length, take}
use lib.Seq.{length-take-le}
use mir.Syntax.{w64}
use mir.ValLaws.{to_z-of_z}
use Rattle.packing.specs.Places.{places_in, unpacked}
use Rattle.store.specs.declared.Frame.{Frame}
use Rattle.store.specs.Node.{layout_of, node_of, frame_at, data_at}
use Rattle.store.proofs.Places.{room_length, data_in_room}
use Rattle.closing.specs.Closing.{value_in}
use Rattle.closing.proofs.value_in.Goals as goal

pub unpack_in-pattern-requires : goal.unpack_in-pattern-requires
unpack_in-pattern-requires c =
    let size = ap length c.room_at.ensures ∙ room_length c.args.node.now c.told-node _ c.requires in
    omega (arith, size, c.data_length-n.ensures)

-- the data are the first n bytes of the c
in_room : (d r : List ℕ) (n : ℕ) (big : Bool) (start w : ℕ) → length r ≡ 40 → n ≤ 32 → take n r ≡ d
    → unpacked (places_in (length d) big start w) d ≡ unpacked (places_in n big start w) (take n r)
in_room d r n big start w l few front =
    let size : length d ≡ n = ap length (sym front) ∙ length-take-le n r (omega arith) in
    rw (size, ← front) refl

pub returns : goal.returns
unfolding value_in
returns c =
    let b = c.args.node.now in
    let f = c.args.x.frame in
    let n = c.data_length-n.result in
    let lent = c.room_at.ensures in
    let cut : n ≡ min (frame_at (layout_of b) f).length 32 =
    c.data_length-n.ensures ∙ ap (λ (h : Frame). min h.length 32) c.frame_at-h.ensures
    in
    let few : n ≤ 32 = omega arith in
    let size = ap length lent ∙ room_length b c.told-node f c.requires in
    let front = ap₂ take cut lent ∙ data_in_room b c.told-node f c.requires in
    rw (
      in_room (data_at (node_of b) f) _ n _ c.args.x.start c.args.g.width size few front,
      ← c.frame_at-h.ensures,
      ← c.is_big.ensures,
      ← c.unpack_in-pattern.ensures,
    )
    (rw c.is_signed.ensures at (to_z-of_z w64 c.value_of.result (record { sfits = c.value_of.type_inv }) ∙ c.value_of.ensures))
