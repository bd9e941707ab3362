use mathlib.Core.Path.{◌≡◌, ap, sym, ◌∙◌}
use mathlib.Core.List.{List, [], ◌∷◌, ◌++◌, append-nil, append_assoc}
use Prim.Native.Nat.{ℕ, ◌+◌}
use native.Mathlib.Omega.{arith}
use lib.IntN.{ℤ, pos}
use lib.ListN.{length-append, drop, get_or}
use mir.Syntax.{w64}
use mir.Val.{SFits, to_z, of_z}
use mir.ValLaws.{to_z-of_z}
use borrow.Author.Rules.{rules}
use Rattle.whole.proofs.Loops.{next, none_left}
use Rattle.packing.specs.Values.{pattern_of}
use Rattle.float.specs.Patterns.{aside}
use Rattle.agreement.specs.Floats.{left_of}
use Rattle.agreement.proofs.Running.{left_none, left_out, left_in}
use Rattle.agreement.proofs.left_of.Goals.{After-is_aside, then-not-is_aside, else-not-is_aside}
use Rattle.agreement.proofs.left_of.Goals as goal

-- the instance of this turn, read back from its bits, and the test of it
module _ (c : After-is_aside) where
  abbrev instances : List ℤ
  instances = c.args.instances.now

  abbrev j : ℕ
  j = c.loop-v.v-index

  abbrev v : ℤ
  v = get_or instances j (pos 0)

  read : to_z w64 (of_z w64 v) ≡ v
  read = let fits : SFits w64 v = search rules in to_z-of_z w64 v fits

  tested : c.is_aside.result ≡ aside (pattern_of 32 v)
  tested = c.is_aside.ensures ∙ ap aside (c.pattern_of.ensures ∙ ap (pattern_of 32) read)

  so_far : left_of instances ≡ c.loop-v.left.items ++ left_of (v ∷ drop (j + 1) instances)
  so_far = c.loop-v.invariant.1 ∙ ap (λ r. c.loop-v.left.items ++ left_of r) (next instances j (pos 0) (omega arith))

pub loop-v-preserved : goal.loop-v-preserved
loop-v-preserved c =
    let turn = (goal.at.loop-v-preserved c).After-is_aside in
    let left = c.loop-v.left.items in
    let u = v turn in
    elim c.if-not-is_aside.branch [
      | then-not-is_aside w ↦
          rw (w.left-is, w.push.ensures.items, read turn) (
            rw length-append (omega arith),
            so_far turn
                ∙ ap (λ (r : List ℤ). left ++ r) (left_in u _ (sym (tested turn) ∙ w.if-not-is_aside.true))
                ∙ sym (append_assoc left (u ∷ []) _),
          )
      | else-not-is_aside w ↦
          rw w.left-is
          (omega arith, so_far turn ∙ ap (λ (r : List ℤ). left ++ r) (left_out u _ (sym (tested turn) ∙ w.if-not-is_aside.false)))
    ]

pub returns : goal.returns
returns c =
    let p = c.loop-v in
    sym (p.invariant.1 ∙ ap (λ (r : List ℤ). p.left.items ++ r) (ap left_of (none_left c.args.instances.now p.v-index (omega arith)) ∙ left_none) ∙ append-nil p.left.items)
