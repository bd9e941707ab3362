use mathlib.Core.Path.{◌≡◌, refl, ◌∙◌}
use mathlib.Core.Bool.{false}
use native.Mathlib.Omega.{arith}
use borrow.Author.Rules.{rules}
use Rattle.record.specs.Numbers.{any_below}
use Rattle.layout.specs.Counts.{counts_before}
use Rattle.layout.specs.Verdict.{fails_at, judged}
use Rattle.reader.specs.Carried.{Lacks}
use Rattle.reader.proofs.Reading.{passed, refused}
use Rattle.reader.proofs.Carried.{at_hand_few, lacks_none, completed}
use Rattle.reader.proofs.Bits.{carried_none, fitting, carried_next, lacks_next}
use Rattle.reader.proofs.judge.Goals as goal

pub loop-i-init : goal.loop-i-init
loop-i-init c = (search rules, carried_none _ c.default-c.ensures refl, lacks_none _, search rules)

pub add_field-requires-clause-fits : goal.add_field-requires-clause-fits
add_field-requires-clause-fits c =
    let inv = c.loop-i.invariant in
    let turn = passed _ _ inv.1.counts c.read-read.ensures c.in_default.is refl in
    fitting _ _ inv.1 turn.passes

pub fields_after-fields_so_far-requires : goal.fields_after-fields_so_far-requires
fields_after-fields_so_far-requires c = rw c.loop-i.invariant.1.hand (omega (arith, at_hand_few c.args.file.now c.loop-i.i))

pub loop-i-preserved : goal.loop-i-preserved
loop-i-preserved c =
    let inv = c.loop-i.invariant in
    let turn = passed _ _ inv.1.counts c.read-read.ensures c.in_default.is c.with-c.ensures in
    let next = carried_next _ _ inv.1 turn.passes turn.counts c.add_field.ensures in
    let lacks = lacks_next _ _ inv.1 turn.passes inv.2 in
    (omega arith, rw c.fields_after-fields_so_far.ensures next, rw c.lacking_after-lacking.ensures.value lacks, c.lacking_after-lacking.ensures.few)

pub returns-in-loop-i : goal.returns-in-loop-i
returns-in-loop-i c =
    let inv = c.loop-i.invariant in
    refused _ _ inv.1.counts c.read-read.ensures _ c.in-Err.is inv.1.passes c.loop-i-test.true

pub returns : goal.returns
unfolding judged
returns c =
    let a = c.args in
    let inv = c.loop-i.invariant in
    let e : c.loop-i.i ≡ a.n = omega arith in
    let counts : c.loop-i.c ≡ counts_before a.file.now a.n = rw (← e) inv.1.counts in
    let none : any_below (fails_at a.file.now) a.n ≡ false = rw (← e) inv.1.passes in
    let lacks : Lacks a.file.now a.n c.loop-i.lacking = rw (← e) inv.2 in
    rw (none, ← counts) (c.complete_file.ensures ∙ completed _ a.n c.loop-i.c lacks)
