-- The verdicts on 128 and on 129 fields, by computation, part by part: the size, the tests of all records but the last, the last one's, and NOFIELD. RANGE
-- looks at each record by itself, since through the file the way to each of its bytes is long.
-- Assumes nothing.
use mathlib.Core.Path.{◌≡◌, refl, sym, ap, ap₂, ◌∙◌}
use mathlib.Core.Bool.{Bool, true, false, cond, ◌||◌}
use mathlib.Core.List.{List, [], ◌∷◌}
use Prim.Native.Nat.{ℕ, suc}
use Rattle.packing.specs.Values.{is_width, extend, extended}
use Rattle.float.specs.Patterns.{aside}
use Rattle.record.specs.Numbers.{tally, any_below, least_below, one_of}
use Rattle.record.specs.Records.{byte_at, record_bytes, word_at, is_frame, is_message, is_field, frame_at, message_at, field_at, pair_below}
use Rattle.record.specs.Runs.{past_end, meet, clash}
use Rattle.ranges.specs.Ranges.{wrong_if, word_fits, word_finding, frame_finding, message_finding, field_finding, finding_of, finding_at, wrong_at}
use Rattle.ranges.specs.Ranges.{RecordFinding, lowest_fault, range_fault, is_fault}
use Rattle.std.specs.Prelude.{Ok, Err}
use Rattle.layout.specs.Counts.{counts, counts_before}
use Rattle.layout.specs.Verdict.{size_fault, order_fault, ref_fault, is_field_of, unlike, group_fault, clash_at, place_fault, fails, refusal_of}
use Rattle.layout.specs.Verdict.{no_field, complete, fails_at, refused_at, refusal_at, judged, verdict}
use Rattle.layout.specs.declared.Counts.{Counts}
use Rattle.layout.specs.declared.Refusal.{Refusal}
use Rattle.record.proofs.Searches.{any_same}
use Rattle.ranges.proofs.Own.{own_range}
use Rattle.verdicts.specs.Rows.{led, wide, narrow, spread, many}

-- whether record i fails a test, where RANGE looks at the record by itself: through the file the way to each of its bytes is long
tests : List ℕ → ℕ → Counts → RecordFinding → Bool
tests s i c r = one_of (order_fault s i c ∷ is_fault r ∷ ref_fault s i c ∷ group_fault s i c ∷ place_fault s i c ∷ [])

fails_alone : List ℕ → ℕ → Bool
fails_alone s i = tests s i (counts_before s i) (range_fault (record_bytes s i) 0)

same_fails : (s : List ℕ) (i : ℕ) → fails_at s i ≡ fails_alone s i
unfolding tests fails_alone fails fails_at
same_fails s i = ap (tests s i (counts_before s i)) (sym (own_range s i))

none_fails : (s : List ℕ) (n : ℕ) → any_below (fails_alone s) n ≡ false → any_below (fails_at s) n ≡ false
none_fails s n e = any_same (fails_at s) (fails_alone s) n (λ k l. same_fails s k) ∙ e

-- where none fails NOFIELD is left, and a record that fails decides where those before it pass
all_pass : (s : List ℕ) (n : ℕ) → any_below (fails_at s) n ≡ false → judged s n ≡ complete s n (counts_before s n)
unfolding judged
all_pass s n e = ap (λ b. cond b (refusal_at s (least_below (fails_at s) n)) (complete s n (counts_before s n))) e

last_decides : (s : List ℕ) (n : ℕ) → any_below (fails_at s) n ≡ false → fails_at s n ≡ true → judged s (suc n) ≡ refusal_at s n
unfolding any_below least_below judged
last_decides s n before last =
    ap₂
    (λ b l. cond (b || l) (refusal_at s (cond b (least_below (fails_at s) n) (cond l n (suc n)))) (complete s (suc n) (counts_before s (suc n))))
    before
    last

-- 128

size_128 : verdict (many 16 128) ≡ judged (many 16 128) 152
unfolding many wide narrow spread led size_fault verdict
size_128 = refl

pass_128 : any_below (fails_alone (many 16 128)) 152 ≡ false
unfolding
    many wide narrow spread led
    extended is_width extend aside
    tally any_below least_below
    byte_at word_at is_frame is_message is_field frame_at message_at field_at counts_before
    wrong_if word_fits word_finding frame_finding message_finding field_finding finding_of finding_at wrong_at lowest_fault range_fault
    pair_below order_fault ref_fault is_field_of unlike group_fault
    past_end meet clash clash_at place_fault record_bytes tests fails_alone
pass_128 = refl

complete_128 : complete (many 16 128) 152 (counts_before (many 16 128) 152) ≡ Ok (counts 8 16 128)
unfolding
    many wide narrow spread led
    tally any_below byte_at is_frame is_message is_field field_at counts_before is_field_of no_field complete
complete_128 = refl

pub fields_128 : verdict (many 16 128) ≡ Ok (counts 8 16 128)
fields_128 = size_128 ∙ all_pass _ 152 (none_fails _ 152 pass_128) ∙ complete_128

-- 129

size_129 : verdict (many 17 129) ≡ judged (many 17 129) 154
unfolding many wide narrow spread led size_fault verdict
size_129 = refl

before_129 : any_below (fails_alone (many 17 129)) 153 ≡ false
unfolding
    many wide narrow spread led
    extended is_width extend aside
    tally any_below least_below
    byte_at word_at is_frame is_message is_field frame_at message_at field_at counts_before
    wrong_if word_fits word_finding frame_finding message_finding field_finding finding_of finding_at wrong_at lowest_fault range_fault
    pair_below order_fault ref_fault is_field_of unlike group_fault
    past_end meet clash clash_at place_fault record_bytes tests fails_alone
before_129 = refl

fails_129 : fails_at (many 17 129) 153 ≡ true
unfolding
    many wide narrow spread led
    extended is_width extend aside
    tally any_below least_below
    byte_at word_at is_frame is_message is_field frame_at message_at field_at counts_before
    wrong_if word_fits word_finding frame_finding message_finding field_finding finding_of finding_at wrong_at lowest_fault range_fault
    pair_below order_fault ref_fault is_field_of unlike group_fault
    fails fails_at
fails_129 = refl

group_129 : refusal_at (many 17 129) 153 ≡ Err (refused_at Refusal.Group 153)
unfolding
    many wide narrow spread led
    extended is_width extend aside
    tally any_below least_below
    byte_at word_at is_frame is_message is_field frame_at message_at field_at counts_before
    wrong_if word_fits word_finding frame_finding message_finding field_finding finding_of finding_at wrong_at lowest_fault range_fault
    pair_below order_fault ref_fault is_field_of unlike group_fault
    refusal_of refusal_at
group_129 = refl

pub fields_129 : verdict (many 17 129) ≡ Err (refused_at Refusal.Group 153)
fields_129 = size_129 ∙ last_decides _ 153 (none_fails _ 153 before_129) fails_129 ∙ group_129
