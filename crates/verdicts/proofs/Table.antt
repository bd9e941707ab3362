-- The table of files and their verdicts, by computation.
-- Assumes nothing.
use mathlib.Core.Path.{◌≡◌, refl}
use mathlib.Core.List.{map}
use Rattle.packing.specs.Values.{is_width, extend, extended}
use Rattle.float.specs.Patterns.{aside}
use Rattle.record.specs.Numbers.{tally, any_below, least_below}
use Rattle.record.specs.Records.{byte_at, word_at, is_frame, is_message, is_field, frame_at, message_at, field_at, pair_below}
use Rattle.record.specs.Runs.{past_end, meet, clash}
use Rattle.ranges.specs.Ranges.{wrong_if, word_fits, word_finding, frame_finding, message_finding, field_finding, finding_of, finding_at, wrong_at}
use Rattle.ranges.specs.Ranges.{lowest_fault, range_fault}
use Rattle.layout.specs.Counts.{counts_before}
use Rattle.layout.specs.Paper.{record_of}
use Rattle.layout.specs.Verdict.{size_fault, order_fault, ref_fault, is_field_of, unlike, group_fault, clash_at, place_fault, fails, refusal_of}
use Rattle.layout.specs.Verdict.{no_field, complete, fails_at, refusal_at, judged, verdict}
use Rattle.verdicts.specs.Rows.{frame, message, field, frames, fields, messages, row, from, small, each_byte, frame_answers, message_answers}
use Rattle.verdicts.specs.Rows.{field_answers, byte_rows, float, zero_word, minus_zero, infinity, not_a_number, float_rows, rows}

pub table : map (λ r. verdict r.file) rows ≡ map (λ r. r.answer) rows
unfolding
    rows row frame message field frames fields messages record_of
    from small each_byte frame_answers message_answers field_answers byte_rows
    float zero_word minus_zero infinity not_a_number float_rows
    extended is_width extend aside
    tally any_below least_below
    byte_at word_at is_frame is_message is_field frame_at message_at field_at counts_before
    wrong_if word_fits word_finding frame_finding message_finding field_finding finding_of finding_at wrong_at lowest_fault range_fault
    size_fault pair_below order_fault ref_fault is_field_of unlike group_fault
    past_end meet clash clash_at place_fault fails refusal_of no_field complete fails_at refusal_at judged verdict
table = refl
