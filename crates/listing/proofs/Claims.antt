-- The theorems on the text of a listing. The paper's file is accepted, and the rest of the examples is computed.
-- Assumes nothing.
use mathlib.Core.Path.{◌≡◌, refl}
use Rattle.packing.specs.Values.{is_width, extend, extended}
use Rattle.float.specs.Patterns.{aside}
use Rattle.record.specs.Numbers.{tally, any_below, least_below}
use Rattle.record.specs.Records.{byte_at, word_at, is_frame, is_message, is_field, frame_at, message_at, field_at, pair_below}
use Rattle.record.specs.Runs.{past_end, meet, clash}
use Rattle.ranges.specs.Ranges.{wrong_if, word_fits, word_finding, frame_finding, message_finding, field_finding, finding_of, finding_at, wrong_at}
use Rattle.ranges.specs.Ranges.{lowest_fault, range_fault}
use Rattle.layout.specs.Counts.{counts, counts_before}
use Rattle.layout.specs.Paper.{record_of, paper}
use Rattle.layout.specs.Verdict.{size_fault, order_fault, ref_fault, is_field_of, unlike, group_fault, clash_at, place_fault, fails, refusal_of}
use Rattle.layout.specs.Verdict.{no_field, complete, fails_at, refusal_at, judged, verdict}
use Rattle.std.specs.Prelude.{Ok}
use Rattle.listing.specs.Text.{digits, status_text, line_of, line_at, lines, byte_text, refusal_text, listing}
use Rattle.listing.specs.Claims.{Claims}
use Rattle.listing.proofs.Decimal.{decimal_reads}

paper_accepted : verdict paper ≡ Ok (counts 1 1 1)
unfolding
    record_of extended is_width extend aside
    tally any_below least_below
    byte_at word_at is_frame is_message is_field frame_at message_at field_at counts_before
    wrong_if word_fits word_finding frame_finding message_finding field_finding finding_of finding_at wrong_at lowest_fault range_fault
    size_fault pair_below order_fault ref_fault is_field_of unlike group_fault
    past_end meet clash clash_at place_fault fails refusal_of no_field complete fails_at refusal_at judged verdict
paper_accepted = refl

pub claims : Claims
unfolding record_of byte_at message_at field_at digits status_text line_of line_at lines byte_text refusal_text listing
claims = record { decimal_reads = decimal_reads; example = rw paper_accepted; refused_with_byte = refl; refused = refl }
