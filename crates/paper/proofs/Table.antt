-- The paper's table holds: antt computes each row from the definitions.
-- Assumes nothing.
use mathlib.Core.Path.{refl}
use Rattle.whole.specs.Whole.{all_of}
use Rattle.packing.specs.Places.{bit_of, bit_at, with_bit, put_bit, place_of, frame_bit, bit_places, places, in_frame, places_in, packed, unpacked}
use Rattle.packing.specs.Values.{is_width, least, greatest, in_range, value_of, pattern_of, extend, extended}
use Rattle.agreement.specs.Agreement.{sum_of, mean_of, message_value, message_values, average, count_of, ahead, one_that, vote, agreed}
use Rattle.filter.specs.Filter.{compared, rules, passes}
use Rattle.record.specs.Numbers.{tally, any_below, least_below}
use Rattle.record.specs.Records.{byte_at, word_at, is_frame, is_message, is_field, frame_at, message_at, field_at, pair_below}
use Rattle.record.specs.Runs.{past_end, meet}
use Rattle.ranges.specs.Ranges.{wrong_if, word_fits, word_finding, frame_finding, message_finding, field_finding}
use Rattle.ranges.specs.Ranges.{finding_of, finding_at, wrong_at, lowest_fault, range_fault}
use Rattle.layout.specs.Counts.{counts_before}
use Rattle.layout.specs.Verdict.{
  size_fault,
  order_fault,
  ref_fault,
  is_field_of,
  unlike,
  group_fault,
  clash_at,
  place_fault,
  fails,
  no_field,
  complete,
  fails_at,
  judged,
  verdict,
}
use Rattle.layout.specs.Paper.{record_of}
use Rattle.start.specs.Start.{
  table,
  selected,
  laid_frame,
  frame_by_frame,
  start_message,
  start_message_or_none,
  state_or_none,
  start_laid,
  start_frames,
  start_index,
  start_messages,
  start_states,
  start_fields,
  start_layout,
  start_state,
}
use Rattle.message.specs.Messages.{can_hold, passes_now, offered, agreed_by, filtered}
use Rattle.message.specs.Fields.{status_places}
use Rattle.own.specs.Own.{chosen, changed, owns, cells_of}
use Rattle.closing.specs.Closing.{came, status_set, counts, value_in, instances, none_came, closed_state, is_received, close_messages, forget, close_of}
use Rattle.node.specs.Calls.{send_answer, send_of, deliver_answer, kept, deliver_of, receive_answer, received_place}
use Rattle.node.specs.Load.{load_of}
use Rattle.paper.specs.Rows.{file_of, sent_one, sent, received_one, received, shown, Rows}

pub rows : Rows
unfolding
    bit_of bit_at with_bit put_bit place_of frame_bit bit_places places in_frame places_in packed unpacked value_of pattern_of all_of
    sum_of mean_of message_value message_values average count_of ahead one_that vote agreed rules passes compared
    can_hold passes_now offered agreed_by filtered file_of sent_one sent received_one received shown
    load_of record_of extended is_width extend in_range least greatest tally any_below least_below
    byte_at word_at is_frame is_message is_field frame_at message_at field_at pair_below counts_before
    wrong_if word_fits word_finding frame_finding message_finding field_finding finding_of finding_at wrong_at lowest_fault range_fault
    size_fault order_fault ref_fault is_field_of unlike group_fault past_end meet clash_at place_fault fails no_field complete fails_at judged verdict
    start_layout start_state start_frames start_index start_messages start_states start_fields
    table selected laid_frame frame_by_frame start_message_or_none start_message state_or_none start_laid
    chosen changed cells_of owns send_of send_answer deliver_of deliver_answer kept came status_places
    is_received close_of forget close_messages closed_state instances none_came counts status_set value_in receive_answer received_place
rows =
    record {
      P1 = refl;
      P2 = refl;
      P3 = refl;
      P4 = refl;
      P5 = refl;
      P6 = refl;
      P7 = refl;
      P8 = refl;
      P9 = refl;
      P10 = λ n. refl;
      P10-received = λ n. refl;
    }
