-- Values that go from one loaded node to another, in which the message has another number: each of the six claims of there and back has its case.
-- Assumes nothing.
use mathlib.Core.Path.{refl}
use mathlib.Core.List.{List, [], ◌∷◌}
use lib.IntN.{ℤ, pos}
use Rattle.whole.specs.Whole.{all_of}
use Rattle.packing.specs.Values.{is_width, least, greatest, in_range, value_of, pattern_of}
use Rattle.filter.specs.Filter.{compared, bound, rules, passes}
use Rattle.record.specs.declared.Field.{Field as FieldRecord}
use Rattle.record.specs.Numbers.{tally, any_below, least_below}
use Rattle.record.specs.Records.{byte_at, word_at, frame_at, message_at, field_at}
use Rattle.layout.specs.Paper.{record_of}
use Rattle.start.specs.Start.{
  table,
  selected,
  laid_frame,
  frame_by_frame,
  start_message,
  start_message_or_none,
  state_or_none,
  start_laid,
  start_frames,
  start_index,
  start_messages,
  start_states,
  start_fields,
  start_layout,
  start_state,
}
use Rattle.message.specs.Messages.{can_hold, passes_now, offered}
use Rattle.own.specs.Own.{chosen, owns, cells_of}
use Rattle.node.specs.Calls.{send_answer, send_of, invalidate_answer, invalidate_of, suppressed, assemble_answer, assemble_of, consumed_of, consumed_answer}
use Rattle.closing.specs.Closing.{came, counts, instances, is_received}
use Rattle.calls.specs.Relations.{Call, send, assemble, consumed}
use Rattle.order.specs.Order.{here}
use Rattle.order.specs.Mirror.{Mirrors}
use Rattle.order.specs.LoadedNodes.{sender_file, among_file, sender, receiver_among, PassedOn}
use Rattle.order.proofs.LoadedNodes.{sender_sound, among_sound}
use Rattle.order.proofs.Kept.{final_sound}
use Rattle.order.proofs.ThereAndBack.{sent_received, sent_stopped, filtered_received, invalidated_received, held_received, cleared_received}

-- the message's field in the sender, and in the receiver
abbrev field : FieldRecord
field = record { message = 0; frame = 0; start = 3; status = 1; place = 0 }

abbrev field' : FieldRecord
field' = record { message = 1; frame = 1; start = 3; status = 1; place = 0 }

mirror : Mirrors sender.layout receiver_among.layout 0 1 field field'
unfolding
    sender receiver_among sender_file among_file record_of byte_at word_at frame_at message_at field_at tally any_below least_below
    start_layout start_frames start_index start_messages start_fields table selected laid_frame frame_by_frame start_message_or_none start_message start_laid
    chosen cells_of owns is_received
mirror =
    record {
      field = here;
      field' = here;
      received = refl;
      width = refl;
      sign = refl;
      lies = record { length = refl; order = refl; start = refl; status = refl; place = refl };
    }

-- 677 is sent and goes out
abbrev again : List Call
again = send 0 (pos 677) ∷ assemble 0 (255 ∷ 255 ∷ []) ∷ consumed 0 ∷ []

pub mirror_example : (p : ℤ) → PassedOn p
unfolding
    sender receiver_among sender_file among_file record_of byte_at word_at frame_at message_at field_at tally any_below least_below
    start_layout start_state start_frames start_index start_messages start_states start_fields
    table selected laid_frame frame_by_frame start_message_or_none start_message state_or_none start_laid
    chosen cells_of owns all_of send_of send_answer invalidate_of invalidate_answer can_hold in_range is_width least greatest value_of pattern_of passes_now passes rules compared bound
    offered assemble_of assemble_answer suppressed consumed_of consumed_answer instances counts came
mirror_example p =
    record {
      received = sent_received sender_sound among_sound mirror refl (255 ∷ 255 ∷ []) p (pos 677) refl refl refl refl;
      held = held_received (final_sound sender_sound again) among_sound mirror refl (255 ∷ 255 ∷ []) refl p refl refl;
      stopped = sent_stopped sender_sound among_sound mirror refl (255 ∷ 255 ∷ []) p (pos 701) refl refl refl refl;
      filtered = filtered_received sender_sound among_sound mirror refl (255 ∷ 255 ∷ []) p (pos 0) refl refl refl;
      invalidated = invalidated_received sender_sound among_sound mirror refl (255 ∷ 255 ∷ []) p refl refl;
      at_start = cleared_received sender_sound among_sound mirror refl (255 ∷ 255 ∷ []) refl p refl;
    }
