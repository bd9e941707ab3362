-- Replicas in two loaded nodes: message 0 of the one, in frame 0, and message 1 of the other, in frame 1, beside another message. The paper's 677 comes
-- to the one as packed into zeros and to the other as packed into ones, so that all bits but its own differ; both show it. And what replicas are asked
-- is needed: the same bytes show something else in a frame of big order, with another word, and where the message's frames stand in another order.
-- Assumes nothing.
use mathlib.Core.Path.{◌≡◌, refl, sym, ◌∙◌}
use mathlib.Core.Bool.{true}
use mathlib.Core.List.{[], ◌∷◌}
use native.Mathlib.Omega.{arith}
use lib.IntN.{ℤ, pos}
use Rattle.whole.specs.Whole.{all_of}
use Rattle.packing.specs.Places.{bit_of, bit_at, place_of, frame_bit, bit_places, places, in_frame, places_in, unpacked}
use Rattle.packing.specs.Values.{value_of, pattern_of}
use Rattle.agreement.specs.Agreement.{count_of, ahead, one_that, vote, agreed}
use Rattle.filter.specs.Filter.{compared, bound, rules, passes}
use Rattle.record.specs.Numbers.{tally, any_below, least_below}
use Rattle.record.specs.Records.{byte_at, word_at, frame_at, message_at, field_at}
use Rattle.layout.specs.Paper.{record_of}
use Rattle.store.specs.Node.{Node}
use Rattle.start.specs.Start.{
  table,
  selected,
  laid_frame,
  frame_by_frame,
  start_message,
  start_message_or_none,
  state_or_none,
  start_laid,
  start_frames,
  start_index,
  start_messages,
  start_states,
  start_fields,
  start_layout,
  start_state,
}
use Rattle.message.specs.Messages.{passes_now, agreed_by, filtered}
use Rattle.message.specs.Fields.{status_places}
use Rattle.own.specs.Own.{chosen, changed, owns, cells_of}
use Rattle.node.specs.Calls.{deliver_answer, kept, deliver_of, receive_answer, received_place}
use Rattle.closing.specs.Closing.{came, status_set, counts, value_in, instances, none_came, closed_state, is_received, close_messages, forget, close_of}
use Rattle.calls.specs.Relations.{deliver, close, receive, value, sees, seen_of, next, final}
use Rattle.order.specs.Replicas.{Replicas, CameAlike}
use Rattle.order.specs.Mirror.{after_round}
use Rattle.order.proofs.Kept.{kept_sound}
use Rattle.order.specs.LoadedNodes.{alone_file, among_file, twice_file, receiver_alone, receiver_among, receiver_twice, ReplicasShow}
use Rattle.order.proofs.LoadedNodes.{alone_sound, among_sound}
use Rattle.order.proofs.Replicas.{replicas_agree}

replicas : Replicas (receiver_alone 0 188).layout receiver_among.layout 0 1
unfolding
    receiver_alone receiver_among alone_file among_file record_of byte_at word_at frame_at message_at field_at tally any_below least_below
    start_layout start_frames start_index start_messages start_fields table selected laid_frame frame_by_frame start_message_or_none start_message start_laid
    chosen cells_of owns is_received
replicas =
    record {
      received = refl;
      received' = refl;
      message = record { width = refl; sign = refl; agreement = refl; filter = refl; x1 = refl; x2 = refl };
      fields = (record { length = refl; order = refl; start = refl; status = refl; place = refl }, tt);
    }

-- the nodes to which the frame came
abbrev one : Node
one = next (receiver_alone 0 188) (deliver 0 true (41 ∷ 21 ∷ []))

abbrev other : Node
other = next receiver_among (deliver 1 true (47 ∷ 245 ∷ []))

came_alike : CameAlike one other 0 1
unfolding
    receiver_alone receiver_among alone_file among_file record_of byte_at word_at frame_at message_at field_at tally any_below least_below
    start_layout start_state start_frames start_index start_messages start_states start_fields
    table selected laid_frame frame_by_frame start_message_or_none start_message state_or_none start_laid
    chosen cells_of owns deliver_of deliver_answer kept came
    bit_of bit_at place_of frame_bit bit_places places in_frame places_in status_places
came_alike =
    record {
      values = refl;
      fields = (record { frame = refl; bits = λ t. omega arith; status = λ t. omega arith }, tt);
    }

-- what the receiver alone shows, by computation: 677; were its frame of big order, 22; and were its word x2 600, 21
alone_shows : (p : ℤ)
    → (seen_of (after_round (receiver_alone 0 188) 0 (41 ∷ 21 ∷ [])) (receive 0 p) ≡ sees 0 (value (pos 677)))
    × (seen_of (after_round (receiver_alone 1 188) 0 (41 ∷ 21 ∷ [])) (receive 0 p) ≡ sees 22 (value p))
    × (seen_of (after_round (receiver_alone 0 88) 0 (41 ∷ 21 ∷ [])) (receive 0 p) ≡ sees 21 (value p))
unfolding
    receiver_alone alone_file record_of byte_at word_at frame_at message_at field_at tally any_below least_below
    start_layout start_state start_frames start_index start_messages start_states start_fields
    table selected laid_frame frame_by_frame start_message_or_none start_message state_or_none start_laid
    chosen cells_of owns deliver_of deliver_answer kept came
    bit_of bit_at place_of frame_bit bit_places places in_frame places_in status_places
    is_received close_of forget close_messages changed closed_state instances none_came counts status_set value_in unpacked
    agreed_by agreed vote one_that ahead count_of filtered passes_now passes rules compared bound value_of pattern_of all_of receive_answer received_place
alone_shows p = (refl, refl, refl)

-- frames in another order: where the frame of one byte comes first 5 is picked, and where that of two bytes does, 7
lowest_picked : (p : ℤ)
    → (seen_of (final (receiver_twice 1 2) (deliver 0 true (5 ∷ []) ∷ deliver 1 true (7 ∷ 0 ∷ []) ∷ close ∷ [])) (receive 0 p) ≡ sees 0 (value (pos 5)))
    × (seen_of (final (receiver_twice 2 1) (deliver 0 true (7 ∷ 0 ∷ []) ∷ deliver 1 true (5 ∷ []) ∷ close ∷ [])) (receive 0 p) ≡ sees 0 (value (pos 7)))
unfolding
    receiver_twice twice_file record_of byte_at word_at frame_at message_at field_at tally any_below least_below
    start_layout start_state start_frames start_index start_messages start_states start_fields
    table selected laid_frame frame_by_frame start_message_or_none start_message state_or_none start_laid
    chosen cells_of owns deliver_of deliver_answer kept came
    bit_of bit_at place_of frame_bit bit_places places in_frame places_in status_places
    is_received close_of forget close_messages changed closed_state instances none_came counts status_set value_in unpacked
    agreed_by agreed filtered passes_now passes rules value_of pattern_of all_of receive_answer received_place
lowest_picked p = (refl, refl)

-- the one shows 677, and so does the other, since they are replicas
pub replicas_example : (p : ℤ) → ReplicasShow p
unfolding deliver_of
replicas_example p =
    let same = replicas_agree (kept_sound alone_sound (deliver 0 true (41 ∷ 21 ∷ []))) (kept_sound among_sound (deliver 1 true (47 ∷ 245 ∷ []))) 0 1
    replicas came_alike p in
    record {
      alone = (alone_shows p).0;
      among = sym same ∙ (alone_shows p).0;
      other_order = (alone_shows p).1;
      other_word = (alone_shows p).2;
      five_first = (lowest_picked p).0;
      seven_first = (lowest_picked p).1;
    }
