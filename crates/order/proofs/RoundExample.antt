-- The theorems on the deliveries say something: on a loaded node a round in which frame 0 is validly delivered twice, then invalidly, then with too few
-- bytes, and a round with one delivery of the same first byte. What the calls answer is computed; what stands, and that both rounds show the same, is
-- by the theorems; and what one of them shows is computed again.
-- Assumes nothing.
use mathlib.Core.Path.{◌≡◌, refl, ap, sym, subst₂, ◌∙◌}
use mathlib.Core.Bool.{Bool, true, false}
use mathlib.Core.List.{List, [], ◌∷◌}
use mathlib.Core.Logic.{⊎_elim}
use Prim.Native.Nat.{ℕ, ◌<◌}
use native.Mathlib.Omega.{arith}
use lib.IntN.{ℤ, pos}
use Rattle.whole.specs.Whole.{all_of}
use Rattle.packing.specs.Places.{Agree, bit_at, bit_of, place_of, frame_bit, bit_places, places, in_frame, places_in, unpacked}
use Rattle.packing.specs.Values.{is_width, extend, value_of, pattern_of}
use Rattle.agreement.specs.Agreement.{agreed}
use Rattle.filter.specs.Filter.{rules, passes}
use Rattle.record.specs.Numbers.{tally, any_below, least_below}
use Rattle.record.specs.Records.{byte_at, word_at, frame_at, message_at, field_at}
use Rattle.record.specs.declared.Field.{Field as FieldRecord}
use Rattle.layout.specs.Paper.{record_of}
use Rattle.store.specs.Node.{Node, laid_at}
use Rattle.start.specs.Start.{
  table,
  selected,
  laid_frame,
  frame_by_frame,
  start_message,
  start_message_or_none,
  state_or_none,
  start_laid,
  start_frames,
  start_index,
  start_messages,
  start_states,
  start_fields,
  start_layout,
  start_state,
  start_of,
}
use Rattle.message.specs.Fields.{status_places}
use Rattle.own.specs.declared.Owner.{Owner}
use Rattle.own.specs.Own.{chosen, changed, owns, cells_of}
use Rattle.own.specs.SoundLayout.{message_places, its_status_places}
use Rattle.own.proofs.Owners.{fields_named}
use Rattle.message.specs.Messages.{passes_now, agreed_by, filtered}
use Rattle.node.specs.Calls.{deliver_answer, kept, deliver_of, receive_answer, received_place}
use Rattle.closing.specs.Closing.{came, status_set, counts, value_in, instances, none_came, closed_state, is_received, close_messages, forget, close_of}
use Rattle.node.specs.Load.{load_of}
use Rattle.node.specs.Sound.{Sound}
use Rattle.calls.specs.Relations.{Call, deliver, close, receive, value, sees, seen_of, next, final}
use Rattle.order.specs.Order.{In}
use Rattle.order.specs.Flag.{Answered, succeeded, answered}
use Rattle.order.specs.Deliveries.{DeliveredWith, NoneDelivered, NoneSince, LastDelivery, last, among, OneRound, SameArrival, SameOwnRound}
use Rattle.order.specs.Example.{received_file, delivered_twice, delivered_once, SameShown}
use Rattle.order.proofs.Among.{in_none, in_cases}
use Rattle.order.proofs.Constructors.{clash}
use Rattle.order.proofs.LoadedNodes.{accepted, loads, loaded_sound}
use Rattle.order.proofs.DeliveryHistory.{none_loaded, delivery_history}
use Rattle.order.proofs.OwnRound.{own_round}

abbrev loaded : Node
loaded = start_of received_file 1 1 1

load : (n : Node) → load_of n received_file ≡ record { answer = 0; node = loaded }
load = loads received_file 1 1 1 accepted.8

sound : Sound loaded
sound = loaded_sound received_file 1 1 1 accepted.8

none : NoneDelivered loaded
none = rw (load loaded) at (none_loaded loaded received_file (rw (load loaded) refl))

-- the answers: three times 0, and 18
abbrev answers : List Answered
answers =
    succeeded (deliver 0 true (1 ∷ 2 ∷ [])) ∷ succeeded (deliver 0 true (5 ∷ 9 ∷ [])) ∷ succeeded (deliver 0 false (7 ∷ 7 ∷ []))
    ∷ record { call = deliver 0 true (8 ∷ []); answer = 18 } ∷ []

answered_twice : answered loaded delivered_twice ≡ answers
unfolding
    received_file record_of tally byte_at frame_at message_at field_at
    start_layout start_state start_frames table laid_frame
    deliver_of deliver_answer
answered_twice = refl

answered_once : answered loaded delivered_once ≡ succeeded (deliver 0 true (5 ∷ 3 ∷ [])) ∷ []
unfolding
    received_file record_of tally byte_at frame_at message_at field_at
    start_layout start_state start_frames table laid_frame
    deliver_of deliver_answer
answered_once = refl

-- ---- what stands

-- an invalid delivery and one that was not answered 0 replace nothing
none_since : NoneSince 0 (succeeded (deliver 0 false (7 ∷ 7 ∷ [])) ∷ record { call = deliver 0 true (8 ∷ []); answer = 18 } ∷ [])
none_since =
    record {
      closing = λ i. two (succeeded close) i (λ e. let call = ap (λ (k : Answered). k.call) e in clash cc) (λ e. refused e);
      delivery = λ b i. two (succeeded (deliver 0 true b)) i (λ e. let call = ap (λ (k : Answered). k.call) e in clash cc) (λ e. refused e);
    }
  where
    two : (a : Answered) {c d : Answered} → In a (c ∷ d ∷ []) → (a ≡ c → ⊥) → (a ≡ d → ⊥) → ⊥
    two a i h k = ⊎_elim h (λ j. ⊎_elim k (λ l. in_none l) (in_cases j)) (in_cases i)

    refused : {c d : Call} → succeeded c ≡ record { call = d; answer = 18 } → ⊥
    refused e = let answer : ◌≡◌ {A = ℕ} 0 18 = ap (λ (k : Answered). k.answer) e in omega arith

last_of_two : LastDelivery 0 (5 ∷ 9 ∷ []) (answered loaded delivered_twice)
last_of_two = rw answered_twice (among (last none_since))

last_of_one : LastDelivery 0 (5 ∷ 3 ∷ []) (answered loaded delivered_once)
last_of_one = rw answered_once (last (record { closing = λ i. in_none i; delivery = λ b i. in_none i }))

known : 0 < loaded.layout.frame_number
unfolding start_layout
known = omega arith

twice_stands : DeliveredWith (final loaded delivered_twice) 0 (5 ∷ 9 ∷ [])
twice_stands = (delivery_history sound none delivered_twice 0 known (5 ∷ 9 ∷ [])).1 last_of_two

once_stands : DeliveredWith (final loaded delivered_once) 0 (5 ∷ 3 ∷ [])
once_stands = (delivery_history sound none delivered_once 0 known (5 ∷ 3 ∷ [])).1 last_of_one

-- and nothing else does
only_of_two : (b : List ℕ) → LastDelivery 0 b (answered loaded delivered_twice) → (5 ∷ 9 ∷ []) ≡ b
only_of_two b k = sym twice_stands.same ∙ ((delivery_history sound none delivered_twice 0 known b).1 k).same

only_of_one : (b : List ℕ) → LastDelivery 0 b (answered loaded delivered_once) → (5 ∷ 3 ∷ []) ≡ b
only_of_one b k = sym once_stands.same ∙ ((delivery_history sound none delivered_once 0 known b).1 k).same

-- so what agrees of the two agrees of what came last
agree : (b b' : List ℕ) → LastDelivery 0 b (answered loaded delivered_twice) → LastDelivery 0 b' (answered loaded delivered_once)
    → (places : List ℕ) → Agree (5 ∷ 9 ∷ []) (5 ∷ 3 ∷ []) places → Agree b b' places
agree b b' k k' places = subst₂ (λ (c c' : List ℕ). Agree c c' places) (only_of_two b k) (only_of_one b' k')

-- ---- what is shown

-- the one field, of message 0 in frame 0
abbrev field : FieldRecord
field = laid_at loaded.layout 0

-- they have the same bits at its places, which are those of the first byte
own_places : Agree (5 ∷ 9 ∷ []) (5 ∷ 3 ∷ []) (message_places loaded.layout field)
    × Agree (5 ∷ 9 ∷ []) (5 ∷ 3 ∷ []) (its_status_places loaded.layout field)
unfolding
    received_file record_of tally least_below any_below byte_at word_at frame_at message_at field_at
    start_layout start_frames start_messages start_fields table laid_frame start_message_or_none start_message start_laid
    status_places places_in in_frame places bit_places frame_bit place_of bit_of bit_at
own_places = ((refl, (refl, (refl, (refl, (refl, (refl, (refl, (refl, tt)))))))), tt)

arrival : SameArrival loaded.layout field (answered loaded delivered_twice) (answered loaded delivered_once)
unfolding received_file record_of byte_at field_at start_layout start_fields table start_laid
arrival =
    record {
      frame = (λ k. (5 ∷ 3 ∷ [], last_of_one), λ k. (5 ∷ 9 ∷ [], last_of_two));
      bits = λ b b' k k'. agree b b' k k' (message_places loaded.layout field) own_places.0;
      status = λ b b' k k'. agree b b' k k' (its_status_places loaded.layout field) own_places.1;
    }

-- a delivery ends no round
more : (f : ℕ) (valid : Bool) (b : List ℕ) (l : List Call) → OneRound l → OneRound (deliver f valid b ∷ l)
more f valid b l h i = ⊎_elim (λ e. clash cc) h (in_cases i)

same : SameOwnRound loaded loaded delivered_twice delivered_once 0
unfolding start_layout
same =
    record {
      layout = refl;
      values = refl;
      begins = (none, none);
      ends = (more _ _ _ _ (more _ _ _ _ (more _ _ _ _ (more _ _ _ [] in_none))), more _ _ _ [] in_none);
      fields = λ d mine. let first : d ≡ 0 = omega (arith, ((fields_named sound.layout (Owner.Message 0) d).0 mine).0) in rw first arrival;
    }

is_received_lem : is_received loaded.layout 0 ≡ true
unfolding received_file record_of tally least_below any_below byte_at word_at message_at field_at start_layout start_messages table start_message_or_none start_message is_received
is_received_lem = refl

once_shown : (p : ℤ) → seen_of (next (final loaded delivered_once) close) (receive 0 p) ≡ sees 0 (value (pos 5))
unfolding
    received_file record_of tally least_below any_below byte_at word_at frame_at message_at field_at
    start_layout start_state start_frames start_index start_messages start_states start_fields
    table selected laid_frame frame_by_frame start_message_or_none start_message state_or_none start_laid
    chosen changed cells_of owns all_of deliver_of deliver_answer kept
    close_of forget close_messages closed_state is_received instances none_came counts came status_set value_in
    agreed_by agreed filtered passes_now passes rules receive_answer received_place
    places_in in_frame places bit_places frame_bit place_of bit_at bit_of unpacked value_of extend is_width pattern_of
once_shown p = refl

pub round_example : (n : Node) → ((load_of n received_file).answer ≡ 0) × SameShown (load_of n received_file).node
round_example n =
    rw (load n) (
      refl,
      record {
        twice = twice_stands;
        once = once_stands;
        twice_shown = λ p. own_round sound sound 0 is_received_lem same [] [] in_none in_none p ∙ once_shown p;
        once_shown = once_shown;
      },
    )
