-- A closing depends on its own round's deliveries. No call but a closing changes what a receive shows, or a received message's values (ReceivedKept). So
-- at the end of a round a received message has the values of its beginning, its frames have what was delivered last, and two rounds that agree on these
-- end in two nodes which agree on the message's own bits.
-- Assumes nothing.
use mathlib.Core.Path.{◌≡◌, refl, sym, subst, ◌∙◌}
use mathlib.Core.Bool.{Bool, true, false, and-false}
use mathlib.Core.List.{List}
use mathlib.Core.Logic.{◌↔◌}
use Prim.Native.Nat.{ℕ, ◌<◌}
use lib.Dec.{ltb}
use lib.IntN.{ℤ}
use Rattle.packing.specs.Places.{Agree}
use Rattle.used.proofs.Runs.{same_tests}
use Rattle.store.specs.Node.{Layout, Node, message_count, is_sent, is_delivered, message_at, laid_at, delivery_at, state_at, data_at}
use Rattle.own.specs.declared.Owner.{Owner}
use Rattle.own.specs.Own.{is_in, cells_of}
use Rattle.own.specs.SoundLayout.{message_places, its_status_places}
use Rattle.node.specs.Calls.{receive_answer, received_place}
use Rattle.closing.specs.Closing.{came, is_received}
use Rattle.node.specs.Sound.{Sound}
use Rattle.calls.specs.Relations.{Call, close, receive, seen_of, next, final}
use Rattle.order.specs.Flag.{answered}
use Rattle.order.specs.Own.{SameValues, SameOwn}
use Rattle.order.specs.Deliveries.{DeliveredWith, LastDelivery, OneRound, SameArrival, SameOwnRound}
use Rattle.order.proofs.Kept.{final_layout, final_sound}
use Rattle.order.proofs.Replicas.{in_layout}
use Rattle.order.proofs.ReceivedKept.{round_kept, received_not_sent}
use Rattle.order.proofs.OwnBits.{refused, own_bits, own_values}
use Rattle.order.proofs.DeliveryHistory.{delivery_history}

-- ---- what only a closing changes

-- what a receive shows is what it showed when the round began
pub last_closing : (n : Node) (l : List Call) → OneRound l → (m : ℕ) (p : ℤ) → seen_of (final n l) (receive m p) ≡ seen_of n (receive m p)
unfolding receive_answer received_place
last_closing n l round m p = rw (final_layout n l) (go (is_sent (message_at n.layout m)) refl)
  where
    go : (t : Bool) → is_sent (message_at n.layout m) ≡ t
        → seen_of (record { layout = n.layout; state = (final n l).state }) (receive m p) ≡ seen_of n (receive m p)
    go true sent = let known = ltb m (message_count n.layout) in rw sent (refused known true 0 0 _ _ p (and-false known))
    go false received = rw (round_kept n m received l round) refl

-- ---- two rounds

module _ {n n' : Node} (s : Sound n) (s' : Sound n') (m : ℕ) (received : is_received n.layout m ≡ true) {l l' : List Call}
    (same : SameOwnRound n n' l l' m) where
  not_sent : is_sent (message_at n.layout m) ≡ false
  not_sent = received_not_sent n.layout m received

  values_end : SameValues (state_at (final n l).state m) (state_at (final n' l').state m)
  values_end =
      rw (round_kept n m not_sent l same.ends.0, round_kept n' m (rw same.layout at not_sent) l' same.ends.1) same.values

  module _ (d : ℕ) (mine : is_in d (cells_of n.layout (Owner.Message m)) ≡ true) where
    abbrev frame : ℕ
    frame = (laid_at n.layout d).frame

    known : frame < n.layout.frame_number
    known = in_layout s.layout m d mine

    -- what came of the field's frame is what was delivered last
    one : (b : List ℕ) → DeliveredWith (final n l) frame b ↔ LastDelivery frame b (answered n l)
    one = delivery_history s same.begins.0 l frame known

    other : (b : List ℕ) → DeliveredWith (final n' l') frame b ↔ LastDelivery frame b (answered n' l')
    other = delivery_history s' same.begins.1 l' frame (subst (λ (k : Layout). frame < k.frame_number) same.layout known)

    abbrev arrival : SameArrival n.layout (laid_at n.layout d) (answered n l) (answered n' l')
    arrival = same.fields d mine

    came_alike : is_delivered (delivery_at (final n l).state frame) ≡ is_delivered (delivery_at (final n' l').state frame)
    came_alike =
        same_tests _ _ (
          λ t. let (b, k) = arrival.frame.0 (_, (one _).0 (record { delivered = t; same = refl })) in ((other b).1 k).delivered,
          λ t. let (b, k) = arrival.frame.1 (_, (other _).0 (record { delivered = t; same = refl })) in ((one b).1 k).delivered,
        )

    module _ (t : is_delivered (delivery_at (final n l).state frame) ≡ true) where
      came_last : LastDelivery frame (data_at (final n l) frame) (answered n l)
      came_last = (one _).0 (record { delivered = t; same = refl })

      came_last' : LastDelivery frame (data_at (final n' l') frame) (answered n' l')
      came_last' = (other _).0 (record { delivered = rw came_alike at t; same = refl })

      abbrev AgreeAt : List ℕ → Type 0
      AgreeAt places = Agree (data_at (final n l) frame) (data_at (final n' l') frame) places

      bits_alike : AgreeAt (message_places (final n l).layout (laid_at n.layout d))
      bits_alike =
          subst (λ (k : Layout). AgreeAt (message_places k (laid_at n.layout d))) (sym (final_layout n l)) (arrival.bits _ _ came_last came_last')

      status_alike : AgreeAt (its_status_places (final n l).layout (laid_at n.layout d))
      status_alike =
          subst (λ (k : Layout). AgreeAt (its_status_places k (laid_at n.layout d))) (sym (final_layout n l)) (arrival.status _ _ came_last came_last')

  -- the two rounds end in nodes that agree on the message's own bits
  own_end : SameOwn (final n l) (final n' l') m
  unfolding came
  own_end =
      record {
        layout = final_layout n l ∙ same.layout ∙ sym (final_layout n' l');
        values = values_end;
        fields = rw (final_layout n l) (λ d mine. record { frame = came_alike d mine; bits = bits_alike d mine; status = status_alike d mine });
      }

  -- so what a receive of it shows after the closing is the same, until the next closing
  pub own_round : (k k' : List Call) → OneRound k → OneRound k' → (p : ℤ)
      → seen_of (final (next (final n l) close) k) (receive m p) ≡ seen_of (final (next (final n' l') close) k') (receive m p)
  own_round k k' round round' p =
      last_closing (next (final n l) close) k round m p
      ∙ own_bits (final_sound s l) (final_sound s' l') m own_end p
      ∙ sym (last_closing (next (final n' l') close) k' round' m p)

  -- and so are its earlier values in the next round
  pub own_round_values : SameValues (state_at (next (final n l) close).state m) (state_at (next (final n' l') close).state m)
  own_round_values = own_values (final_sound s l) (final_sound s' l') m own_end
