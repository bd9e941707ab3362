-- Each round by itself. A sound node's delivery has data up to its frame's length if it came in this round, and nothing else; what a message or a field
-- has for the other direction is as at start, and past the layout's numbers there is nothing. So two sound nodes of one layout with the same messages,
-- stages and deliveries of this round have the same cells. A closing leaves no delivery, and then the messages and stages are enough.
-- Assumes nothing.
use mathlib.Core.Path.{◌≡◌, refl, sym, ◌∙◌}
use mathlib.Core.Bool.{Bool, true, false, not, true≢false, false≢true}
use mathlib.Core.List.{List}
use Prim.Native.Nat.{ℕ, zero, suc, ◌<◌, ◌≤◌}
use native.Mathlib.Decide.{dec_lt}
use native.Mathlib.Omega.{arith}
use lib.Dec.{eqb}
use lib.ListN.{length, get_or, take}
use lib.Seq.{get_or-take, ext_get_or}
use Rattle.store.specs.declared.Frame.{Frame}
use Rattle.store.specs.declared.Message.{Message}
use Rattle.store.specs.declared.MessageState.{MessageState}
use Rattle.store.specs.Node.{Layout, Delivery, State, Node, is_sent, has_status_bit, is_sent_frame, is_delivered, is_valid}
use Rattle.store.specs.Node.{no_frame, no_message, not_laid, no_delivery, no_state, no_stage}
use Rattle.store.specs.Node.{frame_at, message_at, laid_at, delivery_at, stage_at, node_with}
use Rattle.own.specs.SoundLayout.{SoundLayout}
use Rattle.node.specs.Sound.{SoundDelivery, SoundMessageState, Sound}
use Rattle.node.proofs.Closed.{delivery_closed}
use Rattle.calls.specs.Relations.{close, next}
use Rattle.order.specs.Own.{SameLayout, SameMessageState, SameMessages, SameDelivery, SameRound}
use Rattle.order.proofs.Kept.{kept_sound}
use Rattle.order.proofs.OwnBits.{one_layout}

-- two lists of cells that are the same up to a number, and past it have none
same_cells : {A : Type 0} (none : A) (k size : ℕ) (l l' : List A) → length l ≡ size → length l' ≡ size
    → ((j : ℕ) → j < k → get_or l j none ≡ get_or l' j none) → ((j : ℕ) → k ≤ j → get_or l j none ≡ none) → ((j : ℕ) → k ≤ j → get_or l' j none ≡ none)
    → l ≡ l'
same_cells none k size l l' all all' each rest rest' = ext_get_or none l l' (all ∙ sym all') (λ j h. go j (dec_lt j k))
  where
    go : (j : ℕ) → Dec (j < k) → get_or l j none ≡ get_or l' j none
    go j (yes below) = each j below
    go j (no past) = rest j (omega arith) ∙ sym (rest' j (omega arith))

-- a byte that is 0 or 1 is told by whether it is 0
one_byte : (k k' : ℕ) → k ≤ 1 → k' ≤ 1 → not (eqb k 0) ≡ not (eqb k' 0) → k ≡ k'
one_byte zero zero h h' e = refl
one_byte zero (suc zero) h h' e = absurd (false≢true e)
one_byte zero (suc (suc k)) h h' e = absurd (omega arith)
one_byte (suc zero) zero h h' e = absurd (true≢false e)
one_byte (suc zero) (suc k) h h' e = omega arith
one_byte (suc (suc k)) k' h h' e = absurd (omega arith)

same_delivery : (h : Frame) (y y' : Delivery) → SoundDelivery h y → SoundDelivery h y' → is_delivered y ≡ is_delivered y'
    → (is_delivered y ≡ true → take h.length y.bytes ≡ take h.length y'.bytes) → y ≡ y'
same_delivery h y y' s s' both same = go (is_delivered y) refl
  where
    go : (b : Bool) → is_delivered y ≡ b → y ≡ y'
    go false none = s.not_delivered none ∙ sym (s'.not_delivered (sym both ∙ none))
    go true came =
        let mark = one_byte y.delivered y'.delivered s.delivered s'.delivered both in
        let bytes =
        same_cells 0 h.length 32 y.bytes y'.bytes s.room s'.room
        (λ i l. sym (get_or-take h.length y.bytes i 0 l) ∙ rw (same came) (get_or-take h.length y'.bytes i 0 l)) s.past_length
        s'.past_length in
        rw (mark, bytes)

same_message : (g : Message) (a a' : MessageState) → SoundMessageState g a → SoundMessageState g a' → SameMessageState g a a' → a ≡ a'
same_message g a a' s s' same =
    rw (
      one_byte a.valid a'.valid s.valid s'.valid (valid (is_sent g) (has_status_bit g) refl refl),
      status (is_sent g) refl,
      same.values,
    )
  where
    valid : (sent bit : Bool) → is_sent g ≡ sent → has_status_bit g ≡ bit → is_valid a ≡ is_valid a'
    valid sent false t u = s.always_valid u ∙ sym (s'.always_valid u)
    valid false true t u = s.received_valid t u ∙ sym (s'.received_valid t u)
    valid true true t u = same.valid t u

    status : (sent : Bool) → is_sent g ≡ sent → a.status ≡ a'.status
    status true t = s.sent_status t ∙ sym (s'.sent_status t)
    status false t = same.status t

-- two states of one layout
module _ {n : Node} {k : State} (s : Sound n) (s' : Sound (node_with n k)) (same : SameRound n (node_with n k)) where
  abbrev l : Layout
  l = n.layout

  each_delivery : (f : ℕ) → f < l.frame_number → delivery_at n.state f ≡ delivery_at k f
  each_delivery f h = go (is_sent_frame (frame_at l f)) refl
    where
      go : (b : Bool) → is_sent_frame (frame_at l f) ≡ b → delivery_at n.state f ≡ delivery_at k f
      go true sent =
          let y = s.state.deliveries f h in
          let y' = s'.state.deliveries f h in
          y.not_delivered (y.sent sent) ∙ sym (y'.not_delivered (y'.sent sent))
      go false received =
          let one = same.deliveries f h received in
          same_delivery (frame_at l f) _ _ (s.state.deliveries f h) (s'.state.deliveries f h) one.frame one.bytes

  each_stage : (d : ℕ) → d < l.field_number → stage_at n.state d ≡ stage_at k d
  each_stage d h = go (is_sent (message_at l (laid_at l d).message)) refl
    where
      go : (b : Bool) → is_sent (message_at l (laid_at l d).message) ≡ b → stage_at n.state d ≡ stage_at k d
      go true sent = same.messages.stages d h sent
      go false received = (s.state.stages d h).always_gone received ∙ sym ((s'.state.stages d h).always_gone received)

  same_state : n.state ≡ k
  same_state =
      let deliveries =
      same_cells no_delivery l.frame_number 32 n.state.deliveries k.deliveries s.state.delivery_cells s'.state.delivery_cells
      each_delivery s.state.no_deliveries s'.state.no_deliveries in
      let states =
      same_cells no_state l.message_number 32 n.state.messages k.messages s.state.message_cells s'.state.message_cells
      (λ m h. same_message _ _ _ (s.state.messages m h) (s'.state.messages m h) (same.messages.states m h)) s.state.no_states
      s'.state.no_states in
      let stages =
      same_cells no_stage l.field_number 128 n.state.stages k.stages s.state.stage_cells s'.state.stage_cells each_stage
      s.state.no_stages s'.state.no_stages in
      rw (deliveries, states, stages)

pub same_node : {n n' : Node} → Sound n → Sound n' → n.layout ≡ n'.layout → SameRound n n' → n ≡ n'
same_node {n} {n'} s s' layout =
    one_layout (λ (k : Node). Sound k → SameRound n k → n ≡ k) n n' layout (λ t same. rw (same_state s t same)) s'

-- two layouts that say the same
pub same_layout : {l l' : Layout} → SoundLayout l → SoundLayout l' → SameLayout l l' → l ≡ l'
same_layout {l} {l'} s s' same =
    let frames =
    same_cells no_frame l.frame_number 32 l.frames l'.frames s.frame_cells s'.frame_cells same.frames s.no_frames
    (λ f past. s'.no_frames f (rw (← same.frame_number) past)) in
    let messages =
    same_cells no_message l.message_number 32 l.messages l'.messages s.message_cells s'.message_cells same.messages s.no_messages
    (λ m past. s'.no_messages m (rw (← same.message_number) past)) in
    let fields =
    same_cells not_laid l.field_number 128 l.fields l'.fields s.field_cells s'.field_cells same.fields s.no_fields
    (λ d past. s'.no_fields d (rw (← same.field_number) past)) in
    let index =
    same_cells 0 l.field_number 128 l.index l'.index s.index_cells s'.index_cells same.index s.none_listed
    (λ i past. s'.none_listed i (rw (← same.field_number) past)) in
    rw (same.frame_number, same.message_number, same.field_number, frames, messages, fields, index)

pub each_round : {n n' : Node} → Sound n → Sound n' → SameLayout n.layout n'.layout → SameRound n n' → n ≡ n'
each_round s s' layout = same_node s s' (same_layout s.layout s'.layout layout)

-- whatever was delivered to each before it
pub closed_round : {n n' : Node} → Sound n → Sound n' → n.layout ≡ n'.layout → SameMessages (next n close) (next n' close) → next n close ≡ next n' close
closed_round {n} {n'} s s' layout messages =
    same_node (kept_sound s close) (kept_sound s' close) layout (record { messages = messages; deliveries = none })
  where
    none : (f : ℕ) → f < n.layout.frame_number → is_sent_frame (frame_at n.layout f) ≡ false → SameDelivery (next n close) (next n' close) f
    none f l received =
        let gone = delivery_closed s f l in
        let gone' = delivery_closed s' f (rw (← layout) l) in
        record { frame = rw (gone, gone') refl; bytes = λ came. absurd (false≢true (rw gone at came)) }
