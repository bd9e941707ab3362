-- The theorem on the order of calls says something. On the memory that a load leaves, two calls may change places: both orders have a run, and by the
-- theorem these end in one memory. Two others may not, and show something else if they do. What the callers see is computed on the loaded node.
-- Assumes nothing.
use mathlib.Core.Path.{◌≡◌, refl, ap, sym, subst, subst₂, ◌∙◌}
use mathlib.Core.Bool.{true, false}
use mathlib.Core.List.{List, [], ◌∷◌}
use mathlib.Core.Logic.{⊎_elim}
use Prim.Native.Nat.{ℕ, ◌<◌}
use native.Mathlib.Omega.{arith}
use lib.Dec.{ltb}
use lib.IntN.{ℤ, pos}
use borrow.Author.Tests.{ltb-true}
use Rattle.whole.specs.Whole.{all_of}
use Rattle.packing.specs.Places.{bit_of, with_bit, put_bit, place_of, frame_bit, bit_places, places, in_frame, places_in, packed}
use Rattle.packing.specs.Values.{is_width, least, greatest, in_range, pattern_of}
use Rattle.filter.specs.Filter.{rules, passes}
use Rattle.record.specs.Numbers.{tally, any_below, least_below}
use Rattle.record.specs.Records.{byte_at, word_at, frame_at, message_at, field_at}
use Rattle.layout.specs.Paper.{record_of}
use Rattle.store.specs.Node.{Layout, Node, node_of}
use Rattle.start.specs.Start.{
  table,
  selected,
  laid_frame,
  frame_by_frame,
  start_message,
  start_message_or_none,
  state_or_none,
  start_laid,
  start_frames,
  start_index,
  start_messages,
  start_states,
  start_fields,
  start_layout,
  start_state,
  start_of,
}
use Rattle.message.specs.Messages.{can_hold, passes_now, offered}
use Rattle.message.specs.Fields.{status_places, writes}
use Rattle.own.specs.Own.{chosen, owns, cells_of}
use Rattle.node.specs.Calls.{Outcome, send_answer, send_of, suppressed, assemble_answer, written, assemble_of, assembled}
use Rattle.own.proofs.Lists.{every_more, all_every}
use Rattle.calls.specs.Relations.{send, assemble, deliver, Memory, Loads}
use Rattle.order.specs.Order.{Result, Ran, some_of, carries, results, dependent, Numbered, In, there, Before, OwnNumbers, Reordered}
use Rattle.order.specs.Example.{sent_file, sends0, sends1, assembles0, was_sent, was_assembled, MayChange, MayNotChange}
use Rattle.order.specs.Runs.{BringsBytes, EachBringsBytes}
use Rattle.order.proofs.LoadedNodes.{accepted, loads}
use Rattle.order.proofs.Constructors.{clash}
use Rattle.order.proofs.OrderOfCalls.{order_of_calls}
use Rattle.order.proofs.Stored.{AllBytes, all_bytes}
use Rattle.order.proofs.StoredCalls.{has_run}
use Rattle.order.proofs.StoredLoads.{has_load}
use Rattle.order.proofs.Among.{in_none, in_cases, in_eq, before_in, before_cases}

module _ (a b : Numbered) where
  -- the one pair that stands in order in a list of two
  pair : (x y : Numbered) → Before x y (a ∷ b ∷ []) → (x ≡ a) × (y ≡ b)
  pair x y k =
      ⊎_elim (λ w. (w.0, ⊎_elim (λ e. e) (λ i. absurd (in_none i)) (in_cases w.1)))
      (λ j. ⊎_elim (λ w. absurd (in_none w.1)) (λ i. absurd (in_none (before_in i))) (before_cases j)) (before_cases k)

  two_distinct : (a.number ≡ b.number → ⊥) → OwnNumbers (a ∷ b ∷ [])
  two_distinct h x y k e =
      let p = pair x y k in
      h (sym (ap (λ (t : Numbered). t.number) p.0) ∙ e ∙ ap (λ (t : Numbered). t.number) p.1)

two_all : (a b x : Numbered) → In x (a ∷ b ∷ []) → In x (b ∷ a ∷ [])
two_all a b x i = ⊎_elim (λ e. there (in_eq e)) (λ j. ⊎_elim in_eq (λ k. absurd (in_none k)) (in_cases j)) (in_cases i)

-- two calls that do not depend on each other may change places
swapped : (l : Layout) (a b : Numbered) → (a.number ≡ b.number → ⊥) → dependent l a.call b.call ≡ false
    → Reordered l (a ∷ b ∷ []) (b ∷ a ∷ [])
swapped l a b h u =
    record {
      distinct₁ = two_distinct a b h;
      distinct₂ = two_distinct b a (λ e. h (sym e));
      all₁ = two_all a b;
      all₂ = two_all b a;
      swapped = λ x y k j.
          let p = pair a b x y k in
          subst₂ (λ (c d : Numbered). dependent l c.call d.call ≡ false) (sym p.0) (sym p.1) u;
    }

-- ---- the loaded node

abbrev loaded : Node
loaded = start_of sent_file 2 2 2

-- frame 0 carries message 0 and not message 1
carries_one : (carries loaded.layout 0 0 ≡ true) × (carries loaded.layout 0 1 ≡ false)
unfolding
    sent_file record_of tally least_below any_below byte_at frame_at message_at field_at
    start_layout start_frames start_index start_messages start_fields
    table selected laid_frame frame_by_frame start_message_or_none start_message start_laid
    some_of cells_of chosen owns
carries_one = (refl, refl)

-- what the callers see, by computing
shown : (results loaded (sends1 ∷ assembles0 ∷ []) ≡ was_sent 1 ∷ was_assembled 0 ∷ [])
    × (results loaded (assembles0 ∷ sends1 ∷ []) ≡ was_assembled 0 ∷ was_sent 1 ∷ [])
    × (results loaded (sends0 ∷ assembles0 ∷ []) ≡ was_sent 0 ∷ was_assembled 5 ∷ [])
    × (results loaded (assembles0 ∷ sends0 ∷ []) ≡ was_assembled 0 ∷ was_sent 0 ∷ [])
unfolding
    sent_file record_of tally least_below any_below byte_at word_at frame_at message_at field_at
    start_layout start_state start_frames start_index start_messages start_states start_fields
    table selected laid_frame frame_by_frame start_message_or_none start_message state_or_none start_laid
    cells_of chosen owns
    send_of send_answer can_hold in_range is_width least greatest offered passes_now passes rules
    assemble_of assemble_answer suppressed assembled written writes status_places
    places_in in_frame places bit_places frame_bit place_of packed put_bit with_bit bit_of pattern_of
shown = (refl, refl, refl, refl)

-- ---- on memory

file_bytes : AllBytes sent_file
unfolding sent_file record_of all_of
file_bytes =
    record {
      each = every_more (λ a. ltb a 256 ≡ true) (λ a. a < 256) (λ a. ltb-true a 256) sent_file ((all_every (λ a. ltb a 256) sent_file).0 refl);
    }

-- none of the calls is a delivery
send_brings : (m : ℕ) (v : ℤ) → BringsBytes (send m v)
send_brings m v f c e = absurd (clash cc)

assemble_brings : (g : ℕ) (x : List ℕ) → BringsBytes (assemble g x)
assemble_brings g x f c e = absurd (clash cc)

module _ (a b : Numbered) (h : BringsBytes a.call) (k : BringsBytes b.call) where
  two_bring : EachBringsBytes (a ∷ b ∷ [])
  two_bring t i f c e =
      let call : (u : Numbered) → t ≡ u → u.call ≡ deliver f true c = λ u z. sym (ap (λ (x : Numbered). x.call) z) ∙ e in
      ⊎_elim (λ z. h f c (call a z)) (λ j. ⊎_elim (λ z. k f c (call b z)) (λ l. absurd (in_none l)) (in_cases j)) (in_cases i)

module _ (b : List ℕ) (memory : Memory b) (node : node_of b ≡ loaded) where
  -- two calls, none of which is a delivery, have a run that shows what they show on the loaded node
  runs : (t u : Numbered) (r : List Result) → BringsBytes t.call → BringsBytes u.call → results loaded (t ∷ u ∷ []) ≡ r
      → (e : List ℕ) × Ran b (t ∷ u ∷ []) r e
  runs t u r first second e =
      let (c, run) = has_run b memory (t ∷ u ∷ []) (two_bring t u first second) in
      (c, subst (λ (x : List Result). Ran b (t ∷ u ∷ []) x c) (ap (λ (n : Node). results n (t ∷ u ∷ [])) node ∙ e) run)

  may_change : MayChange b
  may_change =
      let (one, run) = runs sends1 assembles0 _ (send_brings 1 (pos 7)) (assemble_brings 0 (255 ∷ [])) shown.0 in
      let (other, run') = runs assembles0 sends1 _ (assemble_brings 0 (255 ∷ [])) (send_brings 1 (pos 7)) shown.1 in
      let layout = ap (λ (n : Node). n.layout) node in
      let moves = subst (λ (l : Layout). Reordered l (sends1 ∷ assembles0 ∷ []) (assembles0 ∷ sends1 ∷ [])) (sym layout)
      (swapped loaded.layout sends1 assembles0 (λ e. omega arith) carries_one.1) in
      let same = (order_of_calls b memory _ _ moves _ _ one other run run').memory in
      record {
        carried = ap (λ (n : Node). carries n.layout 0 1) node ∙ carries_one.1;
        after = other;
        send_first = subst (λ (e : List ℕ). Ran b (sends1 ∷ assembles0 ∷ []) (was_sent 1 ∷ was_assembled 0 ∷ []) e) same run;
        assemble_first = run';
      }

  may_not_change : MayNotChange b
  may_not_change =
      record {
        carried = ap (λ (n : Node). carries n.layout 0 0) node ∙ carries_one.0;
        send_first = runs sends0 assembles0 _ (send_brings 0 (pos 5)) (assemble_brings 0 (255 ∷ [])) shown.2;
        assemble_first = runs assembles0 sends0 _ (assemble_brings 0 (255 ∷ [])) (send_brings 0 (pos 5)) shown.3;
      }

-- on every memory the file loads, and then both hold
pub order_example : (b : List ℕ) → Memory b → (e : List ℕ) × Memory e × Loads b sent_file 0 e × MayChange e × MayNotChange e
order_example b memory =
    let (e, kept, does) = has_load b sent_file memory (all_bytes sent_file file_bytes) in
    let load = loads sent_file 2 2 2 accepted.7 (node_of b) in
    let node : node_of e ≡ loaded = ap (λ (o : Outcome). o.node) (does ∙ load) in
    let loads : Loads b sent_file 0 e = subst (λ (a : ℕ). Loads b sent_file a e) (ap (λ (o : Outcome). o.answer) load) does in
    (e, kept, loads, may_change e kept node, may_not_change e kept node)
