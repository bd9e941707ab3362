-- Every list of calls on every memory has a run. What a call leaves of a node that memory holds, memory can hold, if what it brings are bytes: a value
-- is held as a pattern of 32 bits, a status and a stage are small, and a delivery puts bytes over bytes. So after each call there is a memory that
-- holds the node, and that is the call's outcome.
-- Assumes nothing.
use mathlib.Core.Path.{◌≡◌, refl, ap, subst, ◌∙◌}
use mathlib.Core.Bool.{Bool, true, false}
use mathlib.Core.List.{List, [], ◌∷◌}
use Prim.Native.Nat.{ℕ, zero, suc, ◌+◌, ◌<◌, ◌≤◌}
use native.Mathlib.Omega.{arith}
use lib.Dec.{eqb}
use lib.IntN.{ℤ}
use lib.ListN.{length, take, drop, replicate, length-take}
use lib.Seq.{length-paste}
use Rattle.std.specs.Prelude.{Option, Some, None}
use Rattle.whole.specs.Whole.{Bytes}
use Rattle.packing.specs.Values.{pattern_of}
use Rattle.packing.proofs.Values.{pattern_below}
use Rattle.store.specs.declared.Stage.{Stage}
use Rattle.store.specs.declared.Stage.TheVariants.{Waiting, Loaded, Gone}
use Rattle.store.specs.declared.Message.{Message}
use Rattle.store.specs.declared.MessageState.{MessageState}
use Rattle.store.specs.Node.{Layout, Delivery, Node, no_delivery, with_status, with_valid, with_held, node_of, bytes_of}
use Rattle.store.proofs.Parts.{bytes_drop, bytes_take}
use Rattle.store.proofs.RoundTrip.{bytes_node}
use Rattle.message.specs.declared.Change.{Change}
use Rattle.message.specs.Messages.{passes_now, offered, filtered, agreed_by, agreed_on, settled}
use Rattle.message.specs.Fields.{stage_after}
use Rattle.own.specs.Own.{changed}
use Rattle.node.specs.Calls.{Outcome, left, kept}
use Rattle.closing.specs.Closing.{instances, none_came, closed_state, close_messages, forget, close_of}
use Rattle.own.proofs.Lists.{by_test, changed_length, Every}
use Rattle.calls.specs.Relations.{Call, send, invalidate, assemble, consumed, read_flag, deliver, close, receive}
use Rattle.calls.specs.Relations.{answer_of, seen_of, next, Memory, Does}
use Rattle.order.specs.Order.{Numbered, here, there, results, Ran, done, step}
use Rattle.order.specs.Runs.{BringsBytes, EachBringsBytes}
use Rattle.order.proofs.Constructors.{closing}
use Rattle.order.proofs.Footprints.{Effect, effect, after, next_after}
use Rattle.order.proofs.Stored.{bytes_all, all_bytes, bytes_join, Region, FitsDelivery, FitsState, FitsStage}
use Rattle.order.proofs.Stored.{StoredState, Stored, memory_stored, stored_memory, stored_node}

-- ---- regions

module _ {A : Type 0} (P : A → Type 0) where
  pub every_alike : {a : A} → P a → (n : ℕ) → Every P (replicate n a)
  every_alike h zero = tt
  every_alike h (suc n) = (h, every_alike h n)

  every_changed : (p : ℕ → Bool) (g : ℕ → A → A) → ((i : ℕ) (x : A) → P x → P (g i x)) → (i : ℕ) (l : List A) → Every P l → Every P (changed p g i l)
  unfolding changed
  every_changed p g keeps i [] h = tt
  every_changed p g keeps i (x ∷ l) h = (by_test P (p i) (λ t. keeps i x h.0) (λ t. h.0), every_changed p g keeps (suc i) l h.1)

  region_changed : {size : ℕ} {l : List A} (p : ℕ → Bool) (g : ℕ → A → A) → ((i : ℕ) (x : A) → P x → P (g i x)) → Region P size l
      → Region P size (changed p g 0 l)
  region_changed {l = l} p g keeps r = record { all = changed_length p g 0 l ∙ r.all; each = every_changed p g keeps 0 l r.each }

-- ---- the state of a message

valid_fits : (k : ℕ) {s : MessageState} → k < 256 → FitsState s → FitsState (with_valid k s)
valid_fits k h s = record { valid = h; status = s.status; held = s.held }

status_fits : (k : ℕ) {s : MessageState} → k < 256 → FitsState s → FitsState (with_status k s)
status_fits k h s = record { valid = s.valid; status = h; held = s.held }

module _ (g : Message) {s : MessageState} (h : FitsState s) where
  holding_fits : (v : ℤ) → FitsState (with_held (pattern_of 32 v) s)
  holding_fits v = record { valid = h.valid; status = h.status; held = pattern_below 32 v }

  offered_fits : (v : ℤ) → FitsState (offered g s v)
  unfolding offered
  offered_fits v =
      by_test FitsState (passes_now g s v) (λ t. valid_fits 1 (omega arith) (holding_fits v)) (λ t. valid_fits 0 (omega arith) h)

  agreed_fits : (a : Option ℤ) → FitsState (agreed_on g s a)
  unfolding filtered
  agreed_fits None = status_fits 20 (omega arith) h
  agreed_fits (Some v) =
      by_test FitsState (passes_now g s v) (λ t. status_fits 0 (omega arith) (holding_fits v)) (λ t. status_fits 21 (omega arith) h)

  settled_fits : (none : Bool) (l : List ℤ) → FitsState (settled g s none l)
  settled_fits none [] = status_fits _ (by_test (λ k. k < 256) none (λ t. omega arith) (λ t. omega arith)) h
  settled_fits none (v ∷ l) = agreed_fits (agreed_by g (v ∷ l))

-- ---- a delivery, and a stage

pub none_fits : FitsDelivery no_delivery
none_fits = record { delivered = omega arith; bytes = record { each = every_alike (λ a. a < 256) (omega arith) 32 }; room = refl }

kept_fits : (y : Delivery) (b : List ℕ) → Bytes b → FitsDelivery y → FitsDelivery (kept y b)
unfolding kept
kept_fits y b h s =
    let k : ℕ = length (take 32 b) in
    let few : 0 + length (take 32 b) ≤ length y.bytes = omega (arith, length-take 32 b, s.room) in
    record {
      delivered = omega arith;
      bytes =
          bytes_join (bytes_all (take k (take 32 b)) (bytes_take (take 32 b) k (bytes_take b 32 h)))
          (bytes_all (drop (0 + k) y.bytes) (bytes_drop y.bytes (0 + k) (all_bytes y.bytes s.bytes)));
      room = length-paste y.bytes 0 (take 32 b) (length (take 32 b)) few (omega arith) ∙ s.room;
    }

stage_fits : (c : Change) (t : Stage) → FitsStage t → FitsStage (stage_after c t)
stage_fits Change.Send Waiting h = h
stage_fits Change.Send Loaded h = record { code = omega arith; stored = refl }
stage_fits Change.Send (Gone k) h = record { code = omega arith; stored = refl }
stage_fits Change.Load Waiting h = record { code = omega arith; stored = refl }
stage_fits Change.Load Loaded h = h
stage_fits Change.Load (Gone k) h = h
stage_fits Change.Consume Waiting h = h
stage_fits Change.Consume Loaded h = record { code = omega arith; stored = refl }
stage_fits Change.Consume (Gone k) h = h

-- ---- a call

record Keeps (e : Effect) : Type 0 where
  deliveries : (y : Delivery) → FitsDelivery y → FitsDelivery (e.deliveries y)
  messages : (s : MessageState) → FitsState s → FitsState (e.messages s)
  stages : (t : Stage) → FitsStage t → FitsStage (e.stages t)

effect_keeps : (l : Layout) (c : Call) → BringsBytes c → Keeps (effect l c)
effect_keeps l (send m v) brings =
    record { deliveries = λ y h. h; messages = λ s h. offered_fits _ h v; stages = stage_fits Change.Send }
effect_keeps l (invalidate m) brings = record { deliveries = λ y h. h; messages = λ s h. valid_fits 0 (omega arith) h; stages = λ t h. h }
effect_keeps l (assemble f b) brings = record { deliveries = λ y h. h; messages = λ s h. h; stages = stage_fits Change.Load }
effect_keeps l (consumed f) brings = record { deliveries = λ y h. h; messages = λ s h. h; stages = stage_fits Change.Consume }
effect_keeps l (read_flag m p) brings = record { deliveries = λ y h. h; messages = λ s h. h; stages = λ t h. h }
effect_keeps l (deliver f true b) brings =
    record { deliveries = λ y h. kept_fits y b (brings f b refl) h; messages = λ s h. h; stages = λ t h. h }
effect_keeps l (deliver f false b) brings = record { deliveries = λ y h. h; messages = λ s h. h; stages = λ t h. h }
effect_keeps l close brings = record { deliveries = λ y h. h; messages = λ s h. h; stages = λ t h. h }
effect_keeps l (receive m p) brings = record { deliveries = λ y h. h; messages = λ s h. h; stages = λ t h. h }

module _ {n : Node} (s : Stored n) where
  after_stored : (c : Call) → BringsBytes c → (t : Bool) → StoredState (after n.layout c t n.state)
  after_stored c brings true =
      let keeps = effect_keeps n.layout c brings in
      record {
        deliveries = region_changed FitsDelivery _ _ (λ i. keeps.deliveries) s.state.deliveries;
        messages = region_changed FitsState _ _ (λ i. keeps.messages) s.state.messages;
        stages = region_changed FitsStage _ _ (λ i. keeps.stages) s.state.stages;
      }
  after_stored c brings false = s.state

  close_stored : StoredState (close_of n)
  unfolding close_of forget close_messages closed_state
  close_stored =
      record {
        deliveries = region_changed FitsDelivery _ _ (λ f y h. none_fits) s.state.deliveries;
        messages = region_changed FitsState _ _ (λ m t h. settled_fits _ h (none_came n m) (instances n m)) s.state.messages;
        stages = s.state.stages;
      }

call_stored : {n : Node} → Stored n → (c : Call) → BringsBytes c → Stored (next n c)
call_stored {n} s c brings = go (closing c)
  where
    go : Dec (close ≡ c) → Stored (next n c)
    go (yes e) = subst (λ (d : Call). Stored (next n d)) e (record { layout = s.layout; state = close_stored s })
    go (no other) = rw (next_after n c other) (record { layout = s.layout; state = after_stored s c brings (eqb (answer_of n c) 0) })

-- ---- a run

module _ (b : List ℕ) (memory : Memory b) where
  abbrev n : Node
  n = node_of b

  -- the bytes of what an outcome leaves
  leaves : (o : Outcome) → Stored o.node → left o.answer (bytes_of o.node) ≡ o
  leaves o s = ap (λ (k : Node). record { answer = o.answer; node = k }) (stored_node s)

  same : bytes_of n ≡ b
  same = bytes_node b memory.size memory.bytes

  does : (c : Call) → Stored (next n c) → Does b c (seen_of n c) (bytes_of (next n c))
  does (send m v) s = (leaves _ s, refl)
  does (invalidate m) s = (leaves _ s, refl)
  does (assemble f d) s = (leaves _ s, refl)
  does (consumed f) s = (leaves _ s, refl)
  does (read_flag m p) s = (same, (refl, refl))
  does (deliver f valid d) s = (leaves _ s, refl)
  does close s = (leaves (record { answer = 0; node = next n close }) s, refl)
  does (receive m p) s = (same, (refl, refl))

pub has_run : (b : List ℕ) → Memory b → (l : List Numbered) → EachBringsBytes l → (e : List ℕ) × Ran b l (results (node_of b) l) e
has_run b memory [] brings = (b, done)
has_run b memory (t ∷ l) brings =
    let s = call_stored (memory_stored b memory) t.call (brings t here) in
    let (e, rest) = has_run (bytes_of (next (node_of b) t.call)) (stored_memory s) l (λ u i. brings u (there i)) in
    let later = subst (λ (k : Node). Ran (bytes_of (next (node_of b) t.call)) l (results k l) e) (stored_node s) rest in
    (e, step (does b memory t.call s) (stored_memory s) later)
