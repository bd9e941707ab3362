-- The nodes that a memory holds. Memory holds a node if it has a cell for each place, numbers that are bytes where a cell has a byte, and words of 32
-- bits. The node of a memory is such a node, since it is `Shaped` and its bytes are the memory; and such a node is the node of its own bytes, which
-- are a memory. It goes region by region.
-- Assumes nothing.
use mathlib.Core.Path.{◌≡◌, ap, sym, subst, ◌∙◌}
use mathlib.Core.List.{List, [], ◌∷◌, ◌++◌}
use Prim.Native.Nat.{ℕ, zero, suc, ◌*◌, ◌^◌, ◌<◌}
use native.Mathlib.Omega.{arith}
use lib.ListN.{length, get_or, replicate, length-append}
use lib.Seq.{take_at}
use Rattle.whole.specs.Whole.{Bytes}
use Rattle.store.specs.declared.Stage.{Stage}
use Rattle.store.specs.declared.Message.{Message}
use Rattle.store.specs.declared.MessageState.{MessageState}
use Rattle.store.specs.Memory.{cells}
use Rattle.store.specs.Node.{
  Layout,
  Delivery,
  State,
  Node,
  StoredStage,
  Shaped,
  code_of,
  frame_bytes,
  message_bytes,
  laid_bytes,
  listed_bytes,
  delivery_bytes,
  message_state_bytes,
  stage_bytes,
  state_size,
  node_size,
  node_of,
  layout_bytes,
  state_bytes,
  bytes_of,
  no_frame,
  no_message,
  not_laid,
  no_delivery,
  no_state,
  no_stage,
}
use Rattle.store.proofs.Cells.{frame_size, message_size, laid_size, listed_size, delivery_size, state_size_lem, stage_size}
use Rattle.store.proofs.Laws.{node_shaped}
use Rattle.store.proofs.Regions.{length_cells}
use Rattle.store.proofs.RoundTrip.{bytes_node, node_bytes}
use Rattle.own.proofs.Lists.{Every}
use Rattle.calls.specs.Relations.{Memory}

-- ---- bytes

abbrev IsByte : ℕ → Type 0
IsByte a = a < 256

-- every element is a byte, one by one
pub record AllBytes (l : List ℕ) : Type 0 where
  pub each : Every (λ a. a < 256) l

pub bytes_all : (l : List ℕ) → Bytes l → AllBytes l
bytes_all [] y = record { each = tt }
bytes_all (a ∷ l) y = record { each = (y 0, (bytes_all l (λ i. y (suc i))).each) }

pub all_bytes : (l : List ℕ) → AllBytes l → Bytes l
all_bytes [] h i = omega arith
all_bytes (a ∷ l) h zero = h.each.0
all_bytes (a ∷ l) h (suc i) = all_bytes l (record { each = h.each.1 }) i

module _ {A : Type 0} (P : A → Type 0) where
  pub every_join : (a b : List A) → Every P a → Every P b → Every P (a ++ b)
  every_join [] b h k = k
  every_join (x ∷ a) b h k = (h.0, every_join a b h.1 k)

  every_split : (a b : List A) → Every P (a ++ b) → Every P a × Every P b
  every_split [] b h = (tt, h)
  every_split (x ∷ a) b h = let (first, rest) = every_split a b h.1 in ((h.0, first), rest)

pub bytes_join : {a b : List ℕ} → AllBytes a → AllBytes b → AllBytes (a ++ b)
bytes_join {a} {b} h k = record { each = every_join IsByte a b h.each k.each }

bytes_split : (a b : List ℕ) → AllBytes (a ++ b) → AllBytes a × AllBytes b
bytes_split a b h = let (first, rest) = every_split IsByte a b h.each in (record { each = first }, record { each = rest })

-- ---- regions

-- a region of so many cells, each of which fits
pub record Region {A : Type 0} (P : A → Type 0) (size : ℕ) (l : List A) : Type 0 where
  pub all : length l ≡ size
  pub each : Every P l

every_at : {A : Type 0} (P : A → Type 0) (none : A) (l : List A) → Every P l → (j : ℕ) → j < length l → P (get_or l j none)
every_at P none [] h j i = absurd (omega arith)
every_at P none (x ∷ l) h zero i = h.0
every_at P none (x ∷ l) h (suc j) i = every_at P none l h.1 j (omega arith)

cell_at_lem : {A : Type 0} {P : A → Type 0} {size : ℕ} {l : List A} (none : A) → Region P size l → (j : ℕ) → j < size → P (get_or l j none)
cell_at_lem {P = P} {l = l} none r j h = every_at P none l r.each j (rw r.all h)

module _ {A : Type 0} (encode : A → List ℕ) where
  every_bytes : (P : A → Type 0) → ((x : A) → P x → AllBytes (encode x)) → (l : List A) → Every P l → AllBytes (cells encode l)
  unfolding cells
  every_bytes P fits [] h = record { each = tt }
  every_bytes P fits (x ∷ l) h = bytes_join (fits x h.0) (every_bytes P fits l h.1)

  cells_bytes : {P : A → Type 0} {size : ℕ} {l : List A} → ((x : A) → P x → AllBytes (encode x)) → Region P size l → AllBytes (cells encode l)
  cells_bytes {P = P} {l = l} fits r = every_bytes P fits l r.each

  -- cells whose bytes are bytes, and of each of which Q holds
  cells_each : (P Q : A → Type 0) → ((x : A) → AllBytes (encode x) → Q x → P x) → (none : A) (l : List A) → AllBytes (cells encode l)
      → ((j : ℕ) → j < length l → Q (get_or l j none)) → Every P l
  unfolding cells
  cells_each P Q fits none [] y q = tt
  cells_each P Q fits none (x ∷ l) y q =
      let (first, rest) = bytes_split (encode x) (cells encode l) y in
      (fits x first (q 0 (omega arith)), cells_each P Q fits none l rest (λ j i. q (suc j) (omega arith)))

  region_of : {P Q : A → Type 0} {size : ℕ} {l : List A} → ((x : A) → AllBytes (encode x) → Q x → P x) → (none : A) → length l ≡ size
      → AllBytes (cells encode l) → ((j : ℕ) → j < size → Q (get_or l j none)) → Region P size l
  region_of {P} {Q} {l = l} fits none all y q = record { all = all; each = cells_each P Q fits none l y (λ j i. q j (rw all at i)) }

  plain_region : {size : ℕ} {l : List A} (none : A) → length l ≡ size → AllBytes (cells encode l) → Region (λ x. AllBytes (encode x)) size l
  plain_region none all y = region_of {Q = λ x. Unit {0}} (λ x h q. h) none all y (λ j i. tt)

  cells_size : {P : A → Type 0} {size : ℕ} {l : List A} (s : ℕ) → ((x : A) → length (encode x) ≡ s) → Region P size l
      → length (cells encode l) ≡ size * s
  cells_size {l = l} s sized r = length_cells encode s sized l ∙ ap (λ (k : ℕ). k * s) r.all

-- ---- cells

pub record FitsMessage (g : Message) : Type 0 where
  pub bytes : AllBytes (message_bytes g)
  pub x1 : g.x1 < 2 ^ 32
  pub x2 : g.x2 < 2 ^ 32

pub record FitsDelivery (y : Delivery) : Type 0 where
  pub delivered : y.delivered < 256
  pub bytes : AllBytes y.bytes
  pub room : length y.bytes ≡ 32

pub record FitsState (s : MessageState) : Type 0 where
  pub valid : s.valid < 256
  pub status : s.status < 256
  pub held : s.held < 2 ^ 32

pub record FitsStage (t : Stage) : Type 0 where
  pub code : code_of t < 256
  pub stored : StoredStage t

message_back : (g : Message) → AllBytes (message_bytes g) → (g.x1 < 2 ^ 32) × (g.x2 < 2 ^ 32) → FitsMessage g
message_back g b words = record { bytes = b; x1 = words.0; x2 = words.1 }

delivery_there : (y : Delivery) → FitsDelivery y → AllBytes (delivery_bytes y)
unfolding delivery_bytes
delivery_there y h = record { each = (h.delivered, rw (take_at y.bytes (replicate 32 0) 32 h.room) h.bytes.each) }

delivery_back : (y : Delivery) → AllBytes (delivery_bytes y) → length y.bytes ≡ 32 → FitsDelivery y
unfolding delivery_bytes
delivery_back y b room =
    record { delivered = b.each.0; bytes = record { each = rw (take_at y.bytes (replicate 32 0) 32 room) at b.each.1 }; room = room }

state_there : (s : MessageState) → FitsState s → AllBytes (message_state_bytes s)
unfolding message_state_bytes
state_there s h = record { each = omega arith }

state_back : (s : MessageState) → AllBytes (message_state_bytes s) → s.held < 2 ^ 32 → FitsState s
unfolding message_state_bytes
state_back s b word = record { valid = b.each.0; status = b.each.1.0; held = word }

stage_there : (t : Stage) → FitsStage t → AllBytes (stage_bytes t)
unfolding stage_bytes
stage_there t h = record { each = (h.code, tt) }

stage_back : (t : Stage) → AllBytes (stage_bytes t) → StoredStage t → FitsStage t
unfolding stage_bytes
stage_back t b stored = record { code = b.each.0; stored = stored }

-- ---- nodes

pub record StoredLayout (l : Layout) : Type 0 where
  pub frame_number : l.frame_number < 256
  pub message_number : l.message_number < 256
  pub field_number : l.field_number < 256
  pub frames : Region (λ h. AllBytes (frame_bytes h)) 32 l.frames
  pub messages : Region FitsMessage 32 l.messages
  pub fields : Region (λ x. AllBytes (laid_bytes x)) 128 l.fields
  pub index : Region (λ d. AllBytes (listed_bytes d)) 128 l.index

pub record StoredState (s : State) : Type 0 where
  pub deliveries : Region FitsDelivery 32 s.deliveries
  pub messages : Region FitsState 32 s.messages
  pub stages : Region FitsStage 128 s.stages

-- memory can hold the node
pub record Stored (n : Node) : Type 0 where
  pub layout : StoredLayout n.layout
  pub state : StoredState n.state

-- the node of a memory
pub memory_stored : (b : List ℕ) → Memory b → Stored (node_of b)
unfolding layout_bytes state_bytes
memory_stored b memory =
    let shaped = node_shaped b memory.bytes memory.size in
    let n = node_of b in
    let all : AllBytes (bytes_of n) = subst AllBytes (sym (bytes_node b memory.size memory.bytes)) (bytes_all b memory.bytes) in
    let (layout, state) = bytes_split (layout_bytes n.layout) (state_bytes n.state) all in
    let (frames, behind) = bytes_split (cells frame_bytes n.layout.frames) _ (record { each = layout.each.1.1.1 }) in
    let (messages, behind') = bytes_split (cells message_bytes n.layout.messages) _ behind in
    let (fields, index) = bytes_split (cells laid_bytes n.layout.fields) _ behind' in
    let (deliveries, behind'') = bytes_split (cells delivery_bytes n.state.deliveries) _ state in
    let (states, stages) = bytes_split (cells message_state_bytes n.state.messages) _ behind'' in
    record {
      layout =
          record {
            frame_number = layout.each.0;
            message_number = layout.each.1.0;
            field_number = layout.each.1.1.0;
            frames = plain_region frame_bytes no_frame shaped.frames frames;
            messages = region_of message_bytes message_back no_message shaped.messages messages shaped.words;
            fields = plain_region laid_bytes not_laid shaped.fields fields;
            index = plain_region listed_bytes 0 shaped.index index;
          };
      state =
          record {
            deliveries = region_of delivery_bytes delivery_back no_delivery shaped.deliveries deliveries shaped.bytes;
            messages = region_of message_state_bytes state_back no_state shaped.states states shaped.held;
            stages = region_of stage_bytes stage_back no_stage shaped.stages stages shaped.codes;
          };
    }

module _ {n : Node} (s : Stored n) where
  stored_shaped : Shaped n
  stored_shaped =
      record {
        frames = s.layout.frames.all;
        messages = s.layout.messages.all;
        fields = s.layout.fields.all;
        index = s.layout.index.all;
        words = λ m h. let g = cell_at_lem no_message s.layout.messages m h in (g.x1, g.x2);
        deliveries = s.state.deliveries.all;
        bytes = λ f h. (cell_at_lem no_delivery s.state.deliveries f h).room;
        states = s.state.messages.all;
        held = λ m h. (cell_at_lem no_state s.state.messages m h).held;
        stages = s.state.stages.all;
        codes = λ d h. (cell_at_lem no_stage s.state.stages d h).stored;
      }

  stored_bytes : AllBytes (bytes_of n)
  unfolding layout_bytes state_bytes
  stored_bytes =
      let frames = cells_bytes frame_bytes (λ h y. y) s.layout.frames in
      let messages = cells_bytes message_bytes (λ g y. y.bytes) s.layout.messages in
      let fields = cells_bytes laid_bytes (λ x y. y) s.layout.fields in
      let index = cells_bytes listed_bytes (λ d y. y) s.layout.index in
      let deliveries = cells_bytes delivery_bytes delivery_there s.state.deliveries in
      let states = cells_bytes message_state_bytes state_there s.state.messages in
      let stages = cells_bytes stage_bytes stage_there s.state.stages in
      let numbers : AllBytes (n.layout.frame_number ∷ n.layout.message_number ∷ n.layout.field_number ∷ []) =
      record { each = (s.layout.frame_number, (s.layout.message_number, (s.layout.field_number, tt))) } in
      bytes_join (bytes_join numbers (bytes_join frames (bytes_join messages (bytes_join fields index)))) (bytes_join deliveries (bytes_join states stages))

  stored_size : length (bytes_of n) ≡ node_size
  unfolding layout_bytes state_bytes
  stored_size =
      let frames = cells_size frame_bytes 6 frame_size s.layout.frames in
      let messages = cells_size message_bytes 16 message_size s.layout.messages in
      let fields = cells_size laid_bytes 5 laid_size s.layout.fields in
      let index = cells_size listed_bytes 1 listed_size s.layout.index in
      let deliveries = cells_size delivery_bytes 33 delivery_size s.state.deliveries in
      let states = cells_size message_state_bytes state_size state_size_lem s.state.messages in
      let stages = cells_size stage_bytes 1 stage_size s.state.stages in
      simp length-append (omega arith)

  -- is a memory, and that of this node
  pub stored_memory : Memory (bytes_of n)
  stored_memory = record { size = stored_size; bytes = all_bytes _ stored_bytes }

  pub stored_node : node_of (bytes_of n) ≡ n
  stored_node = node_bytes n stored_shaped
