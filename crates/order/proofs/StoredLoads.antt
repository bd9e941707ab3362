-- Every load of a file on every memory has an outcome. The node of an accepted file is one that memory can hold: what it takes from a record is a byte
-- or a word, and what it counts are fields, of which there are at most 128. A refused file leaves the memory.
-- Assumes nothing.
use mathlib.Core.Path.{◌≡◌, refl, ap, sym}
use mathlib.Core.Bool.{Bool, cond}
use mathlib.Core.List.{List, [], ◌∷◌, ◌++◌}
use Prim.Native.Nat.{ℕ, zero, suc, ◌+◌, ◌^◌, ◌<◌, ◌≤◌}
use native.Mathlib.Decide.{ℕ_discrete}
use native.Mathlib.Omega.{arith}
use lib.Dec.{eqb, ltb, leb}
use lib.ListN.{take, replicate}
use Rattle.whole.specs.Whole.{Bytes}
use Rattle.record.specs.Numbers.{any_below, least_below}
use Rattle.record.specs.Records.{byte_at, word_at, frame_at, message_at, field_at}
use Rattle.record.specs.declared.Field.{Field as FieldRecord}
use Rattle.layout.proofs.Tallies.{tally_within}
use Rattle.store.specs.declared.Frame.{Frame}
use Rattle.store.specs.Node.{Node, frame_bytes, message_bytes, laid_bytes, listed_bytes, node_of}
use Rattle.start.specs.Start.{
  table,
  selected,
  lies_in,
  lies_before,
  laid_frame,
  start_frame,
  frame_by_frame,
  is_instance,
  first_field,
  start_message,
  start_message_or_none,
  state_or_none,
  start_laid,
  start_frames,
  start_index,
  start_messages,
  start_states,
  start_fields,
  start_layout,
  start_state,
  start_of,
}
use Rattle.node.specs.Load.{load_of}
use Rattle.node.specs.Sound.{Sound}
use Rattle.node.proofs.Starts.{load_makes, sound_load}
use Rattle.own.proofs.Lists.{by_test, Every, every_more}
use Rattle.calls.specs.Relations.{Memory, Loads}
use Rattle.order.proofs.Refusals.{load_refused}
use Rattle.order.proofs.Stored.{AllBytes, every_join, FitsMessage, FitsDelivery, FitsState, FitsStage, Stored, stored_memory, stored_node}
use Rattle.order.proofs.StoredCalls.{every_alike, none_fits}

-- ---- lists

module _ {A : Type 0} (P : A → Type 0) where
  every_table : (f : ℕ → A) → ((j : ℕ) → P (f j)) → (i k : ℕ) → Every P (table f i k)
  unfolding table
  every_table f h i zero = tt
  every_table f h i (suc k) = (h i, every_table f h (suc i) k)

  every_take : (k : ℕ) (l : List A) → Every P l → Every P (take k l)
  every_take zero l h = tt
  every_take (suc k) [] h = tt
  every_take (suc k) (x ∷ l) h = (h.0, every_take k l h.1)

-- the numbers below n are bytes, if n is at most 256
every_selected : (p : ℕ → Bool) (n : ℕ) → n ≤ 256 → Every (λ d. d < 256) (selected p n)
unfolding selected
every_selected p zero h = tt
every_selected p (suc n) h =
    every_join _ (selected p n) (cond (p n) (n ∷ []) []) (every_selected p n (omega arith))
    (by_test (Every (λ d. d < 256)) (p n) (λ t. (omega arith, tt)) (λ t. tt))

least_within : (p : ℕ → Bool) (n : ℕ) → least_below p n ≤ n
unfolding least_below
least_within p zero = omega arith
least_within p (suc n) =
    let earlier = least_within p n in
    by_test (λ k. k ≤ suc n) (any_below p n) (λ t. omega arith) (λ t. by_test (λ k. k ≤ suc n) (p n) (λ u. omega arith) (λ u. omega arith))

-- ---- the node of a file of bytes, with at most 128 fields

module _ (s : List ℕ) (y : Bytes s) where
  byte : (i k : ℕ) → byte_at s i k < 256
  unfolding byte_at
  byte i k = y _

  word : (i k : ℕ) → word_at s i k < 2 ^ 32
  unfolding word_at
  word i k = omega (arith, byte i k, byte i (k + 1), byte i (k + 2), byte i (k + 3))

  module _ (F M D : ℕ) (few : D ≤ 128) where
    frame_fits : (f : ℕ) → AllBytes (frame_bytes (start_frame s F (F + M) D f))
    unfolding laid_frame frame_bytes frame_at
    frame_fits f =
        by_test (λ (h : Frame). AllBytes (frame_bytes h)) (leb F f) (λ t. record { each = omega arith })
        (λ t. record {
          each =
              omega (
                arith,
                byte f 2,
                byte f 3,
                byte f 4,
                byte f 5,
                tally_within (lies_before s (F + M) f) D,
                tally_within (lies_in s (F + M) f) D,
              );
        })

    message_fits : (m : ℕ) → FitsMessage (start_message_or_none s F M D m)
    unfolding start_message_or_none start_message message_bytes message_at field_at
    message_fits m =
        by_test FitsMessage (ltb m M)
        (λ t. let first = least_within (is_instance s (F + M) m) D in
        let number = tally_within (is_instance s (F + M) m) D in
        let i : ℕ = F + m in
        record {
          bytes = record { each = omega (arith, byte i 2, byte i 3, byte i 4, byte i 5, byte i 6, byte (F + M + first_field s (F + M) D m) 4) };
          x1 = word i 8;
          x2 = word i 12;
        })
        (λ t. record { bytes = record { each = omega arith }; x1 = omega arith; x2 = omega arith })

    laid_fits : (d : ℕ) → AllBytes (laid_bytes (start_laid s (F + M) D d))
    unfolding start_laid laid_bytes field_at
    laid_fits d =
        by_test (λ (x : FieldRecord). AllBytes (laid_bytes x)) (leb D d) (λ t. record { each = omega arith })
        (λ t. let i : ℕ = F + M + d in record { each = omega (arith, byte i 1, byte i 2, byte i 3, byte i 4, byte i 5) })

    state_fits : (bit m : ℕ) → FitsState (state_or_none s F M bit m)
    unfolding state_or_none message_at
    state_fits bit m =
        by_test FitsState (ltb m M)
        (λ t. record {
          valid = by_test (λ k. k < 256) (eqb bit 0) (λ u. omega arith) (λ u. omega arith);
          status = omega arith;
          held = word (F + m) 16;
        })
        (λ t. record { valid = omega arith; status = omega arith; held = omega arith })

    listed_frames : (f : ℕ) → Every (λ d. d < 256) (frame_by_frame s (F + M) D f)
    unfolding frame_by_frame
    listed_frames zero = tt
    listed_frames (suc f) = every_join _ (frame_by_frame s (F + M) D f) _ (listed_frames f) (every_selected (lies_in s (F + M) f) D (omega arith))

    listed_fits : Every (λ d. AllBytes (listed_bytes d)) (start_index s (F + M) D)
    unfolding start_index listed_bytes
    listed_fits =
        every_more (λ d. d < 256) (λ d. AllBytes (listed_bytes d)) (λ d h. record { each = (h, tt) }) (start_index s (F + M) D)
        (every_take _ 128 (frame_by_frame s (F + M) D 32 ++ replicate 128 0)
        (every_join _ (frame_by_frame s (F + M) D 32) _ (listed_frames 32) (every_alike (λ d. d < 256) {a = 0} (omega arith) 128)))

    start_stored : Sound (start_of s F M D) → Stored (start_of s F M D)
    unfolding start_layout start_state start_frames start_messages start_fields start_states
    start_stored sound =
        record {
          layout =
              record {
                frame_number = omega (arith, sound.layout.few_frames);
                message_number = omega (arith, sound.layout.few_messages);
                field_number = omega arith;
                frames = record { all = sound.layout.frame_cells; each = every_table _ _ frame_fits 0 32 };
                messages = record { all = sound.layout.message_cells; each = every_table _ _ message_fits 0 32 };
                fields = record { all = sound.layout.field_cells; each = every_table _ _ laid_fits 0 128 };
                index = record { all = sound.layout.index_cells; each = listed_fits };
              };
          state =
              record {
                deliveries = record { all = sound.state.delivery_cells; each = every_alike FitsDelivery none_fits 32 };
                messages = record { all = sound.state.message_cells; each = every_table _ _ (λ m. state_fits _ m) 0 32 };
                stages = record { all = sound.state.stage_cells; each = every_alike FitsStage (record { code = omega arith; stored = refl }) 128 };
              };
        }

-- ---- a load

loaded_stored : (n : Node) (file : List ℕ) → Bytes file → (load_of n file).answer ≡ 0 → Stored (load_of n file).node
unfolding start_layout
loaded_stored n file y ok =
    let made = load_makes n file ok in
    let sound : Sound (start_of file made.frames made.messages made.fields) = rw made.node at (sound_load n file ok) in
    rw made.node (start_stored file y made.frames made.messages made.fields sound.layout.few_fields sound)

pub has_load : (b file : List ℕ) → Memory b → Bytes file → (e : List ℕ) × Memory e × Loads b file (load_of (node_of b) file).answer e
has_load b file memory y = go (ℕ_discrete (load_of (node_of b) file).answer 0)
  where
    leaves : (e : List ℕ) → node_of e ≡ (load_of (node_of b) file).node → Loads b file (load_of (node_of b) file).answer e
    leaves e = ap (λ (k : Node). record { answer = (load_of (node_of b) file).answer; node = k })

    go : Dec ((load_of (node_of b) file).answer ≡ 0) → (e : List ℕ) × Memory e × Loads b file (load_of (node_of b) file).answer e
    go (yes ok) = let s = loaded_stored (node_of b) file y ok in (_, stored_memory s, leaves _ (stored_node s))
    go (no refused) = (b, memory, leaves b (sym (load_refused (node_of b) file refused)))
