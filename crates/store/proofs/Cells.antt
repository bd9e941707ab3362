-- The cells of the node's memory: the bytes of a cell, decoded and encoded again, are the same bytes, and what is encoded is decoded again where it
-- fits the cell. A cell is listed byte by byte, so the bytes go by their places, and a word by its four bytes.
-- Assumes nothing.
use mathlib.Core.Path.{◌≡◌, refl, ap, sym, ◌∙◌}
use mathlib.Core.List.{List, [], ◌∷◌, ◌++◌}
use Prim.Native.Nat.{ℕ, zero, suc, ◌+◌, ◌*◌, ◌/◌, ◌%◌, ◌^◌, ◌≤◌, ◌<◌, min}
use native.Mathlib.Decide.{dec_lt}
use native.Mathlib.Omega.{arith}
use lib.ListN.{length, get_or, set, take, drop, replicate, length-append, length-drop, length-replicate, drop_of_length-le}
use borrow.Author.Rules.{rules}
use Rattle.std.specs.Int.{to_le_bytes, w32}
use lib.Seq.{drop-cons, length-take-le, take_all, take_at}
use Rattle.whole.specs.Whole.{Bytes}
use Rattle.record.specs.declared.Field.{Field as FieldRecord}
use Rattle.store.specs.Memory.{part, overwritten}
use Rattle.store.specs.Node.{
  Delivery,
  StoredStage,
  stage_of,
  code_of,
  word_in,
  word_then,
  frame_of,
  frame_bytes,
  message_of,
  message_bytes,
  laid_of,
  laid_bytes,
  listed_of,
  listed_bytes,
  delivery_of,
  delivery_bytes,
  message_state_of,
  state_size,
  message_state_bytes,
  stage_in,
  stage_bytes,
  marked,
  filled,
}
use Rattle.store.specs.declared.Frame.{Frame}
use Rattle.store.specs.declared.Message.{Message}
use Rattle.store.specs.declared.MessageState.{MessageState}
use Rattle.store.specs.declared.Stage.{Stage}

-- ---- sizes

pub frame_size : (h : Frame) → length (frame_bytes h) ≡ 6
unfolding frame_bytes
frame_size h = refl

pub message_size : (g : Message) → length (message_bytes g) ≡ 16
unfolding message_bytes
message_size g = refl

pub laid_size : (x : FieldRecord) → length (laid_bytes x) ≡ 5
unfolding laid_bytes
laid_size x = refl

pub listed_size : (d : ℕ) → length (listed_bytes d) ≡ 1
unfolding listed_bytes
listed_size d = refl

pub delivery_size : (y : Delivery) → length (delivery_bytes y) ≡ 33
unfolding delivery_bytes
delivery_size y =
    let room : 32 ≤ length (y.bytes ++ replicate 32 0) = rw (length-append, length-replicate) (omega arith) in
    ap suc (length-take-le 32 (y.bytes ++ replicate 32 0) room)

pub state_size_lem : (s : MessageState) → length (message_state_bytes s) ≡ state_size
unfolding message_state_bytes
state_size_lem s = refl

pub stage_size : (t : Stage) → length (stage_bytes t) ≡ 1
unfolding stage_bytes
stage_size t = refl

-- ---- bytes

-- the n bytes of c from i on, before others
abbrev bytes_from : List ℕ → ℕ → ℕ → List ℕ → List ℕ
bytes_from c i zero l = l
bytes_from c i (suc n) l = get_or c i 0 ∷ bytes_from c (suc i) n l

bytes_from_lem : (c : List ℕ) (i n : ℕ) → i + n ≤ length c → bytes_from c i n (drop (i + n) c) ≡ drop i c
bytes_from_lem c i zero h = let e : i + 0 ≡ i = omega arith in rw e refl
bytes_from_lem c i (suc n) h =
    let e : i + suc n ≡ suc i + n = omega arith in
    ap (λ (k : ℕ). get_or c i 0 ∷ bytes_from c (suc i) n (drop k c)) e
    ∙ ap (λ (l : List ℕ). get_or c i 0 ∷ l) (bytes_from_lem c (suc i) n (omega arith))
    ∙ sym (drop-cons c i 0 (omega arith))

pub bytes_front : (c : List ℕ) (n : ℕ) → n ≤ length c → bytes_from c 0 n (drop n c) ≡ c
bytes_front c n h = let e : 0 + n ≡ n = omega arith in rw e at (bytes_from_lem c 0 n (omega arith))

bytes_all : (c : List ℕ) (n : ℕ) → length c ≡ n → bytes_from c 0 n [] ≡ c
bytes_all c n h = ap (bytes_from c 0 n) (sym (drop_of_length-le c {i = n} (omega arith))) ∙ bytes_front c n (omega arith)

-- ---- words

word_below : (c : List ℕ) (k : ℕ) → Bytes c → word_in c k < 2 ^ 32
word_below c k y = omega (arith, y k, y (k + 1), y (k + 2), y (k + 3))

lowest : (a x : ℕ) → a < 256 → ((a + 256 * x) % 256 ≡ a) × ((a + 256 * x) / 256 ≡ x)
lowest a x h = (omega arith, omega arith)

-- the bytes of the word at byte k of c, before others
abbrev bytes_then : List ℕ → ℕ → List ℕ → List ℕ
bytes_then c k l = get_or c k 0 ∷ get_or c (k + 1) 0 ∷ get_or c (k + 2) 0 ∷ get_or c (k + 3) 0 ∷ l

word_encoded : (c : List ℕ) (k : ℕ) (l : List ℕ) → Bytes c → word_then (word_in c k) l ≡ bytes_then c k l
word_encoded c k l y =
    let first = lowest (get_or c k 0) (get_or c (k + 1) 0 + 256 * (get_or c (k + 2) 0 + 256 * get_or c (k + 3) 0)) (y k) in
    let second = lowest (get_or c (k + 1) 0) (get_or c (k + 2) 0 + 256 * get_or c (k + 3) 0) (y (k + 1)) in
    let third = lowest (get_or c (k + 2) 0) (get_or c (k + 3) 0) (y (k + 2)) in
    let fourth : get_or c (k + 3) 0 % 256 ≡ get_or c (k + 3) 0 = omega (arith, y (k + 3)) in
    rw (first.0, first.1, second.0, second.1, third.0, third.1, fourth) refl

-- the library's bytes of a word are those
pub word_bytes : (x : ℕ) → to_le_bytes w32 x ≡ word_then x []
word_bytes x = search rules

word_decoded : (x : ℕ) → x < 2 ^ 32 → word_in (word_then x []) 0 ≡ x
word_decoded x h = omega arith

-- ---- bytes, decoded and encoded again

pub frame_encoded : (c : List ℕ) → length c ≡ 6 → Bytes c → frame_bytes (frame_of c) ≡ c
unfolding frame_bytes frame_of
frame_encoded c h y = bytes_all c 6 h

pub message_encoded : (c : List ℕ) → length c ≡ 16 → Bytes c → message_bytes (message_of c) ≡ c
unfolding message_bytes message_of
message_encoded c h y = ap (bytes_from c 0 8) (word_encoded c 8 _ y ∙ ap (bytes_then c 8) (word_encoded c 12 [] y)) ∙ bytes_all c 16 h

pub laid_encoded : (c : List ℕ) → length c ≡ 5 → Bytes c → laid_bytes (laid_of c) ≡ c
unfolding laid_bytes laid_of
laid_encoded c h y = bytes_all c 5 h

pub listed_encoded : (c : List ℕ) → length c ≡ 1 → Bytes c → listed_bytes (listed_of c) ≡ c
unfolding listed_bytes listed_of
listed_encoded c h y = bytes_all c 1 h

pub delivery_encoded : (c : List ℕ) → length c ≡ 33 → Bytes c → delivery_bytes (delivery_of c) ≡ c
unfolding delivery_bytes delivery_of
delivery_encoded c h y =
    let size : length (drop 1 c) ≡ 32 = rw length-drop (omega arith) in
    ap (bytes_from c 0 1) (take_at (drop 1 c) (replicate 32 0) 32 size) ∙ bytes_front c 1 (omega arith)

pub state_encoded : (c : List ℕ) → length c ≡ state_size → Bytes c → message_state_bytes (message_state_of c) ≡ c
unfolding message_state_bytes message_state_of
state_encoded c h y = ap (bytes_from c 0 2) (word_encoded c 2 [] y) ∙ bytes_all c state_size h

code_stage : (k : ℕ) → code_of (stage_of k) ≡ k
code_stage zero = refl
code_stage (suc zero) = refl
code_stage (suc (suc k)) = refl

pub stage_encoded : (c : List ℕ) → length c ≡ 1 → Bytes c → stage_bytes (stage_in c) ≡ c
unfolding stage_bytes stage_in
stage_encoded c h y = ap (λ (k : ℕ). k ∷ []) (code_stage (get_or c 0 0)) ∙ bytes_all c 1 h

-- ---- what fits a cell, encoded and decoded again

pub frame_decoded : (h : Frame) → frame_of (frame_bytes h) ≡ h
unfolding frame_of frame_bytes
frame_decoded h = refl

pub message_decoded : (g : Message) → g.x1 < 2 ^ 32 → g.x2 < 2 ^ 32 → message_of (message_bytes g) ≡ g
unfolding message_of message_bytes
message_decoded g first second = rw (word_decoded g.x1 first, word_decoded g.x2 second) refl

pub laid_decoded : (x : FieldRecord) → laid_of (laid_bytes x) ≡ x
unfolding laid_of laid_bytes
laid_decoded x = refl

pub listed_decoded : (d : ℕ) → listed_of (listed_bytes d) ≡ d
unfolding listed_of listed_bytes
listed_decoded d = refl

pub delivery_decoded : (y : Delivery) → length y.bytes ≡ 32 → delivery_of (delivery_bytes y) ≡ y
unfolding delivery_of delivery_bytes
delivery_decoded y e = ap (λ (l : List ℕ). record { delivered = y.delivered; bytes = l }) (take_at y.bytes (replicate 32 0) 32 e)

pub state_decoded : (s : MessageState) → s.held < 2 ^ 32 → message_state_of (message_state_bytes s) ≡ s
unfolding message_state_of message_state_bytes
state_decoded s held = rw (word_decoded s.held held) refl

pub stage_decoded : (t : Stage) → StoredStage t → stage_in (stage_bytes t) ≡ t
unfolding stage_in stage_bytes
stage_decoded t e = e

-- what bytes say fits a cell
pub words_fit : (c : List ℕ) → Bytes c → ((message_of c).x1 < 2 ^ 32) × ((message_of c).x2 < 2 ^ 32)
unfolding message_of
words_fit c y = (word_below c 8 y, word_below c 12 y)

pub held_fits : (c : List ℕ) → Bytes c → (message_state_of c).held < 2 ^ 32
unfolding message_state_of
held_fits c y = word_below c 2 y

pub stage_fits : (c : List ℕ) → StoredStage (stage_in c)
unfolding stage_in
stage_fits c = ap stage_of (code_stage (get_or c 0 0))

-- ---- a delivery's cell, in part

-- the first n elements of a list, or all if there are fewer
pub take_least : (l : List ℕ) (k n : ℕ) → k ≡ min (length l) n → take k l ≡ take n l
take_least l k n e = go (dec_lt (length l) n)
  where
    go : Dec (length l < n) → take k l ≡ take n l
    go (yes h) = take_all k l (omega arith) ∙ sym (take_all n l (omega arith))
    go (no h) = let same : k ≡ n = omega arith in rw same refl

-- at most 32 of its bytes are data
pub delivery_data : (c : List ℕ) (k : ℕ) → length c ≡ 33 → take k (delivery_of c).bytes ≡ part c 1 (min k 32)
unfolding delivery_of
delivery_data c k h =
    let size : length (drop 1 c) ≡ 32 = rw length-drop (omega arith) in
    sym (take_least (drop 1 c) (min k 32) k (omega arith))

pub delivery_marked : (c : List ℕ) (k : ℕ) → length c ≡ 33 → delivery_of (set c 0 k) ≡ marked k (delivery_of c)
unfolding delivery_of
delivery_marked c k h = ap (λ (l : List ℕ). delivery_of (set l 0 k)) (sym (bytes_front c 1 (omega arith)))

pub delivery_filled : (c d : List ℕ) → length c ≡ 33 → delivery_of (overwritten c 1 (length d) d) ≡ filled (delivery_of c) d
unfolding delivery_of
delivery_filled c d h =
    let n : ℕ = length d in
    let behind : 1 + n ≡ suc n = omega arith in
    let all : 0 + n ≡ n = omega arith in
    ap (λ (l : List ℕ). delivery_of (overwritten l 1 n d)) (sym (bytes_front c 1 (omega arith)))
    ∙ ap (λ (l : List ℕ). record { delivered = get_or c 0 0; bytes = l }) (rw (behind, all, take_all n d (omega arith)) refl)
