-- Two calls whose names are not linked commute. A call changes only cells that its name writes, each by itself; and what its caller sees depends only
-- on cells that its name reads. So a call leaves to another, not linked with it, all that the other reads.
-- Assumes nothing.
use mathlib.Core.Path.{◌≡◌, refl, ap, ap₂, sym, ◌∙◌}
use mathlib.Core.Bool.{Bool, true, false, not, cond, true≢false}
use mathlib.Core.List.{List, [], ◌∷◌}
use Prim.Native.Nat.{ℕ, zero, suc, ◌+◌, ◌<◌}
use native.Mathlib.Nat.{zero-add}
use native.Mathlib.Omega.{arith}
use lib.Dec.{eqb}
use lib.ListN.{length, get_or, set, length-set}
use lib.Seq.{get_or-set_same, get_or-set_other, ext_get_or}
use borrow.Author.Tests.{eqb-true, eqb-false, eq-eqb}
use Rattle.record.specs.declared.Field.{Field as FieldRecord}
use Rattle.store.specs.declared.Stage.{Stage}
use Rattle.store.specs.declared.Frame.{Frame}
use Rattle.store.specs.declared.MessageState.{MessageState}
use Rattle.store.specs.Node.{Layout, Delivery, State, Node, is_valid, message_at, laid_at, state_at, stage_at, no_delivery, no_state, no_stage, node_with}
use Rattle.message.specs.declared.Change.{Change}
use Rattle.message.specs.Messages.{offered, invalidated}
use Rattle.message.specs.Fields.{stage_after, is_gone, writes as writes_into}
use Rattle.own.specs.declared.Owner.{Owner}
use Rattle.own.specs.Own.{changed, cells_of, fields_of}
use Rattle.node.specs.Calls.{send_of, invalidate_of, invalid_in, suppressed, assemble_answer, written, assemble_of, assembled, consumed_of}
use Rattle.node.specs.Calls.{gone_at, flag_of, flag_place, kept, deliver_of, receive_answer, received_place}
use Rattle.own.proofs.Lists.{changed_length, changed_at, Every, every_more, every_number}
use Rattle.calls.specs.Relations.{Call, send, invalidate, assemble, consumed, read_flag, deliver, close, receive}
use Rattle.calls.specs.Relations.{Seen, buffer, answer_of, seen_of, next}
use Rattle.order.specs.Order.{Name, message, frame, name_of, dependent}
use Rattle.order.proofs.Carried.{carrying}
use Rattle.order.proofs.Cells.{Cell, state_cell, delivery_cell, stage_cell, writes, reads, writes_reads, apart, not_linked}
use Rattle.order.proofs.Chosen.{all_alike, each_field}

cond_same : {A : Type 0} (t : Bool) (a : A) → cond t a a ≡ a
cond_same true a = refl
cond_same false a = refl

-- ---- lists with some elements changed

module _ {A : Type 0} (p : ℕ → Bool) where
  -- each to itself
  unchanged : (i : ℕ) (l : List A) → changed p (λ j x. x) i l ≡ l
  unfolding changed
  unchanged i [] = refl
  unchanged i (x ∷ l) = ap₂ ◌∷◌ (cond_same (p i) x) (unchanged (suc i) l)

  module _ (g : A → A) where
    -- an element that is not among them, at place j from number i on
    changed_other : (d : A) (i : ℕ) (l : List A) (j k : ℕ) → i + j ≡ k → p k ≡ false → get_or (changed p (λ a. g) i l) j d ≡ get_or l j d
    unfolding changed
    changed_other d i [] j k e other = refl
    changed_other d i (x ∷ l) zero k e other = let number : i ≡ k = omega arith in rw (number, other) refl
    changed_other d i (x ∷ l) (suc j) k e other = changed_other d (suc i) l j k (omega arith) other

    -- two changes, neither of an element that the other changes
    changed_swap : (q : ℕ → Bool) (h : A → A) → ((i : ℕ) → q i ≡ true → p i ≡ false) → (i : ℕ) (l : List A)
        → changed p (λ a. g) i (changed q (λ a. h) i l) ≡ changed q (λ a. h) i (changed p (λ a. g) i l)
    unfolding changed
    changed_swap q h u i [] = refl
    changed_swap q h u i (x ∷ l) = ap₂ ◌∷◌ (go (p i) (q i) (u i)) (changed_swap q h u (suc i) l)
      where
        go : (s t : Bool) → (t ≡ true → s ≡ false)
            → cond s (g (cond t (h x) x)) (cond t (h x) x) ≡ cond t (h (cond s (g x) x)) (cond s (g x) x)
        go true true v = absurd (true≢false (v refl))
        go true false v = refl
        go false t v = refl

-- one element replaced
replaced : {A : Type 0} (f : A → A) (d : A) (l : List A) (m : ℕ) → set l m (f (get_or l m d)) ≡ changed (λ i. eqb i m) (λ i. f) 0 l
replaced f d l m =
    ext_get_or d _ _ (length-set l m _ ∙ sym (changed_length (λ i. eqb i m) (λ i. f) 0 l))
    (λ i h.
    let room : i < length l = omega (arith, length-set l m (f (get_or l m d))) in
    rw (changed_at (λ j. eqb j m) (λ j. f) l i d room) (go i room (eqb i m) refl))
  where
    go : (i : ℕ) → i < length l → (t : Bool) → eqb i m ≡ t → get_or (set l m (f (get_or l m d))) i d ≡ cond t (f (get_or l i d)) (get_or l i d)
    go i h true e = let same = eqb-true i m e in rw same (get_or-set_same l m _ d (omega arith))
    go i h false e = get_or-set_other l m i _ d (eqb-false i m e)

-- ---- what a call does to each cell that its name writes, if it is answered 0

pub record Effect : Type 0 where
  pub deliveries : Delivery → Delivery
  pub messages : MessageState → MessageState
  pub stages : Stage → Stage

abbrev pub on_stages : (Stage → Stage) → Effect
on_stages g = record { deliveries = λ y. y; messages = λ t. t; stages = g }

abbrev pub effect : Layout → Call → Effect
effect l (send m v) = record { deliveries = λ y. y; messages = λ t. offered (message_at l m) t v; stages = stage_after Change.Send }
effect l (invalidate m) = record { deliveries = λ y. y; messages = invalidated; stages = λ t. t }
effect l (assemble f b) = on_stages (stage_after Change.Load)
effect l (consumed f) = on_stages (stage_after Change.Consume)
effect l (read_flag m p) = on_stages (λ t. t)
effect l (deliver f valid d) = record { deliveries = λ y. cond valid (kept y d) y; messages = λ t. t; stages = λ t. t }
effect l close = on_stages (λ t. t)
effect l (receive m p) = on_stages (λ t. t)

abbrev spread : Layout → Name → Effect → State → State
spread l a g s =
    record {
      deliveries = changed (λ j. writes l a (delivery_cell j)) (λ j. g.deliveries) 0 s.deliveries;
      messages = changed (λ i. writes l a (state_cell i)) (λ i. g.messages) 0 s.messages;
      stages = changed (λ k. writes l a (stage_cell k)) (λ k. g.stages) 0 s.stages;
    }

-- the state after a call, whether it is answered 0 or not
abbrev pub after : Layout → Call → Bool → State → State
after l c t s = cond t (spread l (name_of c) (effect l c) s) s

-- every call but a closing
pub next_after : (n : Node) (c : Call) → (close ≡ c → ⊥)
    → next n c ≡ node_with n (after n.layout c (eqb (answer_of n c) 0) n.state)
unfolding send_of invalidate_of assemble_of consumed_of deliver_of
next_after n (send m v) other = simp (unchanged, replaced (λ t. offered (message_at n.layout m) t v) no_state n.state.messages m)
next_after n (invalidate m) other = simp (unchanged, replaced invalidated no_state n.state.messages m)
next_after n (assemble f d) other = simp unchanged
next_after n (consumed f) other = simp unchanged
next_after n (read_flag m p) other = simp (unchanged, cond_same)
next_after n (deliver f true d) other = simp (unchanged, replaced (λ y. kept y d) no_delivery n.state.deliveries f)
next_after n (deliver f false d) other = simp unchanged
next_after n close other = absurd (other refl)
next_after n (receive m p) other = simp (unchanged, cond_same)

-- ---- what a caller sees depends on the cells that its call's name reads

module _ (l : Layout) (s s' : State) where
  abbrev one : Node
  one = record { layout = l; state = s }

  abbrev other : Node
  other = record { layout = l; state = s' }

  -- the two states have the same in each cell that the name reads; no caller sees a delivery
  record Alike (a : Name) : Type 0 where
    states : (i : ℕ) → reads l a (state_cell i) ≡ true → state_at s i ≡ state_at s' i
    stages : (k : ℕ) → reads l a (stage_cell k) ≡ true → stage_at s k ≡ stage_at s' k

  -- the fields' messages have the same states
  abbrev SameStates : List FieldRecord → Type 0
  SameStates r = Every (λ x. state_at s x.message ≡ state_at s' x.message) r

  carried_same : (f : ℕ) → Alike (frame f) → SameStates (fields_of l (Owner.Frame f))
  carried_same f h =
      each_field l (Owner.Frame f) _
      (λ d t. h.states (laid_at l d).message ((carrying l f (laid_at l d).message).1 (d, t, eq-eqb _ (laid_at l d).message refl)))

  written_same : (h : Frame) (r : List FieldRecord) (b : List ℕ) → SameStates r → written one h r b ≡ written other h r b
  unfolding written
  written_same h [] b e = refl
  written_same h (x ∷ r) b e =
      ap (λ (t : MessageState). written one h r (writes_into h (message_at l x.message) t x b)) e.0
      ∙ written_same h r (writes_into h (message_at l x.message) (state_at s' x.message) x b) e.1

  answer_same : (f size : ℕ) → Alike (frame f) → assemble_answer one f size ≡ assemble_answer other f size
  unfolding assemble_answer suppressed
  answer_same f size h =
      let fields = fields_of l (Owner.Frame f) in
      let invalid = all_alike (invalid_in s) (invalid_in s') fields
      (every_more _ _ (λ x e. ap (λ (t : MessageState). not (is_valid t)) e) fields (carried_same f h)) in
      rw invalid refl

  buffer_same : (f : ℕ) (b : List ℕ) → Alike (frame f) → assembled one f b ≡ assembled other f b
  unfolding assembled
  buffer_same f b h = rw (answer_same f (length b) h, written_same _ _ b (carried_same f h)) refl

  flag_same : (m : ℕ) → Alike (message m) → flag_of one m ≡ flag_of other m
  unfolding flag_of
  flag_same m h =
      let cells = cells_of l (Owner.Message m) in
      let gone = all_alike (gone_at s) (gone_at s') cells (every_number _ cells (λ k t. ap is_gone (h.stages k t))) in
      rw gone refl

  seen_same : (c : Call) → Alike (name_of c) → seen_of one c ≡ seen_of other c
  unfolding send_of invalidate_of assemble_of consumed_of deliver_of
  seen_same (send m v) h = refl
  seen_same (invalidate m) h = refl
  seen_same (assemble f b) h = ap₂ (λ (a : ℕ) (d : List ℕ). record { answer = a; lent = buffer d }) (answer_same f (length b) h) (buffer_same f b h)
  seen_same (consumed f) h = refl
  seen_same (read_flag m p) h = unfold flag_place in rw (flag_same m h) refl
  seen_same (deliver f valid d) h = refl
  seen_same close h = refl
  seen_same (receive m p) h = unfold receive_answer received_place in rw (h.states m (eq-eqb m m refl)) refl

-- ---- two calls that are not linked commute

module _ (l : Layout) (s : State) (c d : Call) (u : dependent l c d ≡ false) where
  -- after c the cells that d reads are as before
  alike : (t : Bool) → Alike l (after l c t s) s (name_of d)
  alike true =
      record {
        states = λ i r. changed_other _ _ no_state 0 s.messages i i (zero-add i) (apart l (name_of c) (name_of d) u (state_cell i) r);
        stages = λ k r. changed_other _ _ no_stage 0 s.stages k k (zero-add k) (apart l (name_of c) (name_of d) u (stage_cell k) r);
      }
  alike false = record { states = λ i r. refl; stages = λ k r. refl }

  -- and no cell is written by both
  swap : (t t' : Bool) → after l c t (after l d t' s) ≡ after l d t' (after l c t s)
  swap true true =
      let free : (z : Cell) → writes l (name_of d) z ≡ true → writes l (name_of c) z ≡ false =
      λ z w. apart l (name_of c) (name_of d) u z (writes_reads l (name_of d) z w) in
      λ i. record {
        deliveries = changed_swap _ (effect l c).deliveries _ (effect l d).deliveries (λ j. free (delivery_cell j)) 0 s.deliveries i;
        messages = changed_swap _ (effect l c).messages _ (effect l d).messages (λ j. free (state_cell j)) 0 s.messages i;
        stages = changed_swap _ (effect l c).stages _ (effect l d).stages (λ k. free (stage_cell k)) 0 s.stages i;
      }
  swap true false = refl
  swap false t' = refl

-- a closing is linked with all
no_closing : (l : Layout) (c d : Call) → dependent l c d ≡ false → close ≡ c → ⊥
no_closing l c d u e = true≢false (ap (λ (k : Call). dependent l k d) e ∙ u)

module _ (n : Node) (c d : Call) (u : dependent n.layout c d ≡ false) where
  abbrev left : State
  left = after n.layout c (eqb (answer_of n c) 0) n.state

  next_left : next n c ≡ node_with n left
  next_left = next_after n c (no_closing n.layout c d u)

  seen_left : seen_of (node_with n left) d ≡ seen_of n d
  seen_left = seen_same n.layout left n.state d (alike n.layout n.state c d u (eqb (answer_of n c) 0))

  seen : seen_of (next n c) d ≡ seen_of n d
  seen = ap (λ (k : Node). seen_of k d) next_left ∙ seen_left

  twice : next (next n c) d ≡ node_with n (after n.layout d (eqb (answer_of n d) 0) left)
  twice =
      ap (λ (k : Node). next k d) next_left
      ∙ next_after (node_with n left) d (no_closing n.layout d c (not_linked n.layout (name_of c) (name_of d) u))
      ∙ ap (λ (r : Seen). node_with n (after n.layout d (eqb r.answer 0) left)) seen_left

-- c and d may change places at n
pub record Commutes (n : Node) (c d : Call) : Type 0 where
  pub seen_second : seen_of (next n c) d ≡ seen_of n d
  pub seen_first : seen_of (next n d) c ≡ seen_of n c
  pub same_next : next (next n c) d ≡ next (next n d) c

pub commute : (n : Node) (c d : Call) → dependent n.layout c d ≡ false → Commutes n c d
commute n c d u =
    let v = not_linked n.layout (name_of c) (name_of d) u in
    record {
      seen_second = seen n c d u;
      seen_first = seen n d c v;
      same_next =
          twice n c d u ∙ ap (node_with n) (swap n.layout n.state d c v (eqb (answer_of n d) 0) (eqb (answer_of n c) 0)) ∙ sym (twice n d c v);
    }
