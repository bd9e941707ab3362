-- A closing, loop by loop. The places of a message are gone through from its first: what is left of its instances, and of the question whether any
-- frame came, is what the cells ahead say. Messages are closed one after the other, each as the node was when the closing began: a closing reads the
-- layout, the deliveries and its own message's state, which is not replaced before it is closed. Then the deliveries of the layout's frames are forgotten.
-- Assumes nothing.
use mathlib.Core.Path.{◌≡◌, refl, ap, ap₂, sym, ◌∙◌, subst}
use mathlib.Core.Bool.{Bool, true, false, not, cond, ◌&&◌, and-eq-true_iff, and-true, and-false, false≢true}
use mathlib.Core.List.{List, [], ◌∷◌, ◌++◌, map, append-nil}
use Prim.Native.Nat.{ℕ, zero, suc, ◌+◌, ◌<◌, ◌≤◌}
use native.Mathlib.Nat.{zero-add}
use native.Mathlib.Decide.{dec_lt}
use native.Mathlib.Omega.{arith}
use lib.Dec.{ltb}
use lib.IntN.{ℤ}
use lib.ListN.{length, drop, replicate, get_or-eq_default}
use borrow.Author.Tests.{ltb-true, lt-ltb}
use Rattle.whole.specs.Whole.{all_of}
use Rattle.record.specs.declared.Field.{Field as FieldRecord}
use Rattle.store.specs.declared.Message.{Message}
use Rattle.store.specs.declared.MessageState.{MessageState}
use Rattle.store.specs.Node.{Delivery, Node, frame_count, message_count, is_sent, layout_of, state_of, node_of, no_delivery, no_state, message_at, state_at, with_status, with_deliveries, with_states, with_state, node_with}
use Rattle.store.proofs.Laws.{deliveries_length}
use Rattle.message.specs.Messages.{agreed_by, agreed_on, settled}
use Rattle.own.specs.declared.Owner.{Owner}
use Rattle.own.specs.Own.{chosen, changed, fields_of}
use Rattle.closing.specs.Closing.{came, status_set, counts, value_in, instances, none_came, closed_state, is_received, close_messages, forget}
use Rattle.closing.proofs.Loops.{rest_stays, changed_to, not_yet, changed_turn, changed_skip, changed_end}

-- ---- one field

-- a field that came is in a frame of the memory
pub came_known : (b : List ℕ) (x : FieldRecord) → came (state_of b) x ≡ true → x.frame < 32
unfolding came
came_known b x here = go (dec_lt x.frame 32)
  where
    go : Dec (x.frame < 32) → x.frame < 32
    go (yes h) = h
    go (no h) =
        let none = get_or-eq_default (state_of b).deliveries no_delivery {n = x.frame} (omega (arith, deliveries_length b)) in
        absurd (false≢true (rw none at here))

-- ---- the fields of a message

module _ (n : Node) (m : ℕ) where
  -- the values of those that count
  abbrev pub counted : List FieldRecord → List ℤ
  counted l = map (value_in n (message_at n.layout m)) (chosen (counts n) l)

  -- no frame of them came, and none did before
  abbrev pub none_so_far : Bool → List FieldRecord → Bool
  none_so_far none l = none && all_of (λ x. not (came n.state x)) l

  -- at first all are ahead, and at last none is
  pub gather_begin : (instances n m ≡ counted (fields_of n.layout (Owner.Message m))) × (none_came n m ≡ none_so_far true (fields_of n.layout (Owner.Message m)))
  unfolding instances none_came
  gather_begin = (refl, refl)

  pub gather_end : {l : List FieldRecord} → l ≡ [] → {taken : List ℤ} {none : Bool} → instances n m ≡ taken ++ counted l → none_came n m ≡ none_so_far none l
      → (taken ≡ instances n m) × (none ≡ none_came n m)
  unfolding chosen all_of
  gather_end e {taken} a b = let c = rw (e, append-nil) at a in let d = rw (e, and-true) at b in (sym c, sym d)

  module _ (x : FieldRecord) (l : List FieldRecord) where
    -- it came and counts, it came and does not, or it did not come
    pub counts_turn : came n.state x ≡ true → status_set n x ≡ true → counted (x ∷ l) ≡ value_in n (message_at n.layout m) x ∷ counted l
    unfolding chosen counts
    counts_turn here set = rw (here, set) refl

    pub unset_turn : came n.state x ≡ true → status_set n x ≡ false → counted (x ∷ l) ≡ counted l
    unfolding chosen counts
    unset_turn here unset = rw (here, unset) refl

    pub absent_turn : came n.state x ≡ false → counted (x ∷ l) ≡ counted l
    unfolding chosen counts
    absent_turn away = rw away refl

    pub none_turn : (none : Bool) → came n.state x ≡ true → none_so_far none (x ∷ l) ≡ none_so_far false l
    unfolding all_of
    none_turn none here = rw (here, and-false) refl

    pub none_absent : (none : Bool) → came n.state x ≡ false → none_so_far none (x ∷ l) ≡ none_so_far none l
    unfolding all_of
    none_absent none away = rw away refl

-- ---- one message

module _ (n : Node) (m : ℕ) (s : MessageState) where
  pub closed_none : instances n m ≡ [] → closed_state n m s ≡ with_status (cond (none_came n m) 21 22) s
  unfolding closed_state
  closed_none e = rw e refl

  pub closed_some : 0 < length (instances n m)
      → closed_state n m s ≡ agreed_on (message_at n.layout m) s (agreed_by (message_at n.layout m) (instances n m))
  unfolding closed_state
  closed_some h = go (instances n m) h
    where
      go : (l : List ℤ) → 0 < length l
          → settled (message_at n.layout m) s (none_came n m) l ≡ agreed_on (message_at n.layout m) s (agreed_by (message_at n.layout m) l)
      go [] h = absurd (omega arith)
      go (v ∷ l) h = refl

  -- what is read of the message and gathered of its fields settles it
  pub closed_by : {g : Message} {x t : MessageState} {none : Bool} {l : List ℤ} → g ≡ message_at n.layout m → x ≡ s → none ≡ none_came n m
      → l ≡ instances n m → t ≡ settled g x none l → t ≡ closed_state n m s
  unfolding closed_state
  closed_by layout state came counting e = e ∙ rw (layout, state, came, counting) refl

  -- the states of other messages do not matter
  closed_apart : (l : List MessageState) → closed_state (node_with n (with_states n.state l)) m s ≡ closed_state n m s
  unfolding closed_state none_came instances counts came status_set value_in
  closed_apart l = refl

-- ---- all messages

module _ (n : Node) where
  -- the first k are closed
  abbrev pub closed_to : ℕ → Node
  closed_to k = node_with n (with_states n.state (changed_to (is_received n.layout) (closed_state n) n.state.messages k))

  module _ (k : ℕ) (room : k < length n.state.messages) {now : Node} {g : Message} (so_far : now ≡ closed_to k)
      (read : g ≡ message_at now.layout k) where
    message_then : g ≡ message_at n.layout k
    message_then = read ∙ ap (λ (i : Node). message_at i.layout k) so_far

    state_then : state_at now.state k ≡ state_at n.state k
    state_then = ap (λ (i : Node). state_at i.state k) so_far ∙ not_yet (is_received n.layout) (closed_state n) n.state.messages k no_state room

    pub close_turn : {after : Node} → k < message_count n.layout → is_sent g ≡ false
        → after ≡ node_with now (with_state now.state k (closed_state now k (state_at now.state k))) → after ≡ closed_to (k + 1)
    unfolding is_received
    close_turn known received put =
        let test : is_received n.layout k ≡ true = rw (lt-ltb k (message_count n.layout) known, ← message_then, received) refl in
        let same : closed_state now k (state_at now.state k) ≡ closed_state n k (state_at n.state k) =
        ap₂ (λ (i : Node) (x : MessageState). closed_state i k x) so_far state_then ∙ closed_apart n k (state_at n.state k) _ in
        put
        ∙ ap₂ (λ (i : Node) (x : MessageState). node_with i (with_state i.state k x)) so_far same
        ∙ ap (λ (l : List MessageState). node_with n (with_states n.state l))
        (changed_turn (is_received n.layout) (closed_state n) n.state.messages k no_state room test)

    pub close_skip : k < message_count n.layout → is_sent g ≡ true → now ≡ closed_to (k + 1)
    unfolding is_received
    close_skip known sent =
        let test : is_received n.layout k ≡ false = rw (lt-ltb k (message_count n.layout) known, ← message_then, sent) refl in
        so_far
        ∙ ap (λ (l : List MessageState). node_with n (with_states n.state l))
        (changed_skip (is_received n.layout) (closed_state n) n.state.messages k no_state room test)

  pub close_end : (k : ℕ) → message_count n.layout ≤ k → closed_to k ≡ node_with n (close_messages n)
  unfolding close_messages is_received
  close_end k over =
      ap (λ (l : List MessageState). node_with n (with_states n.state l))
      (changed_end (is_received n.layout) (closed_state n) n.state.messages k
      (λ j t. omega (arith, ltb-true j (message_count n.layout) ((and-eq-true_iff (ltb j (message_count n.layout)) _).0 t).0)))

-- ---- the deliveries

-- n of them are none, from number k on
first_forgotten : (n k : ℕ) (l : List Delivery) → n ≤ length l → replicate n no_delivery ++ drop n l ≡ changed (λ f. ltb f (k + n)) (λ f y. no_delivery) k l
unfolding changed
first_forgotten zero k l few = sym (rest_stays (λ f. ltb f (k + 0)) (λ f y. no_delivery) k 0 l (λ j t. ltb-true j (k + 0) t))
first_forgotten (suc n) k [] few = absurd (omega arith)
first_forgotten (suc n) k (x ∷ l) few =
    let next : k + suc n ≡ suc k + n = omega arith in
    let rest =
    subst
    (λ (m : ℕ). replicate n no_delivery ++ drop n l ≡ changed (λ f. ltb f m) (λ f y. no_delivery) (suc k) l)
    (sym next)
    (first_forgotten n (suc k) l (omega arith)) in
    rw (lt-ltb k (k + suc n) (omega arith)) (ap (λ (r : List Delivery). no_delivery ∷ r) rest)

all_forgotten : (n : ℕ) (l : List Delivery) → n ≤ length l → replicate n no_delivery ++ drop n l ≡ changed (λ f. ltb f n) (λ f y. no_delivery) 0 l
all_forgotten n l few = rw zero-add at (first_forgotten n 0 l few)

pub forgotten : (b : List ℕ) {k : ℕ} → k ≡ frame_count (layout_of b)
    → node_with (node_of b) (with_deliveries (state_of b) (replicate k no_delivery ++ drop k (state_of b).deliveries))
    ≡ node_with (node_of b) (forget (layout_of b) (state_of b))
unfolding forget
forgotten b e =
    let few : frame_count (layout_of b) ≤ length (state_of b).deliveries = omega (arith, deliveries_length b) in
    rw e
    (ap (λ (l : List Delivery). node_with (node_of b) (with_deliveries (state_of b) l)) (all_forgotten (frame_count (layout_of b)) (state_of b).deliveries few))
