-- Own bits alone: replicas in one layout. A message lies like itself, and of two nodes that agree on its own bits it came alike to both. A message
-- that is not received shows no value, and a closing leaves its own.
-- Assumes nothing.
use mathlib.Core.Path.{◌≡◌, refl, subst}
use mathlib.Core.Bool.{Bool, true, false, cond, not, ◌&&◌, true≢false}
use Prim.Native.Nat.{ℕ}
use lib.Dec.{eqb, ltb}
use lib.IntN.{ℤ}
use Rattle.record.specs.declared.Field.{Field as FieldRecord}
use Rattle.store.specs.Node.{Layout, State, Node, message_count, is_sent, message_at, laid_at, state_at, node_with}
use Rattle.own.specs.declared.Owner.{Owner}
use Rattle.own.specs.Own.{is_in, cells_of, fields_of}
use Rattle.node.specs.Calls.{receive_answer, received_place}
use Rattle.closing.specs.Closing.{is_received, close_of}
use Rattle.node.specs.Sound.{Sound}
use Rattle.node.proofs.Closed.{state_closed}
use Rattle.calls.specs.Relations.{close, receive, value, sees, seen_of, next}
use Rattle.order.specs.Own.{SameValues, SameInstance, SameOwn}
use Rattle.order.specs.Replicas.{FieldByField, LieAlike, Replicas}
use Rattle.order.proofs.Chosen.{pairwise_same, each_field}
use Rattle.order.proofs.Replicas.{replicas_agree, replicas_values}

-- ---- one layout

module _ (l : Layout) (m : ℕ) where
  -- what holds of each of a message's fields and itself
  with_itself : (R : FieldRecord → FieldRecord → Type 0) → ((d : ℕ) → is_in d (cells_of l (Owner.Message m)) ≡ true → R (laid_at l d) (laid_at l d))
      → FieldByField R l l m m
  with_itself R h = pairwise_same R (fields_of l (Owner.Message m)) (each_field l (Owner.Message m) (λ x. R x x) h)

  lies_alike : FieldByField (LieAlike l l) l l m m
  lies_alike = with_itself (LieAlike l l) (λ d mine. record { length = refl; order = refl; start = refl; status = refl; place = refl })

  itself : is_received l m ≡ true → Replicas l l m m
  itself t =
      record {
        received = t;
        received' = t;
        message = record { width = refl; sign = refl; agreement = refl; filter = refl; x1 = refl; x2 = refl };
        fields = lies_alike;
      }

-- what receive answers of a message with that status
abbrev answer : Bool → Bool → ℕ → ℕ
answer known sent a = cond (not known) 16 (cond sent 17 a)

-- a message that is not received answers 16 or 17 whatever its status and value
pub refused : (known sent : Bool) (a b : ℕ) (u v p : ℤ) → (known && not sent) ≡ false
    → sees (answer known sent a) (value (cond (eqb (answer known sent a) 0) u p)) ≡ sees (answer known sent b) (value (cond (eqb (answer known sent b) 0) v p))
refused true true a b u v p t = refl
refused true false a b u v p t = absurd (true≢false t)
refused false sent a b u v p t = refl

-- of two nodes of one layout, the other is the one with another state
pub one_layout : (P : Node → Type 0) (n n' : Node) → n.layout ≡ n'.layout → P (node_with n n'.state) → P n'
one_layout P n n' = subst (λ (l : Layout). P (record { layout = l; state = n'.state }))

module _ {n : Node} {k : State} (s : Sound n) (s' : Sound (node_with n k)) (m : ℕ) (same : SameOwn n (node_with n k) m) where
  abbrev n' : Node
  n' = node_with n k

  came_alike : FieldByField (SameInstance n n') n.layout n.layout m m
  came_alike = with_itself n.layout m (SameInstance n n') same.fields

  values_alike : SameValues (state_at (close_of n) m) (state_at (close_of n') m)
  values_alike = go (is_received n.layout m) refl
    where
      go : (b : Bool) → is_received n.layout m ≡ b → SameValues (state_at (close_of n) m) (state_at (close_of n') m)
      go true t = replicas_values s s' m m (itself n.layout m t) (record { values = same.values; fields = came_alike })
      go false t = rw (state_closed s m, state_closed s' m, t) same.values

  seen_alike : (p : ℤ) → seen_of (next n close) (receive m p) ≡ seen_of (next n' close) (receive m p)
  unfolding receive_answer received_place is_received
  seen_alike p = go (is_received n.layout m) refl
    where
      go : (b : Bool) → is_received n.layout m ≡ b → seen_of (next n close) (receive m p) ≡ seen_of (next n' close) (receive m p)
      go true t = replicas_agree s s' m m (itself n.layout m t) (record { values = same.values; fields = came_alike }) p
      go false t = refused (ltb m (message_count n.layout)) (is_sent (message_at n.layout m)) _ _ _ _ p t

-- ---- two nodes

-- What a message shows depends on the layout, its earlier values, which of its frames came validly, and its own field and status bits; on no other
-- bit of any frame: after a closing two sound nodes that agree on these answer its receiver the same, and give the same value
pub own_bits : {n n' : Node} → Sound n → Sound n' → (m : ℕ) → SameOwn n n' m → (p : ℤ)
    → seen_of (next n close) (receive m p) ≡ seen_of (next n' close) (receive m p)
own_bits {n} {n'} s s' m same p =
    one_layout (λ (k : Node). Sound k → SameOwn n k m → seen_of (next n close) (receive m p) ≡ seen_of (next k close) (receive m p)) n n' same.layout
    (λ t o. seen_alike s t m o p) s' same

-- and the values that the next closing finds are the same too
pub own_values : {n n' : Node} → Sound n → Sound n' → (m : ℕ) → SameOwn n n' m
    → SameValues (state_at (next n close).state m) (state_at (next n' close).state m)
own_values {n} {n'} s s' m same =
    one_layout (λ (k : Node). Sound k → SameOwn n k m → SameValues (state_at (close_of n) m) (state_at (close_of k) m)) n n' same.layout
    (λ t o. values_alike s t m o) s' same
