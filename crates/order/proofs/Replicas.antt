-- Replicas agree. A closing takes three things from a message's fields: whether their frames came, which instances count, and the values of these.
-- Each is the same of two fields that lie alike and came alike, since unpacking reads the bits at its places and no others. So the instances are the
-- same, in the same order, and the two messages settle alike. They may have had another validity and status: a closing looks at neither.
-- Assumes nothing.
use mathlib.Core.Path.{◌≡◌, refl, sym, ap, ◌∙◌}
use mathlib.Core.Bool.{Bool, true, false, not, ◌&&◌, and-eq-true_iff}
use mathlib.Core.List.{List, [], ◌∷◌}
use Prim.Native.Nat.{ℕ, ◌<◌}
use lib.IntN.{ℤ}
use lib.ListN.{length}
use borrow.Author.Tests.{eqb-true}
use Rattle.std.specs.Prelude.{Option, Some, None}
use Rattle.packing.proofs.Frame.{agree}
use Rattle.record.specs.declared.Field.{Field as FieldRecord}
use Rattle.store.specs.declared.Message.{Message}
use Rattle.store.specs.declared.MessageState.{MessageState}
use Rattle.store.specs.Node.{Layout, Node, frame_at, message_at, laid_at, state_at, data_at}
use Rattle.message.specs.Messages.{passes_now, filtered, agreed_by, agreed_on, settled}
use Rattle.message.specs.Fields.{status_places}
use Rattle.own.specs.declared.Owner.{Owner}
use Rattle.own.specs.Own.{is_in, cells_of, fields_of}
use Rattle.own.specs.SoundLayout.{SoundLayout, message_places, its_status_places}
use Rattle.own.proofs.Lists.{same_test, Every}
use Rattle.own.proofs.Owners.{cell_names, fields_named}
use Rattle.closing.specs.Closing.{came, status_set, counts, value_in, instances, none_came, closed_state}
use Rattle.node.specs.Sound.{Sound}
use Rattle.node.proofs.Delivered.{data_length}
use Rattle.calls.specs.Relations.{close, receive, seen_of, next}
use Rattle.order.specs.Own.{SameValues, SameInstance}
use Rattle.order.specs.Replicas.{FieldByField, SameMessage, LieAlike, Replicas, CameAlike}
use Rattle.order.proofs.Chosen.{pairwise_more, all_pairwise, chosen_pairwise, each_field}
use Rattle.order.proofs.Shown.{received_closed, closed_shown}

-- ---- one field

-- a field of a message lies in a frame of the layout, and names the message
module _ {l : Layout} (s : SoundLayout l) (m d : ℕ) (mine : is_in d (cells_of l (Owner.Message m)) ≡ true) where
  pub in_layout : (laid_at l d).frame < l.frame_number
  in_layout = (s.fields d ((fields_named s (Owner.Message m) d).0 mine).0).frame

  named : (laid_at l d).message ≡ m
  named = eqb-true (laid_at l d).message m (cell_names l (Owner.Message m) d mine)

-- each of a message's fields is so
record Known (l : Layout) (m : ℕ) (x : FieldRecord) : Type 0 where
  frame : x.frame < l.frame_number
  message : x.message ≡ m

all_known : {l : Layout} → SoundLayout l → (m : ℕ) → Every (Known l m) (fields_of l (Owner.Message m))
all_known {l} s m = each_field l (Owner.Message m) (Known l m) (λ d mine. record { frame = in_layout s m d mine; message = named s m d mine })

module _ {n n' : Node} (s : Sound n) (s' : Sound n') (m m' : ℕ) (width : (message_at n.layout m).width ≡ (message_at n'.layout m').width)
    (sign : (message_at n.layout m).sign ≡ (message_at n'.layout m').sign) where
  abbrev g : Message
  g = message_at n.layout m

  abbrev g' : Message
  g' = message_at n'.layout m'

  module _ (x x' : FieldRecord) (known : Known n.layout m x) (known' : Known n'.layout m' x') (lie : LieAlike n.layout n'.layout x x')
      (same : SameInstance n n' x x') where
    size : length (data_at n x.frame) ≡ (frame_at n.layout x.frame).length
    size = data_length s x.frame known.frame

    size' : length (data_at n' x'.frame) ≡ (frame_at n.layout x.frame).length
    size' = data_length s' x'.frame known'.frame ∙ sym lie.length

    value_alike : came n.state x ≡ true → value_in n g x ≡ value_in n' g' x'
    unfolding value_in
    value_alike here =
        let bits = rw known.message at ((agree (message_places n.layout x) _ _).0 (same.bits here)) in
        rw (size, size', bits, lie.order, lie.start, width, sign)

    status_alike : came n.state x ≡ true → status_set n x ≡ status_set n' x'
    unfolding status_set status_places
    status_alike here = rw (size, size', (agree (its_status_places n.layout x) _ _).0 (same.status here), lie.order, lie.status, lie.place)

    counts_alike : counts n x ≡ counts n' x'
    unfolding counts
    counts_alike = rw (← same.frame) (and_alike (came n.state x) status_alike)
      where
        and_alike : (a : Bool) {b b' : Bool} → (a ≡ true → b ≡ b') → (a && b) ≡ (a && b')
        and_alike true h = h refl
        and_alike false h = refl

    counted_alike : counts n x ≡ true → value_in n g x ≡ value_in n' g' x'
    unfolding counts
    counted_alike t = value_alike ((and-eq-true_iff (came n.state x) (status_set n x)).0 t).0

  -- ---- a message's fields

  module _ (lie : FieldByField (LieAlike n.layout n'.layout) n.layout n'.layout m m')
      (same : FieldByField (SameInstance n n') n.layout n'.layout m m') where
    by_field : (T : FieldRecord → FieldRecord → Type 0)
        → ((x x' : FieldRecord) → Known n.layout m x → Known n'.layout m' x' → LieAlike n.layout n'.layout x x' → SameInstance n n' x x' → T x x')
        → FieldByField T n.layout n'.layout m m'
    by_field T f =
        pairwise_more _ _ _ _ T f (fields_of n.layout (Owner.Message m)) (fields_of n'.layout (Owner.Message m')) (all_known s.layout m)
        (all_known s'.layout m') lie same

    pub none_alike : none_came n m ≡ none_came n' m'
    unfolding none_came
    none_alike = all_pairwise _ _ _ _ (by_field _ (λ x x' k k' lie same. ap not same.frame))

    pub instances_alike : instances n m ≡ instances n' m'
    unfolding instances
    instances_alike =
        chosen_pairwise (counts n) (counts n') (value_in n g) (value_in n' g') _ _
        (by_field _ (λ x x' k k' lie same. (counts_alike x x' k k' lie same, counted_alike x x' k k' lie same)))

-- ---- a message's state

-- what a closing makes of a state that has other validity and status: the same values and status
record SameClosed (a a' : MessageState) : Type 0 where
  values : SameValues a a'
  status : a.status ≡ a'.status

module _ (g g' : Message) (message : SameMessage g g') (a a' : MessageState) (same : SameValues a a') where
  passes_alike : (v : ℤ) → passes_now g a v ≡ passes_now g' a' v
  unfolding passes_now
  passes_alike v = rw (message.filter, message.sign, message.x1, message.x2, same)

  filtered_alike : (v : ℤ) → SameClosed (filtered g a v) (filtered g' a' v)
  unfolding filtered
  filtered_alike v =
      rw (passes_alike v)
      (same_test SameClosed (passes_now g' a' v) (λ t. record { values = refl; status = refl }) (λ t. record { values = same; status = refl }))

  agreement_alike : (l : List ℤ) → agreed_by g l ≡ agreed_by g' l
  unfolding agreed_by
  agreement_alike l = rw (message.sign, message.agreement)

  agreed_alike : (r : Option ℤ) → SameClosed (agreed_on g a r) (agreed_on g' a' r)
  agreed_alike None = record { values = same; status = refl }
  agreed_alike (Some v) = filtered_alike v

  settled_alike : (none : Bool) (l : List ℤ) → SameClosed (settled g a none l) (settled g' a' none l)
  settled_alike none [] = record { values = same; status = refl }
  settled_alike none (v ∷ l) = rw (agreement_alike (v ∷ l)) (agreed_alike (agreed_by g' (v ∷ l)))

-- ---- two nodes

module _ {n n' : Node} (s : Sound n) (s' : Sound n') (m m' : ℕ) (replicas : Replicas n.layout n'.layout m m') (same : CameAlike n n' m m') where
  closed_alike : SameClosed (closed_state n m (state_at n.state m)) (closed_state n' m' (state_at n'.state m'))
  unfolding closed_state
  closed_alike =
      let message = replicas.message in
      rw (
        none_alike s s' m m' message.width message.sign replicas.fields same.fields,
        instances_alike s s' m m' message.width message.sign replicas.fields same.fields,
      )
      (settled_alike _ _ message (state_at n.state m) (state_at n'.state m') same.values (none_came n' m') (instances n' m'))

  -- the two show the same
  pub replicas_agree : (p : ℤ) → seen_of (next n close) (receive m p) ≡ seen_of (next n' close) (receive m' p)
  replicas_agree p =
      closed_shown s m replicas.received p _ refl
      ∙ rw (closed_alike.status, closed_alike.values, replicas.message.sign) (sym (closed_shown s' m' replicas.received' p _ refl))

  -- and the next closing finds the same values
  pub replicas_values : SameValues (state_at (next n close).state m) (state_at (next n' close).state m')
  replicas_values = rw (received_closed s m replicas.received, received_closed s' m' replicas.received') closed_alike.values
