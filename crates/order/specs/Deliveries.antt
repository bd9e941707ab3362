-- The deliveries' history: which delivery of a frame stands after a list of calls, and on what two rounds of calls agree for a message. A round begins
-- at a load or a closing and ends at the next closing.
-- Assumes nothing.
use Rattle.std.specs.Prelude.{◌≡◌, true, false, List, ◌∷◌, ◌↔◌, ℕ, ◌<◌}
use Rattle.packing.specs.Places.{Agree}
use Rattle.record.specs.declared.Field.{Field as FieldRecord}
use Rattle.store.specs.Node.{Layout, Node, is_delivered, laid_at, delivery_at, state_at, data_at}
use Rattle.own.specs.declared.Owner.{Owner}
use Rattle.own.specs.Own.{is_in, cells_of}
use Rattle.own.specs.SoundLayout.{message_places, its_status_places}
use Rattle.calls.specs.Relations.{Call, deliver, close}
use Rattle.order.specs.Order.{In}
use Rattle.order.specs.Flag.{Answered, succeeded, answered}
use Rattle.order.specs.Own.{SameValues}

-- ---- one frame

-- frame f counts as delivered this round, with these data
pub record DeliveredWith (n : Node) (f : ℕ) (bytes : List ℕ) : Type 0 where
  pub delivered : is_delivered (delivery_at n.state f) ≡ true
  pub same : data_at n f ≡ bytes

-- no frame of the layout counts as delivered: what a load and a closing leave
abbrev pub NoneDelivered : Node → Type 0
NoneDelivered n = (f : ℕ) → f < n.layout.frame_number → is_delivered (delivery_at n.state f) ≡ false

-- no closing is among the calls, and no valid delivery of frame f that answered 0
pub record NoneSince (f : ℕ) (l : List Answered) : Type 0 where
  pub closing : In (succeeded close) l → ⊥
  pub delivery : (bytes : List ℕ) → In (succeeded (deliver f true bytes)) l → ⊥

-- the last valid delivery of frame f that answered 0 brought these data, and no closing has come since
pub data LastDelivery (f : ℕ) (bytes : List ℕ) : List Answered → Type 0 where
  last : {l : List Answered} → NoneSince f l → LastDelivery f bytes (succeeded (deliver f true bytes) ∷ l)
  among : {a : Answered} {l : List Answered} → LastDelivery f bytes l → LastDelivery f bytes (a ∷ l)

-- ---- two rounds

-- no closing is among the calls: they belong to one round
abbrev pub OneRound : List Call → Type 0
OneRound l = In close l → ⊥

-- field x's frame was validly delivered in both lists of calls or in neither, and what came last has the same field bits and the same status bit
pub record SameArrival (layout : Layout) (x : FieldRecord) (l l' : List Answered) : Type 0 where
  pub frame : ((b : List ℕ) × LastDelivery x.frame b l) ↔ ((b : List ℕ) × LastDelivery x.frame b l')
  pub bits : (b b' : List ℕ) → LastDelivery x.frame b l → LastDelivery x.frame b' l' → Agree b b' (message_places layout x)
  pub status : (b b' : List ℕ) → LastDelivery x.frame b l → LastDelivery x.frame b' l' → Agree b b' (its_status_places layout x)

-- two rounds, l from node n and l' from n' on, agree on the layout, on message m's earlier values, and on what came of it
pub record SameOwnRound (n n' : Node) (l l' : List Call) (m : ℕ) : Type 0 where
  pub layout : n.layout ≡ n'.layout
  pub values : SameValues (state_at n.state m) (state_at n'.state m)
  pub begins : NoneDelivered n × NoneDelivered n'
  pub ends : OneRound l × OneRound l'
  pub fields : (d : ℕ) → is_in d (cells_of n.layout (Owner.Message m)) ≡ true
      → SameArrival n.layout (laid_at n.layout d) (answered n l) (answered n' l')
