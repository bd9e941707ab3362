-- Replicas: one received message in two layouts, and the rounds in which it comes alike to two nodes that have them. Its number and the numbers of its
-- frames may differ, and so may all other messages and frames.
-- Assumes nothing.
use Rattle.std.specs.Prelude.{◌≡◌, true, List, [], ◌∷◌, ℕ}
use Rattle.record.specs.declared.Field.{Field as FieldRecord}
use Rattle.store.specs.declared.Message.{Message}
use Rattle.store.specs.Node.{Layout, Node, frame_at, message_at, state_at}
use Rattle.own.specs.declared.Owner.{Owner}
use Rattle.own.specs.Own.{fields_of}
use Rattle.closing.specs.Closing.{is_received}
use Rattle.order.specs.Own.{SameValues, SameInstance}

-- ---- two by two

-- the lists have as many elements, and the first of one and the first of the other are related, the second and the second, and so on
abbrev pub Pairwise : {A : Type 0} → (A → A → Type 0) → List A → List A → Type 0
Pairwise R [] [] = Unit {0}
Pairwise R [] (y ∷ k) = ⊥
Pairwise R (x ∷ l) [] = ⊥
Pairwise R (x ∷ l) (y ∷ k) = R x y × Pairwise R l k

-- so are the fields of message m in layout l and those of message m' in layout l', each in frame order
abbrev pub FieldByField : (FieldRecord → FieldRecord → Type 0) → Layout → Layout → ℕ → ℕ → Type 0
FieldByField R l l' m m' = Pairwise R (fields_of l (Owner.Message m)) (fields_of l' (Owner.Message m'))

-- ---- two layouts

-- the two messages have the same width, sign, agreement, filter and words x1, x2
pub record SameMessage (g g' : Message) : Type 0 where
  pub width : g.width ≡ g'.width
  pub sign : g.sign ≡ g'.sign
  pub agreement : g.agreement ≡ g'.agreement
  pub filter : g.filter ≡ g'.filter
  pub x1 : g.x1 ≡ g'.x1
  pub x2 : g.x2 ≡ g'.x2

-- the two fields lie alike: in frames of the same length and order, from the same start bit on, and with the same status bit or none
pub record LieAlike (l l' : Layout) (x x' : FieldRecord) : Type 0 where
  pub length : (frame_at l x.frame).length ≡ (frame_at l' x'.frame).length
  pub order : (frame_at l x.frame).order ≡ (frame_at l' x'.frame).order
  pub start : x.start ≡ x'.start
  pub status : x.status ≡ x'.status
  pub place : x.place ≡ x'.place

-- both are received, are the same message, and have fields that lie alike
pub record Replicas (l l' : Layout) (m m' : ℕ) : Type 0 where
  pub received : is_received l m ≡ true
  pub received' : is_received l' m' ≡ true
  pub message : SameMessage (message_at l m) (message_at l' m')
  pub fields : FieldByField (LieAlike l l') l l' m m'

-- ---- two nodes

-- the two nodes agree on the message's earlier values, and the same of its frames came to both, with the same own bits
pub record CameAlike (n n' : Node) (m m' : ℕ) : Type 0 where
  pub values : SameValues (state_at n.state m) (state_at n'.state m')
  pub fields : FieldByField (SameInstance n n') n.layout n'.layout m m'
