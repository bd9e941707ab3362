-- The cells of the state: which of them a call may write and read, by what it names. The layout alone says it, and no call changes the layout. Two
-- names which are not linked share no cell that one of them writes: a stage that is a message's and a frame's is that of a field which names both.
-- Assumes nothing.
use mathlib.Core.Path.{◌≡◌, refl, sym, ap, ◌∙◌}
use mathlib.Core.Bool.{Bool, true, false, true≢false, false≢true, not-eq-not}
use Prim.Native.Nat.{ℕ}
use lib.Dec.{eqb}
use borrow.Author.Tests.{eqb-true, eqb-false, eq-eqb, ne_eqb}
use Rattle.store.specs.Node.{Layout, laid_at}
use Rattle.own.specs.declared.Owner.{Owner}
use Rattle.own.specs.Own.{is_in, cells_of}
use Rattle.own.proofs.Owners.{cell_names}
use Rattle.order.specs.Order.{Name, message, frame, all, carries, linked}
use Rattle.order.proofs.Carried.{carrying}

-- a message's state, a frame's delivery, a field's stage
pub data Cell : Type 0 where
  state_cell : ℕ → Cell
  delivery_cell : ℕ → Cell
  stage_cell : ℕ → Cell

-- a call may write the message's state or the frame's delivery, and the stages of its fields; a closing every cell
abbrev pub writes : Layout → Name → Cell → Bool
writes l (message m) (state_cell i) = eqb i m
writes l (message m) (delivery_cell j) = false
writes l (message m) (stage_cell k) = is_in k (cells_of l (Owner.Message m))
writes l (frame f) (state_cell i) = false
writes l (frame f) (delivery_cell j) = eqb j f
writes l (frame f) (stage_cell k) = is_in k (cells_of l (Owner.Frame f))
writes l all c = true

-- and it reads these; one that names a frame also the states of the messages that the frame carries
abbrev pub reads : Layout → Name → Cell → Bool
reads l (message m) c = writes l (message m) c
reads l (frame f) (state_cell i) = carries l f i
reads l (frame f) (delivery_cell j) = eqb j f
reads l (frame f) (stage_cell k) = is_in k (cells_of l (Owner.Frame f))
reads l all c = true

pub writes_reads : (l : Layout) (a : Name) (c : Cell) → writes l a c ≡ true → reads l a c ≡ true
writes_reads l (message m) c t = t
writes_reads l (frame f) (state_cell i) t = absurd (false≢true t)
writes_reads l (frame f) (delivery_cell j) t = t
writes_reads l (frame f) (stage_cell k) t = t
writes_reads l all c t = t

-- ---- a cell that one name writes and another reads links them

both : (i j k : ℕ) → eqb k i ≡ true → eqb k j ≡ true → eqb i j ≡ true
both i j k p q = eq-eqb i j (sym (eqb-true k i p) ∙ eqb-true k j q)

conflict : (l : Layout) (a b : Name) (c : Cell) → writes l a c ≡ true → reads l b c ≡ true → linked l a b ≡ true
conflict l (message m) (message j) (state_cell i) p q = both m j i p q
conflict l (message m) (message j) (delivery_cell k) p q = absurd (false≢true p)
conflict l (message m) (message j) (stage_cell k) p q =
    both m j (laid_at l k).message (cell_names l (Owner.Message m) k p) (cell_names l (Owner.Message j) k q)
conflict l (message m) (frame f) (state_cell i) p q = ap (carries l f) (sym (eqb-true i m p)) ∙ q
conflict l (message m) (frame f) (delivery_cell k) p q = absurd (false≢true p)
conflict l (message m) (frame f) (stage_cell k) p q = (carrying l f m).1 (k, q, cell_names l (Owner.Message m) k p)
conflict l (message m) all c p q = refl
conflict l (frame f) (message m) (state_cell i) p q = absurd (false≢true p)
conflict l (frame f) (message m) (delivery_cell k) p q = absurd (false≢true q)
conflict l (frame f) (message m) (stage_cell k) p q = (carrying l f m).1 (k, p, cell_names l (Owner.Message m) k q)
conflict l (frame f) (frame j) (state_cell i) p q = absurd (false≢true p)
conflict l (frame f) (frame j) (delivery_cell k) p q = both f j k p q
conflict l (frame f) (frame j) (stage_cell k) p q = both f j (laid_at l k).frame (cell_names l (Owner.Frame f) k p) (cell_names l (Owner.Frame j) k q)
conflict l (frame f) all c p q = refl
conflict l all b c p q = refl

-- what one reads the other does not write
pub apart : (l : Layout) (a b : Name) → linked l a b ≡ false → (c : Cell) → reads l b c ≡ true → writes l a c ≡ false
apart l a b u c r = (not-eq-not {b = false}).0 (λ w. true≢false (sym (conflict l a b c w r) ∙ u))

pub not_linked : (l : Layout) (a b : Name) → linked l a b ≡ false → linked l b a ≡ false
not_linked l (message i) (message j) u = ne_eqb j i (λ e. eqb-false i j u (sym e))
not_linked l (message m) (frame f) u = u
not_linked l (message m) all u = u
not_linked l (frame f) (message m) u = u
not_linked l (frame i) (frame j) u = ne_eqb j i (λ e. eqb-false i j u (sym e))
not_linked l (frame f) all u = u
not_linked l all b u = absurd (true≢false u)
