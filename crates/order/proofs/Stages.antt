-- A field through a list of calls. Each call leaves its stage or takes it one step: a send of its message makes it waiting, an assembly of its
-- frame makes a waiting one loaded, and a consumption of its frame a loaded one gone. So until its message is sent again, a waiting field is gone in
-- the end exactly if its frame has gone out, and a loaded one exactly if its frame has been consumed. By induction on the calls.
-- Assumes nothing.
use mathlib.Core.Path.{◌≡◌, refl, sym, ap, ◌∙◌}
use mathlib.Core.Bool.{true, cond, false≢true}
use mathlib.Core.List.{List, [], ◌∷◌}
use mathlib.Core.Logic.{◌↔◌, ⊎_elim}
use Prim.Native.Nat.{ℕ, ◌<◌}
use native.Mathlib.Omega.{arith}
use lib.Dec.{eqb}
use lib.IntN.{ℤ}
use lib.ListN.{length}
use borrow.Author.Tests.{eqb-true, eq-eqb}
use Rattle.store.specs.declared.Stage.{Stage}
use Rattle.store.specs.declared.Stage.TheVariants.{Waiting, Loaded, Gone}
use Rattle.store.specs.Node.{State, Node, laid_at, stage_at, no_stage}
use Rattle.message.specs.declared.Change.{Change}
use Rattle.message.specs.Fields.{stage_after, is_gone}
use Rattle.own.specs.declared.Owner.{Owner}
use Rattle.own.specs.Own.{is_in, names, cells_of}
use Rattle.node.specs.Calls.{outcome, moved, send_answer, send_of, invalidate_answer, invalidate_of}
use Rattle.node.specs.Calls.{assemble_answer, assemble_of, consumed_answer, consumed_of, gone_at, deliver_answer, deliver_of}
use Rattle.closing.specs.Closing.{close_messages, forget, close_of}
use Rattle.node.specs.Sound.{Sound}
use Rattle.own.proofs.Lists.{by_test, changed_at}
use Rattle.own.proofs.Owners.{fields_named}
use Rattle.calls.specs.Relations.{Call, send, invalidate, assemble, consumed, read_flag, deliver, close, receive, answer_of, next, final}
use Rattle.order.specs.Order.{In, here, there, first, later}
use Rattle.order.specs.Flag.{Answered, with_answer, succeeded, answered, Sent, GoesOut}
use Rattle.order.proofs.Among.{in_none, in_cases, before_in, before_cases}
use Rattle.order.proofs.Kept.{kept_layout, kept_sound}
use Rattle.order.proofs.Carried.{FieldOf}

-- ---- one call

-- the call takes a field of message m in frame f from one stage to another
data Takes (m f : ℕ) (n : Node) : Call → Stage → Stage → Type 0 where
  sent : {v : ℤ} {s : Stage} → answer_of n (send m v) ≡ 0 → Takes m f n (send m v) s Waiting
  loaded : {b : List ℕ} → answer_of n (assemble f b) ≡ 0 → Takes m f n (assemble f b) Waiting Loaded
  gone : answer_of n (consumed f) ≡ 0 → Takes m f n (consumed f) Loaded (Gone 2)
  stays : {c : Call} {s : Stage} → Takes m f n c s s

module _ {m f : ℕ} {n : Node} where
  send_takes : {v : ℤ} (s : Stage) → answer_of n (send m v) ≡ 0 → Takes m f n (send m v) s (stage_after Change.Send s)
  send_takes Waiting a = sent a
  send_takes Loaded a = sent a
  send_takes (Gone k) a = sent a

  assemble_takes : {b : List ℕ} (s : Stage) → answer_of n (assemble f b) ≡ 0 → Takes m f n (assemble f b) s (stage_after Change.Load s)
  assemble_takes Waiting a = loaded a
  assemble_takes Loaded a = stays
  assemble_takes (Gone k) a = stays

  consumed_takes : (s : Stage) → answer_of n (consumed f) ≡ 0 → Takes m f n (consumed f) s (stage_after Change.Consume s)
  consumed_takes Waiting a = stays
  consumed_takes Loaded a = gone a
  consumed_takes (Gone k) a = stays

-- call c was answered as call a with answer 0 is: it is that call, and was answered 0
by_done : (n : Node) (a : Call) (P : Call → Type 0) → (answer_of n a ≡ 0 → P a) → (c : Call) → succeeded a ≡ with_answer n c → P c
by_done n a P h c e =
    let call : a ≡ c = ap (λ (k : Answered). k.call) e in
    let answer : answer_of n c ≡ 0 = sym (ap (λ (k : Answered). k.answer) e) in
    rw call at (h (rw call answer))

module _ {n : Node} {d m f : ℕ} (s : Sound n) (x : FieldOf n.layout d m f) where
  abbrev stage : Stage
  stage = stage_at n.state d

  moved_at : (k : Change) (o : Owner) → stage_at (moved k o n) d ≡ cond (is_in d (cells_of n.layout o)) (stage_after k stage) stage
  moved_at k o =
      let room : d < length n.state.stages = omega (arith, x.known, s.layout.few_fields, s.state.stage_cells) in
      changed_at _ _ n.state.stages d no_stage room

  -- the fields of an owner move on
  moved_own : (k : Change) (o : Owner) → names o (laid_at n.layout d) ≡ true → stage_at (moved k o n) d ≡ stage_after k stage
  moved_own k o t = rw (moved_at k o, (fields_named s.layout o d).1 (x.known, t)) refl

  -- the call takes it to its stage in state r
  abbrev To : Call → State → Type 0
  To c r = Takes m f n c stage (stage_at r d)

  -- all others stay, and so do all if the call is refused
  by_owner : (c : Call) (k : Change) (o : Owner) → (names o (laid_at n.layout d) ≡ true → Takes m f n c stage (stage_after k stage))
      → To c (moved k o n)
  by_owner c k o mine =
      rw (moved_at k o)
      (by_test (Takes m f n c stage) (is_in d (cells_of n.layout o)) (λ t. mine ((fields_named s.layout o d).0 t).1) (λ t. stays))

  by_answer : (c : Call) (a : ℕ) (r : State) → (a ≡ 0 → To c r) → To c (outcome a r n).node.state
  by_answer c a r h = by_test (To c) (eqb a 0) (λ t. h (eqb-true a 0 t)) (λ t. stays)

  takes : (c : Call) → To c (next n c).state
  unfolding send_of invalidate_of assemble_of consumed_of deliver_of close_of close_messages forget
  takes (send i v) =
      by_answer (send i v) (send_answer n.layout i v) _
      (λ a. by_owner (send i v) Change.Send (Owner.Message i)
      (λ t. let mine : i ≡ m = sym (eqb-true _ i t) ∙ x.message in rw mine (send_takes stage (rw mine at a))))
  takes (invalidate i) = by_answer (invalidate i) (invalidate_answer n.layout i) _ (λ a. stays)
  takes (assemble i b) =
      by_answer (assemble i b) (assemble_answer n i (length b)) _
      (λ a. by_owner (assemble i b) Change.Load (Owner.Frame i)
      (λ t. let mine : i ≡ f = sym (eqb-true _ i t) ∙ x.frame in rw mine (assemble_takes stage (rw mine at a))))
  takes (consumed i) =
      by_answer (consumed i) (consumed_answer n.layout i) _
      (λ a. by_owner (consumed i) Change.Consume (Owner.Frame i)
      (λ t. let mine : i ≡ f = sym (eqb-true _ i t) ∙ x.frame in rw mine (consumed_takes stage (rw mine at a))))
  takes (read_flag i p) = stays
  takes (deliver i valid b) =
      by_answer (deliver i valid b) (deliver_answer n.layout i (length b)) _ (λ a. by_test (To (deliver i valid b)) valid (λ t. stays) (λ t. stays))
  takes close = stays
  takes (receive i p) = stays

  -- the calls that move it
  pub send_waiting : (v : ℤ) → answer_of n (send m v) ≡ 0 → stage_at (next n (send m v)).state d ≡ Waiting
  unfolding send_of
  send_waiting v a = rw a (moved_own Change.Send (Owner.Message m) (eq-eqb _ m x.message) ∙ waiting stage)
    where
      waiting : (t : Stage) → stage_after Change.Send t ≡ Waiting
      waiting Waiting = refl
      waiting Loaded = refl
      waiting (Gone k) = refl

  assemble_loads : (b : List ℕ) (c : Call) → succeeded (assemble f b) ≡ with_answer n c → stage_at (next n c).state d ≡ stage_after Change.Load stage
  unfolding assemble_of
  assemble_loads b =
      by_done n (assemble f b) (λ (c : Call). stage_at (next n c).state d ≡ stage_after Change.Load stage)
      (λ a. rw a (moved_own Change.Load (Owner.Frame f) (eq-eqb _ f x.frame)))

  consumed_goes : (c : Call) → succeeded (consumed f) ≡ with_answer n c → stage_at (next n c).state d ≡ stage_after Change.Consume stage
  unfolding consumed_of
  consumed_goes =
      by_done n (consumed f) (λ (c : Call). stage_at (next n c).state d ≡ stage_after Change.Consume stage)
      (λ a. rw a (moved_own Change.Consume (Owner.Frame f) (eq-eqb _ f x.frame)))

-- ---- all calls of a list

-- what the calls must hold for a field of frame f at the stage to be gone after them
abbrev Goes : Stage → Node → ℕ → List Call → Type 0
Goes Waiting n f l = GoesOut n f l
Goes Loaded n f l = In (succeeded (consumed f)) (answered n l)
Goes (Gone k) n f l = Unit {0}

at_end : (n : Node) (f : ℕ) (s : Stage) → (is_gone s ≡ true) ↔ Goes s n f []
at_end n f Waiting = (λ e. absurd (false≢true e), λ g. absurd (in_none (before_in g.1)))
at_end n f Loaded = (λ e. absurd (false≢true e), λ i. absurd (in_none i))
at_end n f (Gone k) = (λ e. tt, λ u. refl)

module _ (l : List Call) where
  -- a stage further on asks for no more
  further : {m f : ℕ} {n : Node} {c : Call} {s t : Stage} → (Sent n m (c ∷ l) → ⊥) → Takes m f n c s t → Goes s (next n c) f l → Goes t (next n c) f l
  further latest (sent {v = v} a) g = absurd (latest (v, rw a here))
  further latest (loaded a) g = before_in g.1
  further latest (gone a) g = tt
  further latest stays g = g

  -- what the calls hold for a stage, those after the first hold for the stage that the first takes it to
  after : {d m f : ℕ} {n : Node} {c : Call} → Sound n → FieldOf n.layout d m f → (Sent n m (c ∷ l) → ⊥)
      → (t : Stage) → stage_at n.state d ≡ t → Goes t n f (c ∷ l) → Goes (stage_at (next n c).state d) (next n c) f l
  after {c = c} s x latest Waiting e g =
      ⊎_elim (λ now. rw (assemble_loads s x g.0 c now.0, e) now.1) (λ k. further latest (rw e at (takes s x c)) (g.0, k))
      (before_cases g.1)
  after {c = c} s x latest Loaded e i =
      ⊎_elim (λ now. rw (consumed_goes s x c now, e) tt) (further latest (rw e at (takes s x c))) (in_cases i)
  after {c = c} s x latest (Gone k) e u = further latest (rw e at (takes s x c)) tt

  -- and the other way round
  before : {m f : ℕ} {n : Node} {c : Call} {s t : Stage} → (Sent n m (c ∷ l) → ⊥) → Takes m f n c s t → Goes t (next n c) f l → Goes s n f (c ∷ l)
  before latest (sent {v = v} a) g = absurd (latest (v, rw a here))
  before latest (loaded {b = b} a) i = (b, rw a (first i))
  before latest (gone a) g = rw a here
  before latest (stays {s = Waiting}) g = (g.0, later g.1)
  before latest (stays {s = Loaded}) i = there i
  before latest (stays {s = Gone k}) u = tt

pub field_history : {d m f : ℕ} {n : Node} → Sound n → FieldOf n.layout d m f → (l : List Call) → (Sent n m l → ⊥)
    → (gone_at (final n l).state d ≡ true) ↔ Goes (stage_at n.state d) n f l
field_history {d = d} {m = m} {f = f} {n = n} s x [] latest = at_end n f (stage_at n.state d)
field_history {d = d} {m = m} {f = f} {n = n} s x (c ∷ l) latest =
    let kept : FieldOf (next n c).layout d m f = rw (kept_layout n c) x in
    let rest = field_history {n = next n c} (kept_sound s c) kept l (λ t. latest (t.0, there t.1)) in
    (λ t. before l latest (takes s x c) (rest.0 t), λ g. rest.1 (after l s x latest (stage_at n.state d) refl g))
