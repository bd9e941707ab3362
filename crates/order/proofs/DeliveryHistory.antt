-- The deliveries' history. A call forgets the delivery of a frame, puts its own data in its place, or leaves it, and by its answer one sees which. So
-- what stands after a list of calls is what the last of them put that nothing has replaced since, or, if none did, what stood before. By induction
-- on the calls.
-- Assumes nothing.
use mathlib.Core.Path.{◌≡◌, refl, sym, ap, subst, ◌∙◌}
use mathlib.Core.Bool.{Bool, true, false, true≢false}
use mathlib.Core.List.{List, [], ◌∷◌}
use mathlib.Core.Logic.{◌↔◌, ◌⊎◌, inl, inr, ⊎_elim}
use Prim.Native.Nat.{ℕ, ◌<◌}
use native.Mathlib.Decide.{ℕ_discrete}
use native.Mathlib.Omega.{arith}
use lib.Dec.{eqb}
use lib.ListN.{length}
use lib.Seq.{get_or-set_same, get_or-set_other}
use Rattle.store.specs.Node.{State, Node, is_delivered, frame_at, delivery_at, no_delivery}
use Rattle.start.specs.Start.{start_state}
use Rattle.node.specs.Calls.{
  outcome,
  send_answer,
  send_of,
  invalidate_answer,
  invalidate_of,
  assemble_answer,
  assemble_of,
  consumed_answer,
  consumed_of,
  deliver_answer,
  kept,
  deliver_of,
}
use Rattle.node.specs.Load.{load_of}
use Rattle.node.specs.Sound.{Sound}
use Rattle.node.proofs.Answers.{deliver_tests}
use Rattle.node.proofs.Closed.{delivery_closed}
use Rattle.node.proofs.Delivered.{kept_data}
use Rattle.node.proofs.Starts.{load_makes}
use Rattle.own.proofs.Lists.{by_test}
use Rattle.own.proofs.Tables.{alike_at}
use Rattle.calls.specs.Relations.{Call, send, invalidate, assemble, consumed, read_flag, deliver, close, receive, answer_of, next, final}
use Rattle.order.specs.Order.{In, here, there}
use Rattle.order.specs.Flag.{Answered, with_answer, succeeded, answered}
use Rattle.order.specs.Deliveries.{DeliveredWith, NoneDelivered, NoneSince, LastDelivery, last, among}
use Rattle.order.proofs.Constructors.{clash, same_delivery}
use Rattle.order.proofs.Among.{in_none, in_cases, in_eq}
use Rattle.order.proofs.Kept.{kept_layout, kept_sound}
use Rattle.order.proofs.Refusals.{refused}

-- ---- what a load and a closing leave

pub none_loaded : (n : Node) (file : List ℕ) → (load_of n file).answer ≡ 0 → NoneDelivered (load_of n file).node
unfolding start_state
none_loaded n file ok f known = rw ((load_makes n file ok).node, alike_at no_delivery 32 f) refl

pub none_closed : {n : Node} → Sound n → NoneDelivered (next n close)
none_closed s f known = rw (delivery_closed s f known) refl

-- ---- one call

-- the call was answered as call a with answer 0 is
abbrev Is : Node → Call → Call → Type 0
Is n c a = succeeded a ≡ with_answer n c

-- what a call does to the delivery of frame f
data Touch (f : ℕ) (n : Node) (c : Call) : Type 0 where
  forgets : Is n c close → is_delivered (delivery_at (next n c).state f) ≡ false → Touch f n c
  puts : (b : List ℕ) → Is n c (deliver f true b) → DeliveredWith (next n c) f b → Touch f n c
  leaves : (Is n c close → ⊥) → ((b : List ℕ) → Is n c (deliver f true b) → ⊥) → delivery_at (next n c).state f ≡ delivery_at n.state f → Touch f n c

-- a closing and a delivery may touch deliveries, and no other call does
abbrev may_touch : Call → Bool
may_touch (send m v) = false
may_touch (invalidate m) = false
may_touch (assemble f b) = false
may_touch (consumed f) = false
may_touch (read_flag m p) = false
may_touch (deliver f valid b) = true
may_touch close = true
may_touch (receive m p) = false

module _ (n : Node) (c a : Call) (e : Is n c a) where
  same_call : a ≡ c
  same_call = ap (λ (k : Answered). k.call) e

  answered_0 : answer_of n c ≡ 0
  answered_0 = sym (ap (λ (k : Answered). k.answer) e)

no_closing : {g : ℕ} {valid : Bool} {b : List ℕ} → close ≡ deliver g valid b → ⊥
no_closing e = clash cc

module _ {n : Node} (s : Sound n) {f : ℕ} (known : f < n.layout.frame_number) where
  -- a valid delivery of frame f that answers 0
  put_delivery : (b : List ℕ) → answer_of n (deliver f true b) ≡ 0 → DeliveredWith (next n (deliver f true b)) f b
  unfolding deliver_of kept
  put_delivery b ok =
      let room : f < length n.state.deliveries = omega (arith, s.layout.few_frames, s.state.delivery_cells) in
      let size = (deliver_tests n.layout f (length b) ok).1 in
      let stands = get_or-set_same n.state.deliveries f (kept (delivery_at n.state f) b) no_delivery room in
      let bytes = kept_data (frame_at n.layout f) (delivery_at n.state f) b (s.state.deliveries f known) (s.layout.frames f known).length_to size in
      rw ok (record { delivered = rw stands refl; same = rw stands bytes })

  -- a call that is neither a closing nor a delivery leaves every delivery
  other : (c : Call) → may_touch c ≡ false → delivery_at (next n c).state f ≡ delivery_at n.state f → Touch f n c
  other c t stays =
      leaves (λ e. true≢false (ap may_touch (same_call n c close e) ∙ t)) (λ b e. true≢false (ap may_touch (same_call n c (deliver f true b) e) ∙ t)) stays

  -- whether it is refused or not
  either_way : (a : ℕ) (k : State) → k.deliveries ≡ n.state.deliveries → delivery_at (outcome a k n).node.state f ≡ delivery_at n.state f
  either_way a k e = by_test (λ (j : State). delivery_at j f ≡ delivery_at n.state f) (eqb a 0) (λ t. rw e refl) (λ t. refl)

  -- a delivery puts its data if it is valid, answered 0, and of this frame
  delivery_touch : (g : ℕ) (valid : Bool) (b : List ℕ) → Dec (answer_of n (deliver g valid b) ≡ 0) → Dec (g ≡ f) → Touch f n (deliver g valid b)
  unfolding deliver_of
  delivery_touch g valid b (no refuses) k =
      leaves (λ e. refuses (answered_0 n _ close e)) (λ c e. refuses (answered_0 n _ (deliver f true c) e))
      (ap (λ (k : Node). delivery_at k.state f) (refused n (deliver g valid b) refuses).0)
  delivery_touch g false b (yes ok) k =
      leaves (λ e. no_closing (same_call n _ close e)) (λ c e. true≢false (same_delivery (same_call n _ (deliver f true c) e)).1)
      (either_way (deliver_answer n.layout g (length b)) n.state refl)
  delivery_touch g true b (yes ok) (no elsewhere) =
      leaves (λ e. no_closing (same_call n _ close e)) (λ c e. elsewhere (sym (same_delivery (same_call n _ (deliver f true c) e)).0))
      (rw ok (get_or-set_other n.state.deliveries g f _ no_delivery (λ e. elsewhere (sym e))))
  delivery_touch g true b (yes ok) (yes same) =
      rw same (puts b (ap (λ (a : ℕ). record { call = deliver f true b; answer = a }) (sym (rw same at ok))) (put_delivery b (rw same at ok)))

  touch : (c : Call) → Touch f n c
  unfolding send_of invalidate_of assemble_of consumed_of
  touch (send m v) = other (send m v) refl (either_way (send_answer n.layout m v) _ refl)
  touch (invalidate m) = other (invalidate m) refl (either_way (invalidate_answer n.layout m) _ refl)
  touch (assemble g b) = other (assemble g b) refl (either_way (assemble_answer n g (length b)) _ refl)
  touch (consumed g) = other (consumed g) refl (either_way (consumed_answer n.layout g) _ refl)
  touch (read_flag m p) = other (read_flag m p) refl refl
  touch (deliver g valid b) = delivery_touch g valid b (ℕ_discrete _ 0) (ℕ_discrete g f)
  touch close = forgets refl (none_closed s f known)
  touch (receive m p) = other (receive m p) refl refl

-- ---- all calls of a list

module _ (f : ℕ) (b : List ℕ) where
  -- the data of frame f after the calls were put by the last delivery, or stood before and still do
  abbrev Stands : Node → List Call → Type 0
  Stands n l = LastDelivery f b (answered n l) ⊎ (DeliveredWith n f b × NoneSince f (answered n l))

  last_in : {l : List Answered} → LastDelivery f b l → In (succeeded (deliver f true b)) l
  last_in (last none) = here
  last_in (among k) = there (last_in k)

  last_cases : {a : Answered} {l : List Answered} → LastDelivery f b (a ∷ l) → ((succeeded (deliver f true b) ≡ a) × NoneSince f l) ⊎ LastDelivery f b l
  last_cases (last none) = inl (refl, none)
  last_cases (among k) = inr k

  last_eq : {a : Answered} {l : List Answered} → succeeded (deliver f true b) ≡ a → NoneSince f l → LastDelivery f b (a ∷ l)
  last_eq {l = l} e none = subst (λ (a : Answered). LastDelivery f b (a ∷ l)) e (last none)

  -- the same delivery in another node of the layout
  same_delivered : {n n' : Node} → n.layout ≡ n'.layout → delivery_at n.state f ≡ delivery_at n'.state f
      → DeliveredWith n f b → DeliveredWith n' f b
  same_delivered layout same w =
      record { delivered = rw same at w.delivered; same = rw (layout, same) at w.same }

  module _ {n : Node} {c : Call} (l : List Call) where
    -- what stood before the first call stands after it exactly if the call leaves it, and what the call put stands after it
    after : Touch f n c → Stands (next n c) l → Stands n (c ∷ l)
    after x (inl k) = inl (among k)
    after (forgets e none) (inr (w, since)) = absurd (true≢false (sym w.delivered ∙ none))
    after (puts b' e w) (inr (w', since)) =
        let same : b ≡ b' = sym w'.same ∙ w.same in
        inl (last_eq (ap (λ (z : List ℕ). succeeded (deliver f true z)) same ∙ e) since)
    after (leaves closing delivery same) (inr (w, since)) =
        inr (
          same_delivered (kept_layout n c) same w,
          record {
            closing = λ i. ⊎_elim closing since.closing (in_cases i);
            delivery = λ z i. ⊎_elim (delivery z) (since.delivery z) (in_cases i);
          },
        )

    before : Touch f n c → Stands n (c ∷ l) → Stands (next n c) l
    before (forgets e none) (inl k) =
        ⊎_elim (λ now. absurd (no_closing (ap (λ (a : Answered). a.call) (e ∙ sym now.0)))) (λ j. inl j) (last_cases k)
    before (forgets e none) (inr (w, since)) = absurd (since.closing (in_eq e))
    before (puts b' e w) (inl k) =
        ⊎_elim
        (λ now. let same = (same_delivery (ap (λ (a : Answered). a.call) (e ∙ sym now.0))).2 in
        inr (record { delivered = w.delivered; same = w.same ∙ same }, now.1))
        (λ j. inl j) (last_cases k)
    before (puts b' e w) (inr (w', since)) = absurd (since.delivery b' (in_eq e))
    before (leaves closing delivery same) (inl k) = ⊎_elim (λ now. absurd (delivery b now.0)) (λ j. inl j) (last_cases k)
    before (leaves closing delivery same) (inr (w, since)) =
        inr (
          same_delivered (sym (kept_layout n c)) (sym same) w,
          record { closing = λ i. since.closing (there i); delivery = λ z i. since.delivery z (there i) },
        )

  history : {n : Node} → Sound n → f < n.layout.frame_number → (l : List Call) → DeliveredWith (final n l) f b ↔ Stands n l
  history s known [] = (
    λ w. inr (w, record { closing = λ i. in_none i; delivery = λ z i. in_none i }),
    λ k. ⊎_elim (λ j. absurd (in_none (last_in j))) (λ w. w.0) k,
  )
  history {n = n} s known (c ∷ l) =
      let rest = history {n = next n c} (kept_sound s c) (rw (kept_layout n c) known) l in
      let x = touch s known c in
      (λ w. after l x (rest.0 w), λ k. rest.1 (before l x k))

-- after any calls on a node to which nothing is delivered, a frame counts as delivered with the data of the last valid delivery of it that answered 0
-- since the last closing, and with no others
pub delivery_history : {n : Node} → Sound n → NoneDelivered n → (l : List Call) (f : ℕ) → f < n.layout.frame_number → (b : List ℕ)
    → DeliveredWith (final n l) f b ↔ LastDelivery f b (answered n l)
delivery_history s none l f known b =
    let all = history f b s known l in (
      λ w. ⊎_elim (λ k. k) (λ stood. absurd (true≢false (sym stood.0.delivered ∙ none f known))) (all.0 w),
      λ k. all.1 (inl k),
    )
