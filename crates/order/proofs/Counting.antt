-- The frame order of the counting instances, what they agree on, and what a receive shows of it. The fields of a message stand in its cells in the order
-- of their numbers, and their frames rise with them; so of those that take part the first has the lowest frame, and pick any takes the first. A mean is
-- refused only to what are no message values, and the instances of a sound message are: eight at most, each in its range.
-- Assumes nothing.
use mathlib.Core.Path.{◌≡◌, refl, sym, ap, ◌∙◌}
use mathlib.Core.Bool.{Bool, true, false, not, cond, ◌&&◌, and-true, or-true, true≢false, false≢true}
use mathlib.Core.List.{List, [], ◌∷◌, map, map-map}
use mathlib.Core.Logic.{◌↔◌, ◌⊎◌, inl, inr}
use Prim.Native.Nat.{ℕ, ◌<◌, ◌≤◌}
use native.Mathlib.Decide.{dec_lt}
use native.Mathlib.Nat.{eq-or-lt_of_le}
use native.Mathlib.Omega.{arith}
use lib.Dec.{eqb}
use lib.IntN.{ℤ}
use lib.ListN.{length, length-map}
use borrow.Author.Tests.{eqb-true, eq-eqb, not-true}
use Rattle.std.specs.Prelude.{Some}
use Rattle.packing.specs.Values.{pattern_of}
use Rattle.float.specs.Patterns.{aside}
use Rattle.agreement.specs.Agreement.{mean_of, agreed}
use Rattle.agreement.specs.Floats.{left_of, left_agreed}
use Rattle.agreement.proofs.MessageValues.{has_mean}
use Rattle.record.specs.declared.Field.{Field as FieldRecord}
use Rattle.store.specs.declared.Message.{Message}
use Rattle.store.specs.Node.{Node, is_sent, is_float, message_at, laid_at, state_at}
use Rattle.message.specs.Messages.{passes_now, agreed_by, agreed_on}
use Rattle.own.specs.declared.Owner.{Owner}
use Rattle.own.specs.Own.{chosen, is_in, Rising, cells_of, fields_of}
use Rattle.own.proofs.Lists.{by_test, in_cases, every_number, in_chosen}
use Rattle.own.proofs.Owners.{fields_named, cells_rise}
use Rattle.closing.specs.Closing.{counts, value_in, instances}
use Rattle.node.specs.Sound.{Sound}
use Rattle.closing.proofs.Instances.{agreed_in_message, instances_held}
use Rattle.closing.proofs.Rounds.{closed_some}
use Rattle.calls.specs.Relations.{close, receive, value, sees, seen_of, next}
use Rattle.order.specs.Counting.{CountingField, frame_number, carried_value, InFrameOrder, TakesPart, HasLowestFrame}
use Rattle.order.proofs.Chosen.{chosen_some, some_field}
use Rattle.order.proofs.Floats.{floats_agree}
use Rattle.order.proofs.FrameOrder.{images_rise}
use Rattle.order.proofs.Shown.{is_received_lem, passed_shown}

-- ---- lists

-- the least number of a rising list that passes a test is the first that is chosen
first_chosen : (p : ℕ → Bool) (l : List ℕ) (d : ℕ) → Rising l → is_in d l ≡ true → p d ≡ true
    → ((e : ℕ) → is_in e l ≡ true → p e ≡ true → d ≤ e) → (k : List ℕ) × (chosen p l ≡ d ∷ k)
unfolding chosen is_in
first_chosen p [] d rises there passes least = absurd (true≢false (sym there))
first_chosen p (e ∷ l) d rises there passes least =
    go (p e) refl (λ later. first_chosen p l d rises.1 later passes (λ a i. least a (rw i (or-true (eqb a e)))))
  where
    go : (b : Bool) → p e ≡ b → (is_in d l ≡ true → (k : List ℕ) × (chosen p l ≡ d ∷ k))
        → (k : List ℕ) × (cond b (e ∷ chosen p l) (chosen p l) ≡ d ∷ k)
    go true t later =
        in_cases d e l there (λ same. (chosen p l, rw same refl))
        (λ after. absurd (omega (arith, rises.0 d after, least e (rw (eq-eqb e e refl) refl) t)))
    go false t later = in_cases d e l there (λ same. absurd (true≢false (sym passes ∙ ap p same ∙ t))) later

-- and where one passes there is a least
some_least : (p : ℕ → Bool) (l : List ℕ) (d : ℕ) → Rising l → is_in d l ≡ true → p d ≡ true
    → (e : ℕ) × (is_in e l ≡ true) × (p e ≡ true) × ((a : ℕ) → is_in a l ≡ true → p a ≡ true → e ≤ a)
unfolding is_in
some_least p [] d rises there passes = absurd (true≢false (sym there))
some_least p (x ∷ l) d rises there passes = go (p x) refl (λ later. some_least p l d rises.1 later passes)
  where
    go : (b : Bool) → p x ≡ b
        → (is_in d l ≡ true → (e : ℕ) × (is_in e l ≡ true) × (p e ≡ true) × ((a : ℕ) → is_in a l ≡ true → p a ≡ true → e ≤ a))
        → (e : ℕ) × (is_in e (x ∷ l) ≡ true) × (p e ≡ true) × ((a : ℕ) → is_in a (x ∷ l) ≡ true → p a ≡ true → e ≤ a)
    go true t later = (
      x,
      rw (eq-eqb x x refl) refl,
      t,
      λ a i u. in_cases a x l i (λ same. omega arith) (λ after. omega (arith, rises.0 a after)),
    )
    go false t later =
        let (e, i, u, least) = later (in_cases d x l there (λ same. absurd (true≢false (sym passes ∙ ap p same ∙ t))) (λ after. after)) in (
          e,
          rw i (or-true (eqb e x)),
          u,
          λ a j v. in_cases a x l j (λ same. absurd (true≢false (sym v ∙ ap p same ∙ t))) (λ after. least a after v),
        )

-- what is chosen of a rising list rises
rising_chosen : (p : ℕ → Bool) (l : List ℕ) → Rising l → Rising (chosen p l)
unfolding chosen
rising_chosen p [] rises = tt
rising_chosen p (e ∷ l) rises =
    let later = rising_chosen p l rises.1 in
    by_test Rising (p e) (λ t. (λ a i. rises.0 a ((in_chosen p a l).0 i).0, later)) (λ t. later)

-- what is chosen of images is the images of what is chosen
chosen_images : {A B : Type 0} (f : A → B) (p : B → Bool) (l : List A) → chosen p (map f l) ≡ map f (chosen (λ x. p (f x)) l)
unfolding chosen
chosen_images f p [] = refl
chosen_images {A} {B} f p (x ∷ l) = go (p (f x)) (chosen_images f p l)
  where
    go : (b : Bool) → chosen p (map f l) ≡ map f (chosen (λ x. p (f x)) l)
        → cond b (f x ∷ chosen p (map f l)) (chosen p (map f l)) ≡ map f (cond b (x ∷ chosen (λ x. p (f x)) l) (chosen (λ x. p (f x)) l))
    go true later = ap (λ (r : List B). f x ∷ r) later
    go false later = later

-- ---- those that take part

module _ (n : Node) (g : Message) where
  takes_part : FieldRecord → Bool
  takes_part x = counts n x && not (is_float g && aside (pattern_of 32 (value_in n g x)))

  part_test : (x : FieldRecord)
      → (takes_part x ≡ true) ↔ ((counts n x ≡ true) × (is_float g ≡ true → aside (pattern_of 32 (value_in n g x)) ≡ false))
  unfolding takes_part
  part_test x = go (counts n x) (is_float g) (aside (pattern_of 32 (value_in n g x)))
    where
      go : (a b c : Bool) → ((a && not (b && c)) ≡ true) ↔ ((a ≡ true) × (b ≡ true → c ≡ false))
      go true true c = (λ t. (refl, λ u. not-true c t), λ h. rw (h.1 refl) refl)
      go true false c = (λ t. (refl, λ u. absurd (false≢true u)), λ h. refl)
      go false b c = (λ t. absurd (false≢true t), λ h. absurd (false≢true h.0))

  -- of whole numbers all that count
  all_part : is_float g ≡ false → (l : List FieldRecord) → chosen takes_part l ≡ chosen (counts n) l
  unfolding chosen takes_part
  all_part whole [] = refl
  all_part whole (x ∷ l) = rw (all_part whole l, whole, and-true (counts n x)) refl

  -- of floats those that are left
  left_part : is_float g ≡ true → (l : List FieldRecord)
      → left_of (map (value_in n g) (chosen (counts n) l)) ≡ map (value_in n g) (chosen takes_part l)
  unfolding chosen takes_part left_of
  left_part float [] = refl
  left_part float (x ∷ l) = rw float (go (counts n x) (aside (pattern_of 32 (value_in n g x))) refl (left_part float l))
    where
      counting : List FieldRecord
      counting = chosen (counts n) l

      left : List FieldRecord
      left = chosen takes_part l

      go : (a b : Bool) → aside (pattern_of 32 (value_in n g x)) ≡ b → left_of (map (value_in n g) counting) ≡ map (value_in n g) left
          → left_of (map (value_in n g) (cond a (x ∷ counting) counting)) ≡ map (value_in n g) (cond (a && not b) (x ∷ left) left)
      go true true t later = rw t later
      go true false t later = rw t (ap (λ (r : List ℤ). value_in n g x ∷ r) later)
      go false b t later = later

-- pick any takes the first
first_whole : (g : Message) (l : List ℤ) (v : ℤ) (k : List ℤ) → is_float g ≡ false → g.agreement ≡ 0 → l ≡ v ∷ k → agreed_by g l ≡ Some v
unfolding agreed_by agreed
first_whole g l v k whole pick e = rw (whole, pick, e) refl

first_left : (a : ℕ) (l : List ℤ) (v : ℤ) (k : List ℤ) → a ≡ 0 → l ≡ v ∷ k → left_agreed a l ≡ Some v
unfolding left_agreed
first_left a l v k pick e = rw (pick, e) refl

-- ---- a message of a sound node

module _ {n : Node} (s : Sound n) (m : ℕ) where
  abbrev g : Message
  g = message_at n.layout m

  abbrev laid : ℕ → FieldRecord
  laid = laid_at n.layout

  abbrev own : List ℕ
  own = cells_of n.layout (Owner.Message m)

  own_rise : Rising own
  own_rise = cells_rise s.layout (Owner.Message m)

  in_own : (d : ℕ) → CountingField n m d → is_in d own ≡ true
  in_own d t = (fields_named s.layout (Owner.Message m) d).1 (t.field, eq-eqb _ m t.message)

  pub own_counting : (d : ℕ) → is_in d own ≡ true → counts n (laid d) ≡ true → CountingField n m d
  own_counting d i t =
      let (field, names) = (fields_named s.layout (Owner.Message m) d).0 i in
      record { field = field; message = eqb-true _ m names; counting = t }

  -- of two fields of the message the later is in the higher frame
  frames_rise : (d e : ℕ) → CountingField n m d → CountingField n m e → d < e → frame_number n d < frame_number n e
  frames_rise d e a b below = s.layout.rising d e below b.field (a.message ∙ sym b.message)

  known : (d : ℕ) → CountingField n m d → m < n.layout.message_number
  known d t = rw t.message at (s.layout.fields d t.field).message

  -- ---- frame order

  pub frame_order : (l : List ℕ) × InFrameOrder n m l × (instances n m ≡ map (carried_value n m) l)
  unfolding instances
  frame_order = (
    counting,
    record {
      all = λ d. (each d, λ t. (in_chosen p d own).1 (in_own d t, t.counting));
      rising = images_rise (frame_number n) (CountingField n m) frames_rise counting (every_number _ counting each) (rising_chosen p own own_rise);
    },
    ap (map (value_in n g)) (chosen_images laid (counts n) own) ∙ map-map (value_in n g) laid counting,
  )
    where
      p : ℕ → Bool
      p d = counts n (laid d)

      counting : List ℕ
      counting = chosen p own

      each : (d : ℕ) → is_in d counting ≡ true → CountingField n m d
      each d i = let (mine, t) = (in_chosen p d own).0 i in own_counting d mine t

  -- ---- pick any

  part_of : (d : ℕ) → TakesPart n m d → takes_part n g (laid d) ≡ true
  part_of d t = (part_test n g (laid d)).1 (t.counting.counting, t.not_aside)

  own_part : (d : ℕ) → is_in d own ≡ true → takes_part n g (laid d) ≡ true → TakesPart n m d
  own_part d i t =
      let (counting, not_aside) = (part_test n g (laid d)).0 t in
      record { counting = own_counting d i counting; not_aside = not_aside }

  -- the one with the lowest frame number has the least number
  least_part : (d : ℕ) → HasLowestFrame n m d → (e : ℕ) → is_in e own ≡ true → takes_part n g (laid e) ≡ true → d ≤ e
  least_part d h e i t = go (dec_lt e d)
    where
      there : TakesPart n m e
      there = own_part e i t

      go : Dec (e < d) → d ≤ e
      go (yes below) = absurd (omega (arith, frames_rise e d there.counting h.part.counting below, h.lowest e there))
      go (no l) = omega arith

  -- where one takes part, the least of those that do has it
  pub some_lowest : (d : ℕ) → TakesPart n m d → (e : ℕ) × HasLowestFrame n m e
  some_lowest d t =
      let (e, i, u, least) = some_least (λ e. takes_part n g (laid e)) own d own_rise (in_own d t.counting) (part_of d t) in
      let here = own_part e i u in
      (e, record { part = here; lowest = λ a v. lower e a here v (eq-or-lt_of_le (least a (in_own a v.counting) (part_of a v))) })
    where
      lower : (e a : ℕ) → TakesPart n m e → TakesPart n m a → (e ≡ a) ⊎ (e < a) → frame_number n e ≤ frame_number n a
      lower e a t v (inl same) = rw same (omega arith)
      lower e a t v (inr below) = omega (arith, frames_rise e a t.counting v.counting below)

  first_part : (d : ℕ) → HasLowestFrame n m d
      → (k : List ℤ) × (map (value_in n g) (chosen (takes_part n g) (fields_of n.layout (Owner.Message m))) ≡ carried_value n m d ∷ k)
  first_part d h =
      let p : ℕ → Bool = λ e. takes_part n g (laid e) in
      let (k, e) = first_chosen p own d own_rise (in_own d h.part.counting) (part_of d h.part) (least_part d h) in
      (map (value_in n g) (map laid k), rw (chosen_images laid (takes_part n g) own, e) refl)

  pub lowest_agreed : g.agreement ≡ 0 → (d : ℕ) → HasLowestFrame n m d → agreed_by g (instances n m) ≡ Some (carried_value n m d)
  unfolding instances
  lowest_agreed pick d h = go (is_float g) refl
    where
      fields : List FieldRecord
      fields = fields_of n.layout (Owner.Message m)

      go : (float : Bool) → is_float g ≡ float → agreed_by g (instances n m) ≡ Some (carried_value n m d)
      go true float =
          let (k, e) = first_part d h in
          floats_agree n m float ∙ first_left g.agreement _ (carried_value n m d) k pick (left_part n g float fields ∙ e)
      go false whole =
          let (k, e) = first_part d h in
          first_whole g _ (carried_value n m d) k whole pick (ap (map (value_in n g)) (sym (all_part n g whole fields)) ∙ e)

  -- ---- the mean, and what is shown

  pub some_instance : (d : ℕ) → CountingField n m d → 0 < length (instances n m)
  unfolding instances
  some_instance d t =
      rw length-map
      (chosen_some (counts n) _ ((some_field n.layout (Owner.Message m) (counts n)).1 (d, in_own d t, t.counting)))

  pub average_agreed : is_float g ≡ false → g.agreement ≡ 1 → (d : ℕ) → CountingField n m d
      → agreed_by g (instances n m) ≡ Some (mean_of (instances n m))
  unfolding agreed_by agreed
  average_agreed whole average d t =
      let width = (s.layout.messages m (known d t)).width in
      rw (whole, average) (sym (has_mean (instances n m) (instances_held n m width (some_instance d t))))

  -- an agreed value that the filter passes is shown
  pub agreed_shown : is_sent g ≡ false → (d : ℕ) → CountingField n m d → (v : ℤ) → agreed_by g (instances n m) ≡ Some v
      → passes_now g (state_at n.state m) v ≡ true → (p : ℤ) → seen_of (next n close) (receive m p) ≡ sees 0 (value v)
  agreed_shown received d t v agreed passes p =
      let before = state_at n.state m in
      let message = s.layout.messages m (known d t) in
      let fits = agreed_in_message n m v message.width message.float_width agreed in
      let closed = closed_some n m before (some_instance d t) ∙ ap (agreed_on g before) agreed in
      passed_shown s m (is_received_lem s.layout m (known d t) received) p v fits passes closed
