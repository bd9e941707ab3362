-- The values of a message's counting instances, and the value that they agree on. What stands at the places of a message of w bits is below 2 ^ w,
-- since there are w of them, or none; so its value is in the range of w bits. And an agreed value lies between any two bounds between which the
-- instances lie: pick any and vote give an instance, and the mean lies between the least and the greatest. What floats agree on is a finite pattern.
-- Assumes nothing.
use mathlib.Core.Path.{◌≡◌, refl, ◌∙◌}
use mathlib.Core.Bool.{Bool, true, false, cond, ◌&&◌, and-eq-true_iff, false≢true}
use mathlib.Core.List.{List}
use Prim.Native.Nat.{ℕ, zero, suc, ◌-◌, ◌^◌, ◌<◌, ◌≤◌}
use native.Mathlib.Omega.{arith}
use lib.Dec.{leb}
use lib.IntN.{ℤ, pos, negsuc}
use lib.ListN.{length, length-map}
use lib.Pow.{pow_pos}
use borrow.Author.Tests.{leb-true, le-leb}
use Rattle.whole.specs.Whole.{all_of}
use Rattle.packing.specs.Places.{in_frame, places, places_in, unpacked}
use Rattle.packing.specs.Values.{is_width, least, greatest, in_range, value_of}
use Rattle.packing.proofs.Frame.{unpacked_below}
use Rattle.packing.proofs.Places.{places_in_places, places_in_none, places_length}
use Rattle.packing.proofs.Values.{value_range, range_wider}
use Rattle.agreement.specs.Agreement.{between, message_value, message_values, agreed}
use Rattle.agreement.specs.Floats.{floats_agreed}
use Rattle.std.specs.Prelude.{Some}
use Rattle.agreement.proofs.Average.{mean_between, average_value}
use Rattle.agreement.proofs.MessageValues.{values_parts}
use Rattle.agreement.proofs.Passed.{picked_passes, voted_passes, all_left, floats_pass, agreed_finite}
use Rattle.record.specs.declared.Field.{Field as FieldRecord}
use Rattle.store.specs.declared.Message.{Message}
use Rattle.store.specs.Node.{Node, is_signed, is_float, message_at, laid_at}
use Rattle.message.specs.Messages.{can_hold, agreed_by}
use Rattle.message.proofs.Held.{float_unsigned, holds_whole, holds_float}
use Rattle.own.specs.declared.Owner.{Owner}
use Rattle.own.specs.Own.{chosen, cells_of, fields_of}
use Rattle.closing.specs.Closing.{counts, value_in, instances}
use Rattle.own.proofs.Ahead.{cells_few}
use Rattle.own.proofs.Lists.{chosen_few}
use Rattle.own.proofs.Tables.{all_pass, all_map}

-- ---- the value of what stands at a message's places

module _ (n : ℕ) (big : Bool) (start w : ℕ) (f : List ℕ) where
  pattern_there : (t : Bool) → in_frame n start w ≡ t → unpacked (places_in n big start w) f < 2 ^ w
  unfolding unpacked
  pattern_there true t = rw (places_in_places n big start w t) (rw places_length at (unpacked_below (places big start w) f))
  pattern_there false t = rw (places_in_none n big start w t) (pow_pos w)

  -- in the message's range
  value_there : (signed : Bool) → is_width w ≡ true → in_range signed w (value_of signed w (unpacked (places_in n big start w) f)) ≡ true
  value_there signed i = value_range signed w _ i (pattern_there (in_frame n start w) refl)

-- ---- the agreed value

-- a value in a message's range is a number that some message holds
pub in_range_value : (signed : Bool) (w : ℕ) (v : ℤ) → in_range signed w v ≡ true → message_value v ≡ true
unfolding in_range is_width least greatest message_value
in_range_value signed w v r = go signed v (range_wider signed w v r)
  where
    go : (signed : Bool) (v : ℤ) → in_range signed 32 v ≡ true → message_value v ≡ true
    go true (pos n) r = le-leb n (2 ^ 32 - 1) (omega (arith, leb-true n (2 ^ 31 - 1) r))
    go true (negsuc n) r = r
    go false (pos n) r = ((and-eq-true_iff (leb 0 n) (leb n (2 ^ 32 - 1))).0 r).1
    go false (negsuc n) r = absurd (false≢true r)

agreed_between : (lo hi : ℤ) (k : ℕ) (l : List ℤ) (v : ℤ) → all_of (between lo hi) l ≡ true → agreed k l ≡ Some v → between lo hi v ≡ true
unfolding agreed
agreed_between lo hi zero l v t e = picked_passes (between lo hi) l v t e
agreed_between lo hi (suc zero) l v t e =
    let mean = (average_value l v).0 e in
    rw mean.1 (mean_between lo hi l (values_parts l mean.0).0 t)
agreed_between lo hi (suc (suc zero)) l v t e = voted_passes (between lo hi) l v t e
agreed_between lo hi (suc (suc (suc k))) l v t e = cc

-- the value of a pattern is an unsigned one of 32 bits
pattern_in_range : (x : ℕ) → x < 2 ^ 32 → in_range false 32 (pos x) ≡ true
unfolding in_range is_width least greatest
pattern_in_range x h = (and-eq-true_iff (leb 0 x) (leb x (2 ^ 32 - 1))).1 (le-leb 0 x (omega arith), le-leb x (2 ^ 32 - 1) (omega arith))

-- ---- a message's instances

-- there are at most eight, in any node
pub instances_few : (n : Node) (m : ℕ) → length (instances n m) ≤ 8
unfolding instances
instances_few n m =
    let l = n.layout in
    let o = Owner.Message m in
    let same : length (fields_of l o) ≡ length (cells_of l o) = length-map (cells_of l o) (laid_at l) in
    rw length-map (omega (arith, chosen_few (counts n) (fields_of l o), cells_few l m))

module _ (n : Node) (m : ℕ) where
  abbrev message : Message
  message = message_at n.layout m

  all_instances : (p : ℤ → Bool) → ((x : FieldRecord) → p (value_in n message x) ≡ true) → all_of p (instances n m) ≡ true
  unfolding instances
  all_instances p h =
      let counting = chosen (counts n) (fields_of n.layout (Owner.Message m)) in
      all_map (value_in n message) p counting ∙ all_pass (λ x. p (value_in n message x)) h counting

  -- each is in the message's range
  instance_in_range : is_width message.width ≡ true → (x : FieldRecord) → in_range (is_signed message) message.width (value_in n message x) ≡ true
  unfolding value_in
  instance_in_range i x = value_there _ _ _ _ _ (is_signed message) i

  -- so they have a mean where there is one
  pub instances_held : is_width message.width ≡ true → 0 < length (instances n m) → message_values (instances n m) ≡ true
  unfolding message_values
  instances_held i some =
      let size = length (instances n m) in
      let each = all_instances message_value (λ x. in_range_value (is_signed message) message.width _ (instance_in_range i x)) in
      (and-eq-true_iff (leb 1 size && leb size 8) _).1
      ((and-eq-true_iff (leb 1 size) (leb size 8)).1 (le-leb 1 size some, le-leb size 8 (instances_few n m)), each)

  -- and so is a value on which they agree
  whole_in_range : (v : ℤ) → is_width message.width ≡ true → agreed message.agreement (instances n m) ≡ Some v
      → in_range (is_signed message) message.width v ≡ true
  unfolding in_range
  whole_in_range v i e =
      let w = message.width in
      let lo = least (is_signed message) w in
      let hi = greatest (is_signed message) w in
      let each = all_instances (between lo hi) (λ x. ((and-eq-true_iff (is_width w) (between lo hi (value_in n message x))).0 (instance_in_range i x)).1) in
      (and-eq-true_iff (is_width w) (between lo hi v)).1 (i, agreed_between lo hi message.agreement (instances n m) v each e)

  -- one on which floats agree is a pattern of 32 bits
  floats_in_range : (v : ℤ) → ((x : FieldRecord) → in_range false 32 (value_in n message x) ≡ true)
      → floats_agreed message.agreement (instances n m) ≡ Some v → in_range false 32 v ≡ true
  floats_in_range v h =
      floats_pass (in_range false 32) (λ x b a. pattern_in_range x b) message.agreement (instances n m) v
      (all_left (in_range false 32) (instances n m) (all_instances (in_range false 32) h))

  -- of a message that is as its layout says, it is a value that the message can hold
  pub agreed_in_message : (v : ℤ) → is_width message.width ≡ true → (is_float message ≡ true → message.width ≡ 32)
      → agreed_by message (instances n m) ≡ Some v → can_hold message v ≡ true
  unfolding agreed_by
  agreed_in_message v i w = go (is_float message) refl
    where
      go : (float : Bool) → is_float message ≡ float
          → cond float (floats_agreed message.agreement (instances n m)) (agreed message.agreement (instances n m)) ≡ Some v
          → can_hold message v ≡ true
      go true f e =
          let unsigned = float_unsigned message f in
          let each : (x : FieldRecord) → in_range false 32 (value_in n message x) ≡ true = (λ x. rw (unsigned, w f) at (instance_in_range i x)) in
          holds_float message v f (w f) (rw unsigned (floats_in_range v each e)) (agreed_finite message.agreement (instances n m) v e)
      go false f e = holds_whole message v f (whole_in_range v i e)
