-- What holds of all calls together. Each line is a theorem; proofs/Claims.antt says where it is proved.
-- Assumes nothing.
use Rattle.std.specs.Prelude.{◌≡◌, true, false, List, [], ◌∷◌, map, ◌↔◌, ℕ, ◌/◌, ◌%◌, ◌<◌, ℤ, length, take, Some, None, Err}
use Rattle.whole.specs.Whole.{Bytes}
use Rattle.packing.specs.Values.{pattern_of}
use Rattle.float.specs.Rounding.{over}
use Rattle.agreement.specs.Agreement.{mean_of}
use Rattle.agreement.specs.Floats.{left_of, sum_from, left_agreed}
use Rattle.layout.specs.Numbers.{number_of, byte_of}
use Rattle.layout.specs.Verdict.{refused_at, verdict}
use Rattle.layout.specs.declared.Refusal.{Refusal}
use Rattle.record.specs.declared.Field.{Field as FieldRecord}
use Rattle.store.specs.Node.{Layout, Node, is_sent, is_float, is_delivered, is_valid, held_value, layout_size, node_of, message_at, laid_at, delivery_at, state_at}
use Rattle.store.specs.Node.{no_delivery}
use Rattle.message.specs.Messages.{passes_now, agreed_by}
use Rattle.own.specs.declared.Owner.{Owner}
use Rattle.own.specs.Own.{Rising, fields_of}
use Rattle.own.specs.SoundLayout.{SoundLayout}
use Rattle.node.specs.Calls.{assembled}
use Rattle.closing.specs.Closing.{instances, is_received}
use Rattle.node.specs.Load.{load_of}
use Rattle.node.specs.Sound.{Sound}
use Rattle.calls.specs.Relations.{Call, send, invalidate, assemble, read_flag, close, receive}
use Rattle.calls.specs.Relations.{value, Seen, answer_of, lent_before, sees, seen_of, next, final, Memory, Does, Loads}
use Rattle.order.specs.Order.{Numbered, Result, Reordered, end, results, Ran, SameOutcome}
use Rattle.order.specs.Runs.{EachBringsBytes}
use Rattle.order.specs.Example.{sent_file, MayChange, MayNotChange, received_file, SameShown}
use Rattle.order.specs.Once.{Once}
use Rattle.order.specs.Own.{SameValues, SameOwn, SameLayout, SameMessages, SameRound}
use Rattle.order.specs.Replicas.{Replicas, CameAlike}
use Rattle.order.specs.Flag.{answered, Sent, AllOut, shows}
use Rattle.order.specs.Deliveries.{DeliveredWith, NoneDelivered, LastDelivery, OneRound, SameOwnRound}
use Rattle.order.specs.Mirror.{Mirrors, goes_valid, after_round}
use Rattle.order.specs.LoadedNodes.{EachLoaded, PassedOn, ReplicasShow}
use Rattle.order.specs.Floats.{mean_shown}
use Rattle.order.specs.Old.{ComparesWith}
use Rattle.order.specs.Counting.{CountingField, carried_value, InFrameOrder, TakesPart, HasLowestFrame}

pub record Claims : Type 0 where
  -- Order of calls. From any memory, a reordering of calls that keeps the order of those which name the same message, the same frame, or a frame
  -- and a message that it carries, gives each call the same answer and the same buffer or place, and the same memory
  pub order_of_calls : (b : List ℕ) → Memory b → (l₁ l₂ : List Numbered) → Reordered (node_of b).layout l₁ l₂
      → (r₁ r₂ : List Result) (e₁ e₂ : List ℕ) → Ran b l₁ r₁ e₁ → Ran b l₂ r₂ e₂ → SameOutcome r₁ r₂ e₁ e₂
  -- Runs. On every memory every list of calls that brings bytes has a run, which shows what the calls on the memory's node show, and every load of a
  -- file of bytes has an outcome
  pub has_run : (b : List ℕ) → Memory b → (l : List Numbered) → EachBringsBytes l → (e : List ℕ) × Ran b l (results (node_of b) l) e
  -- and every run is the calls on the memory's node: each caller sees what its call shows there, and the memory holds the node that they leave
  pub run_means : (b : List ℕ) → Memory b → (l : List Numbered) (r : List Result) (e : List ℕ) → Ran b l r e
      → Memory e × (r ≡ results (node_of b) l) × (node_of e ≡ end (node_of b) l)
  pub has_load : (b file : List ℕ) → Memory b → Bytes file → (e : List ℕ) × Memory e × Loads b file (load_of (node_of b) file).answer e
  -- For example, on every memory a file of two sent frames loads with answer 0, and on the memory that it leaves two calls may change places, and two
  -- others show something else if they do
  pub order_example : (b : List ℕ) → Memory b → (e : List ℕ) × Memory e × Loads b sent_file 0 e × MayChange e × MayNotChange e
  -- One input, one outcome, for every public entry point
  pub once : Once
  -- The layout part. No call but a load changes a byte of it
  pub layout_kept : (b : List ℕ) (c : Call) (s : Seen) (e : List ℕ) → Memory b → Memory e → Does b c s e → take layout_size e ≡ take layout_size b
  -- About the node a call may assume only what holds at start and is shown to hold after every call: a load that answers 0 makes a sound node, and every
  -- call keeps one
  pub sound_load : (n : Node) (file : List ℕ) → (load_of n file).answer ≡ 0 → Sound (load_of n file).node
  pub sound_kept : (n : Node) → Sound n → (c : Call) → Sound (next n c)
  -- Refusals change nothing: every answer but 0 leaves the node's memory and the caller's as they were
  pub refusal : (b : List ℕ) (c : Call) (s : Seen) (e : List ℕ) → Memory b → Memory e → Does b c s e → (s.answer ≡ 0 → ⊥)
      → (e ≡ b) × (s.lent ≡ lent_before c)
  pub load_refusal : (b file : List ℕ) (r : ℕ) (e : List ℕ) → Memory b → Memory e → Loads b file r e → (r ≡ 0 → ⊥) → e ≡ b
  -- A refused load tells the refusal's number, its record and the byte that it gives
  pub load_tells : (b file : List ℕ) (r : ℕ) (e : List ℕ) → Loads b file r e
      → (n : Refusal) (at : ℕ) → verdict file ≡ Err (refused_at n at)
      → (r % 256 ≡ number_of n) × (r / 256 % 256 ≡ at) × (r / 65536 ≡ byte_of n)
  -- Frame order. The instances are the values of a message's counting fields, all of them and no others, the lowest frame number first
  pub frame_order : (n : Node) → Sound n → (m : ℕ) → (l : List ℕ) × InFrameOrder n m l × (instances n m ≡ map (carried_value n m) l)
  -- Pick any. Of the instances that take part a message agrees on the one with the lowest frame number, in sound nodes
  pub lowest_agreed : (n : Node) → Sound n → (m : ℕ) → (message_at n.layout m).agreement ≡ 0 → (d : ℕ) → HasLowestFrame n m d
      → agreed_by (message_at n.layout m) (instances n m) ≡ Some (carried_value n m d)
  -- and where one takes part, one has the lowest
  pub some_lowest : (n : Node) → Sound n → (m d : ℕ) → TakesPart n m d → (e : ℕ) × HasLowestFrame n m e
  -- The mean is never refused. Where an instance counts, a message of whole numbers with agreement 1 agrees on the mean of its instances, in sound nodes
  pub average_agreed : (n : Node) → Sound n → (m : ℕ) → is_float (message_at n.layout m) ≡ false → (message_at n.layout m).agreement ≡ 1
      → (d : ℕ) → CountingField n m d → agreed_by (message_at n.layout m) (instances n m) ≡ Some (mean_of (instances n m))
  -- and what a received message agrees on is shown after the closing with 0, if the filter passes it
  pub agreed_shown : (n : Node) → Sound n → (m : ℕ) → is_sent (message_at n.layout m) ≡ false → (d : ℕ) → CountingField n m d
      → (v : ℤ) → agreed_by (message_at n.layout m) (instances n m) ≡ Some v
      → passes_now (message_at n.layout m) (state_at n.state m) v ≡ true
      → (p : ℤ) → seen_of (next n close) (receive m p) ≡ sees 0 (value v)
  -- The other endings of a received message's round. No frame of it delivered, 21
  pub none_delivered : (n : Node) → Sound n → (m : ℕ) → is_received n.layout m ≡ true
      → ((d : ℕ) → d < n.layout.field_number → (laid_at n.layout d).message ≡ m
      → is_delivered (delivery_at n.state (laid_at n.layout d).frame) ≡ false)
      → (p : ℤ) → seen_of (next n close) (receive m p) ≡ sees 21 (value p)
  -- some delivered but no instance counts, 22
  pub none_counting : (n : Node) → Sound n → (m : ℕ) → is_received n.layout m ≡ true → (d : ℕ) → d < n.layout.field_number
      → (laid_at n.layout d).message ≡ m → is_delivered (delivery_at n.state (laid_at n.layout d).frame) ≡ true
      → ((e : ℕ) → CountingField n m e → ⊥) → (p : ℤ) → seen_of (next n close) (receive m p) ≡ sees 22 (value p)
  -- agreement without result, 20
  pub none_agreed : (n : Node) → Sound n → (m : ℕ) → is_received n.layout m ≡ true → (d : ℕ) → CountingField n m d
      → agreed_by (message_at n.layout m) (instances n m) ≡ None → (p : ℤ) → seen_of (next n close) (receive m p) ≡ sees 20 (value p)
  -- filter does not pass, 21
  pub agreed_stopped : (n : Node) → Sound n → (m : ℕ) → is_received n.layout m ≡ true → (d : ℕ) → CountingField n m d
      → (v : ℤ) → agreed_by (message_at n.layout m) (instances n m) ≡ Some v
      → passes_now (message_at n.layout m) (state_at n.state m) v ≡ false
      → (p : ℤ) → seen_of (next n close) (receive m p) ≡ sees 21 (value p)
  -- In these four the held value stays: wherever a receive after the closing does not answer 0, that status is all that changes of the message
  pub not_held : (n : Node) → Sound n → (m : ℕ) → is_received n.layout m ≡ true
      → (p : ℤ) → (answer_of (next n close) (receive m p) ≡ 0 → ⊥)
      → state_at (next n close).state m
      ≡ record { valid = (state_at n.state m).valid; status = answer_of (next n close) (receive m p); held = (state_at n.state m).held }
  -- Floats. Of a float message's counting instances those that are not set aside agree, in any node: there never are more than eight
  pub floats_agree : (n : Node) (m : ℕ) → is_float (message_at n.layout m) ≡ true
      → agreed_by (message_at n.layout m) (instances n m) ≡ left_agreed (message_at n.layout m).agreement (left_of (instances n m))
  -- where some count and none is left, a receive answers 20
  pub all_aside : (n : Node) → Sound n → (m : ℕ) → m < n.layout.message_number
      → is_sent (message_at n.layout m) ≡ false → is_float (message_at n.layout m) ≡ true
      → (instances n m ≡ [] → ⊥) → left_of (instances n m) ≡ [] → (p : ℤ) → seen_of (next n close) (receive m p) ≡ sees 20 (value p)
  -- and where v is the first that is left and l are the others, their average with filter 0 shows v + l in frame order, divided by their number
  pub mean_shown_lem : (n : Node) → Sound n → (m : ℕ) → m < n.layout.message_number
      → is_sent (message_at n.layout m) ≡ false → is_float (message_at n.layout m) ≡ true
      → (message_at n.layout m).agreement ≡ 1 → (message_at n.layout m).filter ≡ 0
      → (v : ℤ) (l : List ℤ) → left_of (instances n m) ≡ v ∷ l → (p : ℤ)
      → seen_of (next n close) (receive m p) ≡ mean_shown (over (sum_from (pattern_of 32 v) l) (length (v ∷ l))) p
  -- Own bits alone. What a message shows depends on the layout, its earlier values, which of its frames came validly, and its own field and status
  -- bits; on no other bit of any frame. The same holds of the values that the next closing finds
  pub own_bits : (n n' : Node) → Sound n → Sound n' → (m : ℕ) → SameOwn n n' m → (p : ℤ)
      → seen_of (next n close) (receive m p) ≡ seen_of (next n' close) (receive m p)
  pub own_values : (n n' : Node) → Sound n → Sound n' → (m : ℕ) → SameOwn n n' m
      → SameValues (state_at (next n close).state m) (state_at (next n' close).state m)
  -- Replicas agree. A received message may have another number in another layout, in frames of other numbers and beside other messages. Where it has
  -- the same width, sign, agreement, filter and words, and fields that lie alike, its frames in the same order, two nodes with the same earlier values,
  -- to which the same of these frames came with the same own bits, show the same status and value after closing
  pub replicas_agree : (n n' : Node) → Sound n → Sound n' → (m m' : ℕ) → Replicas n.layout n'.layout m m' → CameAlike n n' m m' → (p : ℤ)
      → seen_of (next n close) (receive m p) ≡ seen_of (next n' close) (receive m' p)
  -- and have the same values for the next closing
  pub replicas_values : (n n' : Node) → Sound n → Sound n' → (m m' : ℕ) → Replicas n.layout n'.layout m m' → CameAlike n n' m m'
      → SameValues (state_at (next n close).state m) (state_at (next n' close).state m')
  -- which finds them as they are: no call but a closing changes the state of a received message
  pub received_kept : (n : Node) (m : ℕ) → is_received n.layout m ≡ true → (l : List Call) → OneRound l
      → state_at (final n l).state m ≡ state_at n.state m
  -- The order of a message's fields is that of their frames, and no two are in one frame
  pub field_order : (l : Layout) → SoundLayout l → (m : ℕ) → Rising (map (λ x. x.frame) (fields_of l (Owner.Message m)))
  -- Receive answers the status of the last closing, and with 0 its value: no other call changes what a receive shows
  pub last_closing : (n : Node) (l : List Call) → OneRound l → (m : ℕ) (p : ℤ) → seen_of (final n l) (receive m p) ≡ seen_of n (receive m p)
  -- Each round by itself. Two sound nodes with the same layout, messages, stages and deliveries of this round are the same node, whatever was
  -- delivered to each in earlier rounds; and a closing leaves nothing of the deliveries
  pub each_round : (n n' : Node) → Sound n → Sound n' → SameLayout n.layout n'.layout → SameRound n n' → n ≡ n'
  pub forgotten : (n : Node) → Sound n → (f : ℕ) → f < n.layout.frame_number → delivery_at (next n close).state f ≡ no_delivery
  -- Equal bytes. So two memories that hold sound nodes with the same layout, messages, stages and deliveries of this round are the same, byte for byte
  pub equal_bytes : (a b : List ℕ) → Memory a → Memory b → Sound (node_of a) → Sound (node_of b) → SameLayout (node_of a).layout (node_of b).layout
      → SameRound (node_of a) (node_of b) → a ≡ b
  -- after a closing they are the same if the messages and stages are, whatever was delivered before it
  pub closed_bytes : (b b' : List ℕ) → Sound (node_of b) → Sound (node_of b') → SameLayout (node_of b).layout (node_of b').layout
      → (s s' : Seen) (e e' : List ℕ) → Memory e → Memory e' → Does b close s e → Does b' close s' e' → SameMessages (node_of e) (node_of e') → e ≡ e'
  -- so two nodes loaded from one file that have the same messages, stages and deliveries of this round are the same bytes, whatever their memories held
  -- before the load and whatever calls came since
  pub one_file : (file b b' c c' : List ℕ) → Memory c → Memory c' → Loads b file 0 c → Loads b' file 0 c'
      → (l l' : List Numbered) (r r' : List Result) (e e' : List ℕ) → Ran c l r e → Ran c' l' r' e' → SameRound (node_of e) (node_of e') → e ≡ e'
  -- The deliveries' history. A load and a closing leave nothing delivered
  pub none_loaded : (n : Node) (file : List ℕ) → (load_of n file).answer ≡ 0 → NoneDelivered (load_of n file).node
  pub none_closed : (n : Node) → Sound n → NoneDelivered (next n close)
  -- and from such a node on, after any calls, a frame counts as delivered, with these data, exactly if they are those of the last valid delivery of it
  -- that answered 0 since the last closing
  pub delivery_history : (n : Node) → Sound n → NoneDelivered n → (l : List Call) (f : ℕ) → f < n.layout.frame_number → (bytes : List ℕ)
      → DeliveredWith (final n l) f bytes ↔ LastDelivery f bytes (answered n l)
  -- A closing depends on its own round's deliveries. After two rounds that agree on what came of a received message, whatever else the callers did in
  -- them and before, the closing shows the same of it, until the next closing, and the next round finds the same values
  pub own_round : (n n' : Node) → Sound n → Sound n' → (m : ℕ) → is_received n.layout m ≡ true → (l l' : List Call) → SameOwnRound n n' l l' m
      → (k k' : List Call) → OneRound k → OneRound k' → (p : ℤ)
      → seen_of (final (next (final n l) close) k) (receive m p) ≡ seen_of (final (next (final n' l') close) k') (receive m p)
  pub own_round_values : (n n' : Node) → Sound n → Sound n' → (m : ℕ) → is_received n.layout m ≡ true → (l l' : List Call) → SameOwnRound n n' l l' m
      → SameValues (state_at (next (final n l) close).state m) (state_at (next (final n' l') close).state m)
  -- For example, on the node that a file of a received frame leaves, two rounds whose last valid deliveries have a message's bits alike show the same of it
  pub round_example : (n : Node) → ((load_of n received_file).answer ≡ 0) × SameShown (load_of n received_file).node
  -- The flag's history. After the latest send of a message that answered 0, filtered or not, its flag is set exactly if each frame that carries it
  -- has been assembled with answer 0 and later consumed since that send, and cleared exactly if not; l is any list of calls
  pub flag_history : (n : Node) → Sound n → (m : ℕ) (v : ℤ) → answer_of n (send m v) ≡ 0
      → (l : List Call) → (Sent (next n (send m v)) m l → ⊥) → (p : ℕ)
      → ((seen_of (final n (send m v ∷ l)) (read_flag m p) ≡ shows 1) ↔ AllOut (next n (send m v)) m l)
      × ((seen_of (final n (send m v ∷ l)) (read_flag m p) ≡ shows 0) ↔ (AllOut (next n (send m v)) m l → ⊥))
  -- so the send itself clears it
  pub send_clears : (n : Node) → Sound n → (m : ℕ) (v : ℤ) → answer_of n (send m v) ≡ 0 → (p : ℕ) → seen_of (next n (send m v)) (read_flag m p) ≡ shows 0
  -- Send: the value goes to the filter. If it passes it is held and the message is valid
  pub sent_holds : (n : Node) → Sound n → (m : ℕ) (v : ℤ) → answer_of n (send m v) ≡ 0
      → passes_now (message_at n.layout m) (state_at n.state m) v ≡ true
      → (held_value (message_at n.layout m) (state_at (next n (send m v)).state m) ≡ v) × (is_valid (state_at (next n (send m v)).state m) ≡ true)
  -- if not, the held value stays and the message is invalid, and that is all that changes of its state
  pub filtered_holds : (n : Node) (m : ℕ) (v : ℤ) → answer_of n (send m v) ≡ 0
      → passes_now (message_at n.layout m) (state_at n.state m) v ≡ false
      → state_at (next n (send m v)).state m ≡ record { valid = 0; status = (state_at n.state m).status; held = (state_at n.state m).held }
  -- and from one send that answers 0 to the next it stays: no other call changes what a sent message holds
  pub sent_kept : (n : Node) → Sound n → (m : ℕ) → is_sent (message_at n.layout m) ≡ true → (l : List Call) → (Sent n m l → ⊥)
      → (state_at (final n l).state m).held ≡ (state_at n.state m).held
  -- Filters. Old is the value that the message holds, sent or received
  pub old_held : (n : Node) (m : ℕ) → ComparesWith n m (held_value (message_at n.layout m) (state_at n.state m))
  -- so where a receive gives v, the next value is compared with v
  pub old_received : (n : Node) (m : ℕ) (v p : ℤ) → seen_of n (receive m p) ≡ sees 0 (value v) → ComparesWith n m v
  -- There and back. A value sent, passed by the sender's filter, assembled, and delivered to a node whose field mirrors the sender's and in whose round
  -- no instance of the message counts yet, is received as sent if the receiver's filter passes it, whatever its agreement; of a float that is any
  -- finite pattern, bit for bit
  pub sent_received : (s r : Node) → Sound s → Sound r → (m m' : ℕ) (x x' : FieldRecord) → Mirrors s.layout r.layout m m' x x'
      → instances r m' ≡ [] → (v : ℤ) → answer_of s (send m v) ≡ 0 → passes_now (message_at s.layout m) (state_at s.state m) v ≡ true
      → (b : List ℕ) → answer_of (next s (send m v)) (assemble x.frame b) ≡ 0
      → passes_now (message_at r.layout m') (state_at r.state m') v ≡ true → (p : ℤ)
      → seen_of (after_round r x'.frame (assembled (next s (send m v)) x.frame b)) (receive m' p) ≡ sees 0 (value v)
  -- and one that the receiver's filter does not pass is answered 21
  pub sent_stopped : (s r : Node) → Sound s → Sound r → (m m' : ℕ) (x x' : FieldRecord) → Mirrors s.layout r.layout m m' x x'
      → instances r m' ≡ [] → (v : ℤ) → answer_of s (send m v) ≡ 0 → passes_now (message_at s.layout m) (state_at s.state m) v ≡ true
      → (b : List ℕ) → answer_of (next s (send m v)) (assemble x.frame b) ≡ 0
      → passes_now (message_at r.layout m') (state_at r.state m') v ≡ false → (p : ℤ)
      → seen_of (after_round r x'.frame (assembled (next s (send m v)) x.frame b)) (receive m' p) ≡ sees 21 (value p)
  -- A value that the sender's filter does not pass goes out as invalid, and is answered 22
  pub filtered_received : (s r : Node) → Sound s → Sound r → (m m' : ℕ) (x x' : FieldRecord) → Mirrors s.layout r.layout m m' x x'
      → instances r m' ≡ [] → (v : ℤ) → answer_of s (send m v) ≡ 0 → passes_now (message_at s.layout m) (state_at s.state m) v ≡ false
      → (b : List ℕ) → answer_of (next s (send m v)) (assemble x.frame b) ≡ 0 → (p : ℤ)
      → seen_of (after_round r x'.frame (assembled (next s (send m v)) x.frame b)) (receive m' p) ≡ sees 22 (value p)
  -- and so does a message that is invalidated
  pub invalidated_received : (s r : Node) → Sound s → Sound r → (m m' : ℕ) (x x' : FieldRecord) → Mirrors s.layout r.layout m m' x x'
      → instances r m' ≡ [] → answer_of s (invalidate m) ≡ 0 → (b : List ℕ) → answer_of (next s (invalidate m)) (assemble x.frame b) ≡ 0 → (p : ℤ)
      → seen_of (after_round r x'.frame (assembled (next s (invalidate m)) x.frame b)) (receive m' p) ≡ sees 22 (value p)
  -- A message that goes out as valid, whenever it was sent, is received with the value that the sender holds, if the receiver's filter passes it
  pub held_received : (s r : Node) → Sound s → Sound r → (m m' : ℕ) (x x' : FieldRecord) → Mirrors s.layout r.layout m m' x x'
      → instances r m' ≡ [] → goes_valid (message_at s.layout m) (state_at s.state m) ≡ true
      → passes_now (message_at r.layout m') (state_at r.state m') (held_value (message_at s.layout m) (state_at s.state m)) ≡ true
      → (b : List ℕ) → answer_of s (assemble x.frame b) ≡ 0 → (p : ℤ)
      → seen_of (after_round r x'.frame (assembled s x.frame b)) (receive m' p)
      ≡ sees 0 (value (held_value (message_at s.layout m) (state_at s.state m)))
  -- and one that goes out with its status bit cleared, whatever cleared it, is answered 22
  pub cleared_received : (s r : Node) → Sound s → Sound r → (m m' : ℕ) (x x' : FieldRecord) → Mirrors s.layout r.layout m m' x x'
      → instances r m' ≡ [] → goes_valid (message_at s.layout m) (state_at s.state m) ≡ false
      → (b : List ℕ) → answer_of s (assemble x.frame b) ≡ 0 → (p : ℤ)
      → seen_of (after_round r x'.frame (assembled s x.frame b)) (receive m' p) ≡ sees 22 (value p)
  -- For example, on loaded nodes, in which the message has other numbers: what is received there and back, and what replicas show
  pub nodes_loaded : (n : Node) → EachLoaded n
  pub mirror_example : (p : ℤ) → PassedOn p
  pub replicas_example : (p : ℤ) → ReplicasShow p
