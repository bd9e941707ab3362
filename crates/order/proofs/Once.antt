-- Every public entry point's contract admits a single outcome: most say the outcome as one equation, and a memory is determined by its node.
-- Assumes nothing.
use mathlib.Core.Path.{◌≡◌, ap, ap₂, sym, ◌∙◌}
use mathlib.Core.List.{List}
use Prim.Native.Nat.{ℕ}
use lib.Dec.{T}
use lib.Ieee.{Float, binary32, fits, of_bits}
use lib.Ieee.Bits.{of_bits-to_bits}
use Rattle.float.specs.Running.{Running, running_of}
use Rattle.float.specs.declared.FloatSum.{FloatSum}
use Rattle.store.specs.Node.{Node, node_of}
use Rattle.node.specs.Calls.{Outcome, left}
use Rattle.node.specs.Load.{load_of}
use Rattle.calls.specs.Relations.{Call, Seen, Memory, Does}
use Rattle.order.specs.Once.{Single, Ended, Returned, Once}
use Rattle.order.proofs.Memories.{by_node, does_means}

one : {A : Type 0} (o : A) → Single (λ (r : A). r ≡ o)
one o a b p q = p ∙ sym q

one_memory : (n : Node) → Single (λ (e : List ℕ). Memory e × (node_of e ≡ n))
one_memory n a b p q = by_node a b p.0 q.0 (p.1 ∙ sym q.1)

-- a value of type f32 is that of its pattern
one_sum : (o : Running) → Single (λ (r : FloatSum). T (fits binary32 r.sum) × (running_of r ≡ o))
unfolding running_of
one_sum o a b p q =
    let same = p.1 ∙ sym q.1 in
    ap₂ (λ (s : Float) (c : ℕ). record { sum = s; count = c })
    (sym (of_bits-to_bits binary32 a.sum p.0) ∙ ap (λ (r : Running). of_bits binary32 r.sum) same ∙ of_bits-to_bits binary32 b.sum q.0)
    (ap (λ (r : Running). r.count) same)

one_call : (b : List ℕ) (c : Call) → Single (λ (o : Ended). Memory o.memory × Does b c o.seen o.memory)
one_call b c x y p q =
    let here = does_means b c x.seen x.memory p.1 in
    let there = does_means b c y.seen y.memory q.1 in
    ap₂ (λ (s : Seen) (e : List ℕ). record { seen = s; memory = e }) (here.seen ∙ sym there.seen)
    (by_node x.memory y.memory p.0 q.0 (here.node ∙ sym there.node))

one_load : (b file : List ℕ) → Single (λ (o : Returned). Memory o.memory × (left o.answer o.memory ≡ load_of (node_of b) file))
one_load b file x y p q =
    let same = p.1 ∙ sym q.1 in
    ap₂ (λ (a : ℕ) (e : List ℕ). record { answer = a; memory = e }) (ap (λ (o : Outcome). o.answer) same)
    (by_node x.memory y.memory p.0 q.0 (ap (λ (o : Outcome). o.node) same))

pub once : Once
once =
    record {
      pack = λ frame big start width pattern. one _;
      unpack = λ frame big start width. one _;
      unpack_in = λ room n big start width. one _;
      in_range_lem = λ value width signed. one _;
      value_of_lem = λ pattern width signed. one _;
      pattern_of_lem = λ value. one _;
      word_of = λ a b c d. one _;
      is_extended = λ pattern width signed. one _;
      is_aside = λ x. one _;
      no_sum = one_sum _;
      add = λ s x. one_sum _;
      divide = λ s. one _;
      rank_of_lem = λ x. one _;
      agree = λ agreement instances. one _;
      agree_floats = λ agreement instances. one _;
      pass = λ filter sign x1 x2 new old. one _;
      byte_at_lem = λ file i k. one _;
      record_bytes_lem = λ file i. one _;
      frame_record_lem = λ file i. one _;
      message_record_lem = λ file i. one _;
      field_record_lem = λ file i. one _;
      any_record = λ file i. one _;
      pair_below_lem = λ p r. one _;
      range_fault_lem = λ file i. one _;
      past_end_lem = λ n a. one _;
      runs_meet = λ a b. one _;
      status_run_lem = λ r. one _;
      is_used = λ t f a. one _;
      add_used = λ t f a. one _;
      counts_with = λ c read. one _;
      byte_refusal = λ wrong. one _;
      number_of_lem = λ n. one _;
      byte_of_lem = λ n. one _;
      read_layout = λ file. one _;
      is_big_lem = λ h. one _;
      is_sent_frame_lem = λ h. one _;
      is_event_lem = λ h. one _;
      is_signed_lem = λ g. one _;
      is_float_lem = λ g. one _;
      is_sent_lem = λ g. one _;
      has_status_bit_lem = λ g. one _;
      is_valid_lem = λ s. one _;
      stage_of_lem = λ k. one _;
      code_of_lem = λ t. one _;
      no_message_lem = one _;
      no_state_lem = one _;
      counts_of_lem = λ b. one _;
      has_frame = λ b f. one _;
      has_message = λ b m. one _;
      frame_at_lem = λ b f. one _;
      message_at_lem = λ b m. one _;
      laid_at_lem = λ b d. one _;
      listed_at_lem = λ b i. one _;
      mark_at = λ b f. one _;
      data_length = λ h. one _;
      data_at_lem = λ b f. one _;
      room_at = λ b f. one _;
      state_at_lem = λ b m. one _;
      field_at_lem = λ b d. one _;
      put_mark = λ b f k. one_memory _;
      put_data = λ b f bytes. one_memory _;
      forget_deliveries = λ b n. one_memory _;
      put_state = λ b m s. one_memory _;
      put_stage = λ b d t. one_memory _;
      clear = one_memory _;
      put_counts = λ b frames messages fields. one_memory _;
      put_frame = λ b f h. one_memory _;
      put_message = λ b m g. one_memory _;
      put_laid = λ b d x. one_memory _;
      put_listed = λ b i d. one_memory _;
      smaller = λ a b. one _;
      start = λ file frames messages fields. one_memory _;
      can_hold_lem = λ g value. one _;
      offered_state = λ g s value. one _;
      invalidated_state = λ s. one _;
      settled_state = λ g s none instances. one _;
      stage_after_lem = λ change x. one _;
      is_gone_lem = λ x. one _;
      write_field = λ buffer h g s x. one _;
      places_of_lem = λ b o r s p q. p.0 ∙ sym q.0;
      range_of_lem = λ p. one _;
      cell_at_lem = λ b o i r s p q. p.0 ∙ sym q.0;
      fields_lem = λ b o r s p q. p ∙ sym q;
      own = λ b o d. one _;
      close_round = λ b. one_memory _;
      call = one_call;
      load = one_load;
      list_file = λ file out a b p q.
          ap₂ (λ (n : ℕ) (m : List ℕ). record { answer = n; memory = m }) (p.after ∙ sym q.after) (p.written ∙ sym q.written);
    }
