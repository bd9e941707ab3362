-- What the paper says of a node at start holds after every load that answers 0: each message holds its initial value, a received one has
-- status 21, a sent one is valid exactly if it has no status bit, and all fields are gone, so that its flag is set. Each is read off the cells that the
-- load makes.
-- Assumes nothing.
use mathlib.Core.Path.{◌≡◌, refl}
use mathlib.Core.Bool.{Bool, true, false, not, cond}
use mathlib.Core.List.{List}
use Prim.Native.Nat.{ℕ, ◌+◌, ◌<◌, min}
use native.Mathlib.Omega.{arith}
use lib.Dec.{eqb}
use borrow.Author.Tests.{lt-ltb}
use Rattle.whole.specs.Whole.{all_of}
use Rattle.layout.specs.WellLaid.{WellLaid}
use Rattle.store.specs.Node.{Node, message_count, is_sent, no_stage, message_at}
use Rattle.start.specs.Start.{start_status_bit, start_message, start_layout, start_state, start_of}
use Rattle.message.specs.Fields.{is_gone}
use Rattle.own.specs.declared.Owner.{Owner}
use Rattle.own.specs.Own.{cells_of}
use Rattle.node.specs.Calls.{flag_answer, gone_at, flag_of, flag_place, receive_answer}
use Rattle.node.specs.Load.{load_of}
use Rattle.node.specs.Claims.{AtStart}
use Rattle.own.proofs.Starts.{message_at_lem}
use Rattle.node.proofs.Starts.{state_at_lem, load_makes}
use Rattle.own.proofs.Tables.{alike_at, all_pass}

-- a message whose status bit is k, 0 where it has none
valid_without : (k : ℕ) → not (eqb (cond (eqb k 0) 1 0) 0) ≡ not (not (eqb k 0))
valid_without k = go (eqb k 0)
  where
    go : (b : Bool) → not (eqb (cond b 1 0) 0) ≡ not (not b)
    go true = refl
    go false = refl

module _ (s : List ℕ) (F M D : ℕ) where
  abbrev node : Node
  node = start_of s F M D

  all_gone : all_of is_gone node.state.stages ≡ true
  unfolding start_state all_of
  all_gone = refl

  flag_set : (m p : ℕ) → m < message_count node.layout → is_sent (message_at node.layout m) ≡ true → flag_place node m p ≡ 1
  unfolding flag_place flag_answer flag_of start_state
  flag_set m p l sent =
      let gone = all_pass (gone_at node.state) (λ d. rw (alike_at no_stage 128 d)) (cells_of node.layout (Owner.Message m)) in
      rw (lt-ltb m (message_count node.layout) l, sent, gone)

  start_means : WellLaid s F M D → AtStart s node
  unfolding start_layout start_message receive_answer
  start_means w =
      record {
        held = λ m l. rw (message_at_lem s F M D w m (omega arith), state_at_lem s F M D w m (omega arith));
        received = λ m l got. rw (lt-ltb m (min M 32) l, got, state_at_lem s F M D w m (omega arith));
        sent = λ m l sent.
            rw (message_at_lem s F M D w m (omega arith), state_at_lem s F M D w m (omega arith)) (valid_without (start_status_bit s (F + M) D m));
        gone = all_gone;
        flag = flag_set;
      }

pub load_means : (n : Node) (s : List ℕ) → (load_of n s).answer ≡ 0 → AtStart s (load_of n s).node
load_means n s done =
    let made = load_makes n s done in
    rw made.node (start_means s made.frames made.messages made.fields made.well_laid)
