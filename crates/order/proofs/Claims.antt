-- The theorems on all calls together, each from the file that proves it.
-- Assumes nothing.
use Rattle.node.proofs.Closed.{delivery_closed}
use Rattle.node.proofs.Starts.{sound_load}
use Rattle.order.specs.Claims.{Claims}
use Rattle.order.proofs.OrderOfCalls.{order_of_calls}
use Rattle.order.proofs.Once.{once}
use Rattle.order.proofs.Memories.{layout_kept, ran_means}
use Rattle.order.proofs.Replicas.{replicas_agree, replicas_values}
use Rattle.order.proofs.Kept.{kept_sound}
use Rattle.order.proofs.OwnBits.{own_bits, own_values}
use Rattle.order.proofs.ReceivedKept.{received_kept}
use Rattle.order.proofs.EachRound.{each_round}
use Rattle.order.proofs.EqualBytes.{equal_bytes, closed_bytes, one_file}
use Rattle.order.proofs.FlagHistory.{flag_history, send_clears}
use Rattle.order.proofs.FrameOrder.{field_order}
use Rattle.order.proofs.ThereAndBack.{sent_received, sent_stopped, filtered_received, invalidated_received, held_received, cleared_received}
use Rattle.order.proofs.LoadedNodes.{loaded}
use Rattle.order.proofs.MirrorExample.{mirror_example}
use Rattle.order.proofs.ReplicasExample.{replicas_example}
use Rattle.order.proofs.Floats.{floats_agree, all_aside, mean_shown_lem}
use Rattle.order.proofs.Counting.{frame_order, lowest_agreed, some_lowest, average_agreed, agreed_shown}
use Rattle.order.proofs.Endings.{none_delivered, none_counting, none_agreed, agreed_stopped, not_held, sent_holds, filtered_holds}
use Rattle.order.proofs.Old.{old_held, old_received, sent_kept}
use Rattle.order.proofs.Refusals.{refusal, load_refusal, load_tells}
use Rattle.order.proofs.StoredCalls.{has_run}
use Rattle.order.proofs.StoredLoads.{has_load}
use Rattle.order.proofs.Example.{order_example}
use Rattle.order.proofs.DeliveryHistory.{none_loaded, none_closed, delivery_history}
use Rattle.order.proofs.RoundExample.{round_example}
use Rattle.order.proofs.OwnRound.{last_closing, own_round, own_round_values}

pub claims : Claims
claims =
    record {
      order_of_calls = order_of_calls;
      once = once;
      layout_kept = layout_kept;
      sound_load = sound_load;
      sound_kept = λ n s. kept_sound s;
      own_bits = λ n n' s s'. own_bits s s';
      own_values = λ n n' s s'. own_values s s';
      replicas_agree = λ n n' s s'. replicas_agree s s';
      replicas_values = λ n n' s s'. replicas_values s s';
      received_kept = received_kept;
      field_order = λ l s. field_order s;
      each_round = λ n n' s s'. each_round s s';
      forgotten = λ n s. delivery_closed s;
      equal_bytes = equal_bytes;
      closed_bytes = closed_bytes;
      one_file = one_file;
      flag_history = λ n s. flag_history s;
      send_clears = λ n s. send_clears s;
      sent_received = λ s r sender receiver m m' x x' mirror fresh v sent passed b ok passes p.
          sent_received sender receiver mirror fresh b p v sent passed ok passes;
      sent_stopped = λ s r sender receiver m m' x x' mirror fresh v sent passed b ok fails p.
          sent_stopped sender receiver mirror fresh b p v sent passed ok fails;
      filtered_received = λ s r sender receiver m m' x x' mirror fresh v sent fails b ok p.
          filtered_received sender receiver mirror fresh b p v sent fails ok;
      invalidated_received = λ s r sender receiver m m' x x' mirror fresh done b ok p.
          invalidated_received sender receiver mirror fresh b p done ok;
      held_received = λ s r sender receiver m m' x x' mirror fresh valid passes b ok p.
          held_received sender receiver mirror fresh b ok p valid passes;
      cleared_received = λ s r sender receiver m m' x x' mirror fresh cleared b ok p. cleared_received sender receiver mirror fresh b ok p cleared;
      nodes_loaded = loaded;
      mirror_example = mirror_example;
      replicas_example = replicas_example;
      floats_agree = floats_agree;
      all_aside = λ n s m l received float counting none p. all_aside s m l received float p counting none;
      mean_shown_lem = λ n s m l received float average through v k e p. mean_shown_lem s m l received float p average through v k e;
      frame_order = λ n s. frame_order s;
      lowest_agreed = λ n s. lowest_agreed s;
      some_lowest = λ n s. some_lowest s;
      average_agreed = λ n s. average_agreed s;
      agreed_shown = λ n s. agreed_shown s;
      none_delivered = λ n s. none_delivered s;
      none_counting = λ n s. none_counting s;
      none_agreed = λ n s. none_agreed s;
      agreed_stopped = λ n s. agreed_stopped s;
      not_held = λ n s. not_held s;
      sent_holds = λ n s. sent_holds s;
      filtered_holds = filtered_holds;
      sent_kept = λ n s. sent_kept s;
      old_held = old_held;
      old_received = old_received;
      refusal = refusal;
      load_refusal = load_refusal;
      load_tells = load_tells;
      has_run = has_run;
      run_means = λ b memory l r e ran. let means = ran_means b memory l r e ran in (means.memory, means.seen, means.node);
      has_load = has_load;
      order_example = order_example;
      none_loaded = none_loaded;
      none_closed = λ n s. none_closed s;
      delivery_history = λ n s. delivery_history s;
      last_closing = last_closing;
      own_round = λ n n' s s' m received l l' same. own_round s s' m received same;
      own_round_values = λ n n' s s' m received l l' same. own_round_values s s' m received same;
      round_example = round_example;
    }
