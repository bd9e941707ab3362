-- The paper's number of each refusal of a call, and the first two tests: 16 and then 17.
-- Assumes nothing.
use Rattle.std.specs.Prelude.{Bool, not, cond, ℕ, ltb}
use Rattle.std.specs.declared.result.Result.{Result}
use Rattle.std.specs.Prelude.{Ok, Err}
use Rattle.store.specs.declared.Frame.{Frame}
use Rattle.store.specs.declared.Message.{Message}
use Rattle.store.specs.Node.{Layout, frame_count, message_count, is_sent, is_sent_frame, frame_at, message_at}
use Rattle.node.specs.declared.CallRefusal.{CallRefusal}
use Rattle.node.specs.declared.Way.{Way}

-- 16 ID, 17 ACCESS, 18 VALUE, 19 NOFUNC, 23 SUPPRESSED
abbrev pub number_of : CallRefusal → ℕ
number_of CallRefusal.Id = 16
number_of CallRefusal.Access = 17
number_of CallRefusal.Value = 18
number_of CallRefusal.NoFunc = 19
number_of CallRefusal.Suppressed = 23

-- 0 OK, or the refusal's number
abbrev pub answer_of : {A : Type 0} → Result A CallRefusal → ℕ
answer_of (Ok x) = 0
answer_of (Err refused) = number_of refused

-- what is sent goes one way, and what is not the other
abbrev pub goes : Way → Bool → Bool
goes Way.Received sent = not sent
goes Way.Sent sent = sent

-- the message or frame of that number, if it goes that way
abbrev pub message_of : Layout → ℕ → Way → Result (ℕ × Message) CallRefusal
message_of l m way =
    cond (not (ltb m (message_count l))) (Err CallRefusal.Id) (cond (not (goes way (is_sent (message_at l m)))) (Err CallRefusal.Access) (Ok (m, message_at l m)))

abbrev pub frame_of : Layout → ℕ → Way → Result (ℕ × Frame) CallRefusal
frame_of l f way =
    cond (not (ltb f (frame_count l))) (Err CallRefusal.Id) (cond (not (goes way (is_sent_frame (frame_at l f)))) (Err CallRefusal.Access) (Ok (f, frame_at l f)))
