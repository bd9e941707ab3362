-- Loading: the verdict on the file, and then the node of an accepted layout; a refusal changes nothing.
-- Assumes nothing.
use Rattle.std.specs.Prelude.{List, ℕ, ◌+◌, ◌*◌, Ok, Err}
use Rattle.layout.specs.Numbers.{number_of, byte_of}
use Rattle.layout.specs.Verdict.{Verdict, verdict}
use Rattle.layout.specs.declared.Refusal.{Refusal}
use Rattle.store.specs.Node.{Node}
use Rattle.start.specs.Start.{start_of}
use Rattle.node.specs.Calls.{Outcome}

-- a refusal's number, 256 times its record and 65,536 times its byte
abbrev pub refusal_answer : Refusal → ℕ → ℕ
refusal_answer refusal at = number_of refusal + 256 * at + 65536 * byte_of refusal

-- 0, or a refusal
abbrev pub loaded : Node → List ℕ → Verdict → Outcome
loaded n s (Ok c) = record { answer = 0; node = start_of s c.frames c.messages c.fields }
loaded n s (Err r) = record { answer = refusal_answer r.refusal r.record; node = n }

unfoldable pub load_of : Node → List ℕ → Outcome
load_of n s = loaded n s (verdict s)
