-- The old value: what a message's filter compares the next value with.
-- Assumes nothing.
use Rattle.std.specs.Prelude.{◌≡◌, ℕ, ℤ}
use Rattle.filter.specs.Filter.{passes}
use Rattle.store.specs.declared.Message.{Message}
use Rattle.store.specs.Node.{Node, message_at, state_at}
use Rattle.message.specs.Messages.{passes_now}

-- what message m's filter passes next is what the paper's filter of that number passes with this value as old
abbrev pub ComparesWith : Node → ℕ → ℤ → Type 0
ComparesWith n m old =
    (new : ℤ) → let g : Message = message_at n.layout m in passes_now g (state_at n.state m) new ≡ passes g.filter g.sign g.x1 g.x2 new old
