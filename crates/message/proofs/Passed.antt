-- Filter 0, True, passes every value.
-- Assumes nothing.
use mathlib.Core.Path.{◌≡◌, refl}
use mathlib.Core.Bool.{true}
use lib.IntN.{ℤ}
use Rattle.filter.specs.Filter.{rules, passes}
use Rattle.store.specs.declared.Message.{Message}
use Rattle.store.specs.declared.MessageState.{MessageState}
use Rattle.message.specs.Messages.{passes_now}

pub true_passes : (g : Message) (s : MessageState) (v : ℤ) → g.filter ≡ 0 → passes_now g s v ≡ true
unfolding rules passes passes_now
true_passes g s v e = rw e refl
