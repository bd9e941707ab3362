-- `agreement::voted` meets its contract. The loop's invariant: the values of the first i instances are counted, and `ahead` is what they come to.
-- Assumes nothing.
use Rattle.agreement.proofs.Counted.{Counted}
use Rattle.agreement.proofs.voted.Given as goal

abbrev pub invariant-loop-i : goal.invariant-loop-i
invariant-loop-i l = Counted l.instances l.i l.most l.ahead
