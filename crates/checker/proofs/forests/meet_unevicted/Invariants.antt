-- `meet_unevicted` looks for a common mark outside a range. The invariant: the words passed have none. Assumes nothing.
use Rattle.checker.proofs.Outside.{Apart}
use Rattle.checker.proofs.forests.meet_unevicted.Given as goal

abbrev pub invariant-loop-i : goal.invariant-loop-i
invariant-loop-i l = Apart l.evicted l.row l.other l.i
