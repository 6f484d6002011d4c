-- `judge_states` finds the first state that is none of the three. Assumes nothing.
use lib.ListN.{length}
use Rattle.picture.specs.Faults.{state_fault}
use Rattle.picture.proofs.Finding.{Scanning}
use Rattle.write.proofs.judge_states.Given as goal

abbrev pub invariant-loop-state : goal.invariant-loop-state
invariant-loop-state l = Scanning state_fault 0 l.states (length l.states) l.state-index
