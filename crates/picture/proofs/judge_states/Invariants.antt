-- `judge_states` finds the first slot without one of the three states. Assumes nothing.
use mathlib.Core.Bool.{false}
use Rattle.picture.specs.Picture.{Slot, picture_with}
use Rattle.picture.specs.Faults.{state_fault}
use Rattle.picture.proofs.Finding.{Scanning}
use Rattle.picture.proofs.judge_states.Given as goal

-- what stands past the end of the slots
abbrev pub none : Slot
none = record { state = 2; near = false }

abbrev pub invariant-loop-i : goal.invariant-loop-i
invariant-loop-i l = Scanning (λ q. state_fault q.state) none (picture_with l.h l.s).slots l.h.slots l.i
