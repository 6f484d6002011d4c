-- What is left of the digits, and where the next of them go.
use Rattle.bits.proofs.Pushing.{Pushing}
use Rattle.bits.proofs.push_field.Given as goal

abbrev pub invariant-loop-left : goal.invariant-loop-left
invariant-loop-left l = Pushing l.fn.s l.p l.w l.all l.s l.left l.k

abbrev pub decreases-loop-left : goal.decreases-loop-left
decreases-loop-left l = l.left
